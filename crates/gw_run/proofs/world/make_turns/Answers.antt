use Rattle.std.proofs.Common.{arith}
use Rattle.std.proofs.lemmas.Result.{on_ok_weaker}
use Rattle.gw_run.specs.Worlds.{idle_turns}
use Rattle.gw_run.proofs.Counted.{turned_on}
use Rattle.gw_run.proofs.Fills.{no_turns}
use Rattle.gw_run.proofs.Keeps.{sites-self}
use Rattle.gw_run.proofs.Passes.{segments_start}
use Rattle.gw_run.proofs.Stretches.{idle_turned, lanes_idled, none_to_do, world_idled}
use Rattle.gw_run.proofs.world.make_turns.Goals as goal

pub returns-then-waits-clause-world : goal.returns-then-waits-clause-world
returns-then-waits-clause-world g c =
    world_idled (idle_turns c.args.schedules.now c.args.made c.args.due) c.args.sites.now c.args.lanes.now
    c.idle_lanes.new.lanes c.idle_lanes.ensures c.requires.world

pub returns-then-waits-clause-turned : goal.returns-then-waits-clause-turned
returns-then-waits-clause-turned g c =
    idle_turned c.args.schedules.now c.args.made c.args.due c.args.lanes.now c.idle_lanes.new.lanes
    c.requires.schedules (omega (arith, c.requires.later)) c.idle_lanes.ensures c.requires.turned

pub returns-then-waits-clause-idle : goal.returns-then-waits-clause-idle
returns-then-waits-clause-idle g c is =
    (none_to_do (idle_turns c.args.schedules.now c.args.made c.args.due) c.args.lanes.now c.idle_lanes.new.lanes
    c.idle_lanes.ensures (c.requires.waits c.if-waits.true)).0

pub returns-then-waits-clause-segments : goal.returns-then-waits-clause-segments
returns-then-waits-clause-segments g c = segments_start c.args.sites.now

pub returns-then-waits-clause-lanes : goal.returns-then-waits-clause-lanes
returns-then-waits-clause-lanes g c = lanes_idled (idle_turns c.args.schedules.now c.args.made c.args.due)
    c.args.lanes.now c.idle_lanes.new.lanes c.idle_lanes.ensures

pub returns-then-waits-clause-keeps : goal.returns-then-waits-clause-keeps
returns-then-waits-clause-keeps g c = sites-self c.args.lanes.now c.args.sites.now

pub returns-clause-turned : goal.returns-clause-turned
returns-clause-turned g c = on_ok_weaker c.serve_all.result
    (λ counted. turned_on c.args.schedules.now c.args.made c.args.due c.args.lanes.now c.args.lanes.now
    c.serve_all.new.lanes c.requires.schedules c.requires.later c.requires.first (no_turns c.args.lanes.now) counted
    c.requires.turned) c.serve_all.ensures.counted
