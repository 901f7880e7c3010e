use Rattle.std.proofs.Common.{◌+◌, arith}
use Rattle.gw_run.proofs.Counted.{short_bits}
use Rattle.gw_run.proofs.Stretches.{none_to_do}
use Rattle.gw_run.proofs.Stretches.{far_made, idle_made, idle_moves, idle_turned, lanes_idled, made_up_to}
use Rattle.gw_run.proofs.Stretches.{world_idled}
use Rattle.gw_run.proofs.Worlds.{world_bits}
use Rattle.gw_run.specs.Worlds.{idle_turns}
use Rattle.gw_run.proofs.stretch.stretch.Goals as goal

pub returns-then-not-waits-clause-made : goal.returns-then-not-waits-clause-made
returns-then-not-waits-clause-made c =
    made_up_to c.args.bits c.args.made (c.args.made + 1) c.args.sites.now (omega arith) c.requires.made

pub idle_until-next-requires-clause-may : goal.idle_until-next-requires-clause-may
idle_until-next-requires-clause-may c i site e =
    (c.requires.world.each_site i site e, (c.args.made, omega arith, c.requires.made.ahead i site e))

pub returns-clause-world : goal.returns-clause-world
returns-clause-world c =
    let sites = c.idle_until-next.new.sites in
    let moves = idle_moves (c.idle_until-next.result + 1) c.args.sites.now sites c.idle_until-next.ensures.idle in
    world_idled (idle_turns c.args.schedules.now c.args.made c.idle_until-next.result) sites c.args.lanes.now
    c.idle_lanes.new.lanes c.idle_lanes.ensures
    (world_bits c.args.sites.now sites c.args.lanes.now moves c.requires.world)

pub returns-clause-made : goal.returns-clause-made
returns-clause-made c = idle_made c.args.bits c.args.made (c.idle_until-next.result + 1) c.args.sites.now
    c.idle_until-next.new.sites (omega (arith, c.idle_until-next.ensures.most, c.requires.still)) c.requires.made
    c.idle_until-next.ensures.idle

pub returns-clause-turned : goal.returns-clause-turned
returns-clause-turned c = idle_turned c.args.schedules.now c.args.made c.idle_until-next.result c.args.lanes.now
    c.idle_lanes.new.lanes c.requires.schedules c.idle_until-next.ensures.least c.idle_lanes.ensures c.requires.turned

pub returns-clause-short : goal.returns-clause-short
returns-clause-short c = short_bits c.args.sites.now c.idle_until-next.new.sites
    (idle_moves (c.idle_until-next.result + 1) c.args.sites.now c.idle_until-next.new.sites
    c.idle_until-next.ensures.idle)

pub returns-clause-lanes : goal.returns-clause-lanes
returns-clause-lanes c = lanes_idled (idle_turns c.args.schedules.now c.args.made c.idle_until-next.result)
    c.args.lanes.now c.idle_lanes.new.lanes c.idle_lanes.ensures

pub returns-then-not-waits-clause-far : goal.returns-then-not-waits-clause-far
returns-then-not-waits-clause-far c = far_made c.args.bits c.args.made c.args.sites.now c.requires.made

pub idle_until-next-requires-clause-far : goal.idle_until-next-requires-clause-far
idle_until-next-requires-clause-far c = far_made c.args.bits c.args.made c.args.sites.now c.requires.made

pub returns-clause-waits : goal.returns-clause-waits
returns-clause-waits c is =
    none_to_do (idle_turns c.args.schedules.now c.args.made c.idle_until-next.result) c.args.lanes.now
    c.idle_lanes.new.lanes c.idle_lanes.ensures (c.requires.waits is)
