use Rattle.std.proofs.Common.{◌+◌, ◌≤◌, arith}
use Rattle.std.proofs.lemmas.Result.{on_ok_weaker}
use Rattle.gw_run.proofs.Counted.{short_bits}
use Rattle.gw_run.proofs.Fills.{all_full, all_have_past, lanes_filled, no_turns, no_turns_on, none_to_fill}
use Rattle.gw_run.proofs.Fills.{none_turns, world_filled}
use Rattle.gw_run.proofs.Keeps.{sites-on, sites-self, sites_bit, sites_of_first}
use Rattle.gw_run.proofs.Passes.{lanes_on, lanes_start}
use Rattle.gw_run.proofs.Stretches.{far_made, idle_made, idle_moves, up_to_more}
use Rattle.gw_run.proofs.Worlds.{world_bits}
use Rattle.gw_run.proofs.world.make_until.Goals as goal

pub loop-tick-init : goal.loop-tick-init
loop-tick-init g c =
    let bits = c.in_ok-make_bits.ensures in
    record {
      world = bits.world c.args.lanes.now c.requires.world;
      made = bits.made;
      first = omega arith;
      last = omega (arith, c.requires.more);
      turned = no_turns c.args.lanes.now;
      full = λ later. absurd (omega (arith, later));
      lanes = lanes_start c.args.lanes.now;
      keeps = bits.keeps c.args.lanes.now;
      short = λ h. short_bits c.args.sites.now c.make_bits-2.new.sites bits.moves h;
    }

pub fill_all-requires : goal.fill_all-requires
fill_all-requires g c =
    all_have_past c.loop-tick.sites c.loop-tick.lanes c.loop-tick.invariant.world

pub idle_until-tick-requires-clause-may : goal.idle_until-tick-requires-clause-may
idle_until-tick-requires-clause-may g c i site e =
    let held = c.loop-tick.invariant in
    (held.world.each_site i site e, (c.loop-tick.tick, omega arith, held.made.ahead i site e))

pub idle_until-tick-requires-clause-far : goal.idle_until-tick-requires-clause-far
idle_until-tick-requires-clause-far g c =
    far_made c.args.bits c.loop-tick.tick c.loop-tick.sites c.loop-tick.invariant.made

pub make_bits-requires-in-loop-tick-clause-holds : goal.make_bits-requires-in-loop-tick-clause-holds
make_bits-requires-in-loop-tick-clause-holds g c =
    let held = c.loop-tick.invariant in
    let moves = idle_moves (c.idle_until-tick.result + 1) c.loop-tick.sites c.idle_until-tick.new.sites
    c.idle_until-tick.ensures.idle in
    (world_bits c.loop-tick.sites c.idle_until-tick.new.sites c.loop-tick.lanes moves held.world).each_site

pub make_bits-requires-in-loop-tick-clause-before : goal.make_bits-requires-in-loop-tick-clause-before
make_bits-requires-in-loop-tick-clause-before g c =
    let held = c.loop-tick.invariant in
    let idle = c.idle_until-tick.ensures in
    idle_made c.args.bits c.loop-tick.tick (c.idle_until-tick.result + 1) c.loop-tick.sites c.idle_until-tick.new.sites
    (omega (arith, idle.most, c.requires.until, c.loop-tick-test.true)) held.made idle.idle

pub loop-tick-preserved : goal.loop-tick-preserved
loop-tick-preserved g c =
    let first = c.args.lanes.now in
    let before = c.args.sites.now in
    let held = c.loop-tick.invariant in
    let lanes = c.loop-tick.lanes in
    let filled = c.fill_all.new.lanes in
    let fills = c.in_ok-fill_all.ensures in
    let idle = c.idle_until-tick.ensures in
    let idled = c.idle_until-tick.new.sites in
    let moves = idle_moves (c.idle_until-tick.result + 1) c.loop-tick.sites idled idle.idle in
    let bits = c.in_ok-make_bits-2.ensures in
    let sites = c.make_bits-in-loop-tick.new.sites in
    let world = world_filled lanes filled fills c.loop-tick.sites held.world in
    record {
      world = bits.world filled (world_bits c.loop-tick.sites idled filled moves world);
      made = bits.made;
      first = omega (arith, held.first, idle.least);
      last = omega (arith, idle.most, c.loop-tick-test.true);
      turned = no_turns_on first lanes filled held.turned (none_turns lanes filled fills);
      full = λ later. all_full lanes filled fills;
      lanes = lanes_on first lanes filled held.lanes (lanes_filled lanes filled fills);
      keeps = sites-on first before idled sites
          (sites-on first before c.loop-tick.sites idled held.keeps (sites_bit first c.loop-tick.sites idled moves))
          (bits.keeps first);
      short = λ h. short_bits idled sites bits.moves (short_bits c.loop-tick.sites idled moves (held.short h));
    }

pub make_bits-requires-clause-before : goal.make_bits-requires-clause-before
make_bits-requires-clause-before g c = up_to_more c.args.bits (c.args.made + 1) c.args.until c.args.sites.now
    (omega (arith, c.requires.more)) c.requires.made

pub returns-then-not-queues-clause-world : goal.returns-then-not-queues-clause-world
returns-then-not-queues-clause-world g c = on_ok_weaker c.make_bits.result
    (λ world. world c.args.lanes.now c.requires.world) c.make_bits.ensures.world

pub returns-then-not-queues-clause-turned : goal.returns-then-not-queues-clause-turned
returns-then-not-queues-clause-turned g c = on_ok_weaker c.make_bits.result
    (λ made. no_turns c.args.lanes.now) c.make_bits.ensures.made

pub returns-then-not-queues-clause-full : goal.returns-then-not-queues-clause-full
returns-then-not-queues-clause-full g c = on_ok_weaker c.make_bits.result
    (λ made later. none_to_fill c.args.lanes.now (c.requires.queues c.if-not-queues.true))
    c.make_bits.ensures.made

pub returns-then-not-queues-clause-short : goal.returns-then-not-queues-clause-short
returns-then-not-queues-clause-short g c = on_ok_weaker c.make_bits.result
    (λ moves h. short_bits c.args.sites.now c.make_bits.new.sites moves h) c.make_bits.ensures.moves

pub returns-then-not-queues-clause-lanes : goal.returns-then-not-queues-clause-lanes
returns-then-not-queues-clause-lanes g c = on_ok_weaker c.make_bits.result
    (λ made. lanes_start c.args.lanes.now) c.make_bits.ensures.made

pub returns-then-not-queues-clause-keeps : goal.returns-then-not-queues-clause-keeps
returns-then-not-queues-clause-keeps g c =
    on_ok_weaker c.make_bits.result (λ keeps. keeps c.args.lanes.now) c.make_bits.ensures.keeps
