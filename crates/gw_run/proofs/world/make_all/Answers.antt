use Rattle.std.proofs.Common.{rules, ◌≡◌, arith, subst}
use Rattle.std.proofs.lemmas.Result.{on_ok_weaker}
use Rattle.gw_run.specs.Worlds.{HaveMade, HaveTurned}
use Rattle.gw_run.proofs.Counted.{short_bits, turned_before}
use Rattle.gw_run.proofs.Fills.{none_queues}
use Rattle.gw_run.proofs.Passes.{lanes_start, lanes_on, made_turns}
use Rattle.gw_run.proofs.Keeps.{sites-self, sites-on, sites_of_first}
use Rattle.gw_run.proofs.Stretches.{made_up_to}
use Rattle.gw_run.proofs.world.make_all.Goals as goal

pub make_bits-requires-clause-before : goal.make_bits-requires-clause-before
make_bits-requires-clause-before g c =
    made_up_to c.args.bits 0 c.args.bits c.args.sites.now (omega arith) c.requires.made

pub loop-made-init : goal.loop-made-init
loop-made-init g c = (
  c.requires.world,
  c.requires.made,
  lanes_start c.args.lanes.now,
  sites-self c.args.lanes.now c.args.sites.now,
  c.requires.turned,
  (λ h. h),
  omega arith,
  (λ is. absurd (cc is)),
  c.one_queues-queues.ensures,
)

pub loop-made-preserved : goal.loop-made-preserved
loop-made-preserved g c =
    let first = c.args.lanes.now in
    let sites = c.args.sites.now in
    let held = c.loop-made.invariant in
    let mid = c.stretch-made.ensures in
    let until = c.in_ok-make_until.ensures in
    let served = c.in_ok-idle.ensures in
    let due = c.first_due-due in
    let lanes = lanes_on first c.loop-made.lanes c.stretch-made.new.lanes held.2 mid.lanes in
    let keeps = sites-on first sites c.loop-made.sites c.stretch-made.new.sites held.3
    (sites_of_first first c.loop-made.lanes c.loop-made.sites c.stretch-made.new.sites held.2 mid.keeps) in
    let lanes_until = lanes_on first c.stretch-made.new.lanes c.make_until.new.lanes lanes until.lanes in
    let keeps_until = sites-on first sites c.stretch-made.new.sites c.make_until.new.sites keeps
    (sites_of_first first c.stretch-made.new.lanes c.stretch-made.new.sites c.make_until.new.sites lanes until.keeps)
    in (
      served.world,
      made_turns c.args.bits due.result c.make_until.new.sites c.make_turns.new.sites served.segments until.made,
      lanes_on first c.make_until.new.lanes c.make_turns.new.lanes lanes_until served.lanes,
      sites-on first sites c.make_until.new.sites c.make_turns.new.sites keeps_until
          (sites_of_first first c.make_until.new.lanes c.make_until.new.sites c.make_turns.new.sites lanes_until
          served.keeps),
      served.turned,
      (λ h. served.short (until.short (mid.short (held.5 h)))),
      due.ensures.most,
      served.idle,
      λ none. none_queues c.make_until.new.lanes c.make_turns.new.lanes served.lanes
          (none_queues c.stretch-made.new.lanes c.make_until.new.lanes until.lanes
          (none_queues c.loop-made.lanes c.stretch-made.new.lanes mid.lanes (held.8 none))),
    )

pub make_until-requires-clause-queues : goal.make_until-requires-clause-queues
make_until-requires-clause-queues g c none =
    none_queues c.loop-made.lanes c.stretch-made.new.lanes c.stretch-made.ensures.lanes (c.loop-made.invariant.8 none)

pub returns-then-is_empty-clause-short : goal.returns-then-is_empty-clause-short
returns-then-is_empty-clause-short g c = on_ok_weaker c.make_bits.result
    (λ moves h. short_bits c.args.sites.now c.make_bits.new.sites moves h) c.make_bits.ensures.moves

pub returns-then-is_empty-clause-keeps : goal.returns-then-is_empty-clause-keeps
returns-then-is_empty-clause-keeps g c =
    on_ok_weaker c.make_bits.result (λ keeps. keeps c.args.lanes.now) c.make_bits.ensures.keeps

pub returns-clause-made : goal.returns-clause-made
returns-clause-made g c =
    let held = c.loop-made.invariant in
    let all : c.loop-made.made ≡ c.args.bits = omega (arith, c.loop-made-test.false, held.6) in
    subst (λ n. HaveMade c.args.bits n c.loop-made.sites) all held.1

pub returns-clause-turned : goal.returns-clause-turned
returns-clause-turned g c =
    let held = c.loop-made.invariant in
    let all : c.loop-made.made ≡ c.args.bits = omega (arith, c.loop-made-test.false, held.6) in
    subst (λ n. HaveTurned c.args.schedules.now n c.loop-made.lanes) all held.4

pub make_turns-requires-clause-turned : goal.make_turns-requires-clause-turned
make_turns-requires-clause-turned g c =
    turned_before c.args.schedules.now c.stretch-made.result c.stretch-made.new.lanes c.make_until.new.lanes
    c.in_ok-make_until.ensures.turned c.stretch-made.ensures.turned
