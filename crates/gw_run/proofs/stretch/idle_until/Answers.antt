use Rattle.std.proofs.Common.{rules, ◌+◌, ◌≤◌, arith}
use Rattle.can_station.specs.Places.{AtPlaces}
use Rattle.gw_run.specs.Sites.{SiteIdles}
use Rattle.gw_run.proofs.Stretches.{far_on, idle_both, idle_up, may_idle_on}
use Rattle.gw_run.proofs.stretch.idle_until.Goals as goal
use Rattle.gw_run.proofs.stretch.idle_until.Goals.{After-all_idle_until-made}

pub all_idle_on-requires : goal.all_idle_on-requires
all_idle_on-requires c = may_idle_on (c.loop-made.made + 1) c.args.sites.now c.loop-made.sites
    c.loop-made.invariant.0

pub returns-then-not-all_idle_on-clause-idle : goal.returns-then-not-all_idle_on-clause-idle
returns-then-not-all_idle_on-clause-idle c =
    idle_both (c.loop-made.made + 1) c.args.sites.now c.loop-made.sites c.all_idle_on.new.sites
    c.loop-made.invariant.0 c.all_idle_on.ensures.idle

-- the next bit is made, so all get up to one behind it
later : (c : After-all_idle_until-made) → c.loop-made.made + 1 ≤ c.all_idle_until-made.result
later c = c.all_idle_until-made.ensures.least (c.loop-made.made + 1) (omega (arith, c.loop-made-test.true))
    (c.all_idle_on.ensures.far (search rules))

so_far : (c : After-all_idle_until-made) →
    AtPlaces (λ i. SiteIdles c.all_idle_until-made.result) c.args.sites.now c.all_idle_on.new.sites
so_far c = idle_up (c.loop-made.made + 1) c.all_idle_until-made.result c.args.sites.now c.all_idle_on.new.sites (later c)
    (idle_both (c.loop-made.made + 1) c.args.sites.now c.loop-made.sites c.all_idle_on.new.sites
    c.loop-made.invariant.0 c.all_idle_on.ensures.idle)

pub all_idle_on-requires-in-loop-made : goal.all_idle_on-requires-in-loop-made
all_idle_on-requires-in-loop-made c =
    may_idle_on c.all_idle_until-made.result c.args.sites.now c.all_idle_on.new.sites (so_far c.before)

pub loop-made-preserved : goal.loop-made-preserved
loop-made-preserved c =
    let made = c.all_idle_until-made.result in (
      idle_up made (made + 1) c.args.sites.now c.all_idle_on-in-loop-made.new.sites (omega arith)
          (idle_both made c.args.sites.now c.all_idle_on.new.sites c.all_idle_on-in-loop-made.new.sites
          (so_far c.before.before.before) c.all_idle_on-in-loop-made.ensures.idle),
      omega (arith, c.loop-made.invariant.1, later c.before.before.before),
      c.all_idle_until-made.ensures.most,
      c.all_idle_on-in-loop-made.ensures.reach c.all_idle_until-made.ensures.reach,
    )

pub returns-then-not-all_idle_on-clause-far : goal.returns-then-not-all_idle_on-clause-far
returns-then-not-all_idle_on-clause-far c =
    far_on (c.loop-made.made + 1) c.loop-made.made c.loop-made.sites c.all_idle_on.new.sites c.all_idle_on.ensures.idle
    c.loop-made.invariant.3
