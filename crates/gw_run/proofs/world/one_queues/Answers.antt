use Rattle.std.proofs.Common.{rules, ◌≡◌, inl, inr, None, sym, ap, subst, slice_get, arith, ◌∙◌}
use Rattle.std.proofs.lemmas.Bool.{cases_lt}
use Rattle.std.proofs.lemmas.Option.{slice_get-get_or, slice_get_within}
use Rattle.can_station.proofs.Places.{same_some}
use Rattle.gw_opening.specs.declared.lane.Lane.{Lane}
use Rattle.gw_run.proofs.world.one_queues.Goals as goal

pub loop-lane-preserved : goal.loop-lane-preserved
loop-lane-preserved c k lane less e = elim (cases_lt k c.loop-lane.lane-index) [
  | inl before ↦ c.loop-lane.invariant k lane before e
  | inr here ↦
      let same : k ≡ c.loop-lane.lane-index = omega (arith, here, less) in
      let is : lane ≡ c.lane-item.result = same_some lane _ (sym e ∙ ap (slice_get c.args.lanes.now) same
      ∙ slice_get-get_or c.args.lanes.now c.loop-lane.lane-index c.lane-item.result (search rules))
      ∙ sym c.lane-item.is in
      let none : c.lane-item.result.hand.queue ≡ None = search rules in
      subst (λ (l : Lane). l.hand.queue ≡ None) (sym is) none
]

pub returns : goal.returns
returns c is k lane e = c.loop-lane.invariant k lane
    (let within = slice_get_within c.args.lanes.now k lane e in
    let end = c.loop-lane-test.false in omega (arith, within, end)) e
