use Rattle.std.proofs.Common.{◌≡◌, inl, inr, get_or, sym, ap, slice_get, arith, ◌∙◌}
use Rattle.std.proofs.lemmas.Bool.{cases_lt}
use Rattle.std.proofs.lemmas.Option.{slice_get-get_or, slice_get_within}
use Rattle.can_station.proofs.Places.{same_some}
use Rattle.gw_run.specs.Schedules.{next_due}
use Rattle.gw_run.specs.declared.schedule.Schedule.{Schedule}
use Rattle.gw_run.proofs.Schedules.{due_later}
use Rattle.gw_run.proofs.schedule.first_due.Goals as goal

pub loop-schedule-preserved : goal.loop-schedule-preserved
loop-schedule-preserved c =
    let held = c.loop-schedule.invariant in
    let schedules = c.args.schedules.now in
    let index = c.loop-schedule.schedule-index in
    let none : Schedule = record { every = 0; burst = 0 } in
    let there = slice_get-get_or schedules index none c.loop-schedule-test.true in
    let later = due_later (get_or schedules index none) c.args.ticks (c.requires.schedules index _ there).every in (
      omega (arith, held.0, later, c.next_due.ensures, c.min-first.ensures),
      omega (arith, held.1, c.min-first.ensures),
      λ k s less e. elim (cases_lt k index) [
        | inl before ↦ (let most = held.2 k s before e in omega (arith, most, c.min-first.ensures))
        | inr here ↦
            let same : k ≡ index = omega (arith, here, less) in
            let is : get_or schedules index none ≡ s =
            same_some _ s (sym there ∙ ap (slice_get schedules) (sym same) ∙ e) in
            let due = c.next_due.ensures ∙ ap (λ x. next_due x c.args.ticks) is in
            omega (arith, due, c.min-first.ensures)
      ],
    )

-- the next tick is no later than the first one at which any route's turns are due
pub returns-then-schedule-eq1-clause-first : goal.returns-then-schedule-eq1-clause-first
returns-then-schedule-eq1-clause-first c k s e =
    let later = due_later s c.args.ticks (c.requires.schedules k s e).every in omega (arith, later)

pub returns-clause-first : goal.returns-clause-first
returns-clause-first c k s e = c.loop-schedule.invariant.2 k s
    (let within = slice_get_within c.args.schedules.now k s e in
    let end = c.loop-schedule-test.false in omega (arith, within, end)) e
