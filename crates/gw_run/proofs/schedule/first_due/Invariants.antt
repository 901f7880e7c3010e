use Rattle.std.proofs.Common.{◌≡◌, ◌<◌, ◌≤◌, ℕ, Some, slice_get}
use Rattle.gw_run.specs.Schedules.{next_due}
use Rattle.gw_run.specs.declared.schedule.Schedule.{Schedule}
use Rattle.gw_run.proofs.schedule.first_due.Given as goal

abbrev pub invariant-loop-schedule : goal.invariant-loop-schedule
invariant-loop-schedule l = (l.ticks < l.first) × (l.first ≤ l.last) × ((k : ℕ) (s : Schedule) →
    k < l.schedule-index → slice_get l.schedules k ≡ Some s → l.first ≤ next_due s l.ticks)
