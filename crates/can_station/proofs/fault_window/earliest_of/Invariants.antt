use Rattle.can_station.proofs.Earliest.{EarliestFrom}
use Rattle.can_station.proofs.fault_window.earliest_of.Given as goal

abbrev pub invariant-loop-place : goal.invariant-loop-place
invariant-loop-place l = EarliestFrom l.place l.ranges l.earliest.items l.least
