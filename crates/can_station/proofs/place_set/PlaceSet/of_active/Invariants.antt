use Rattle.can_station.proofs.PlaceSets.{ActiveBelow}
use Rattle.can_station.proofs.place_set.PlaceSet.of_active.Given as goal

abbrev pub invariant-loop-place : goal.invariant-loop-place
invariant-loop-place l = ActiveBelow l.set l.members l.place
