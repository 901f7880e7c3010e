use Rattle.can_station.proofs.Places.{AtPlacesBut}
use Rattle.can_station.specs.DeferredNodes.{GoesAsItMay, IfActive}
use Rattle.can_station.proofs.going.go_on_by.Given as goal

abbrev pub invariant-loop-place : goal.invariant-loop-place
invariant-loop-place l =
    AtPlacesBut (λ k. IfActive (GoesAsItMay l.levels)) l.fn.members l.members l.left

abbrev pub decreases-loop-place : goal.decreases-loop-place
decreases-loop-place l = l.left.bits
