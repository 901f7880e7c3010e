use Rattle.can_station.proofs.Places.{AtPlacesBut}
use Rattle.can_station.specs.DeferredNodes.{IfActive, MemberGoes}
use Rattle.can_station.proofs.going.go_on.Given as goal

abbrev pub invariant-loop-place : goal.invariant-loop-place
invariant-loop-place l =
    AtPlacesBut (λ k. IfActive (MemberGoes l.bit l.level)) l.initial.members l.members l.left

abbrev pub decreases-loop-place : goal.decreases-loop-place
decreases-loop-place l = l.left.bits
