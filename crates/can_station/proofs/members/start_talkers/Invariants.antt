use Rattle.can_station.proofs.Places.{AtPlacesBut}
use Rattle.can_station.specs.Members.{TalkerStarts}
use Rattle.can_station.specs.DeferredNodes.{IfActive}
use Rattle.can_station.proofs.members.start_talkers.Given as goal

abbrev pub invariant-loop-place : goal.invariant-loop-place
invariant-loop-place l =
    AtPlacesBut (λ k. IfActive (TalkerStarts l.bit l.talkers k)) l.initial.members l.members l.left

abbrev pub decreases-loop-place : goal.decreases-loop-place
decreases-loop-place l = l.left.bits
