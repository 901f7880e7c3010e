use Rattle.can_station.proofs.Places.{AtPlacesBut}
use Rattle.can_station.specs.DeferredNodes.{ClearsAction, IfActive}
use Rattle.can_station.proofs.resume.clear_actions.Given as goal

abbrev pub invariant-loop-place : goal.invariant-loop-place
invariant-loop-place l =
    AtPlacesBut (λ k. IfActive (ClearsAction l.reported)) l.initial.members l.members l.left

abbrev pub decreases-loop-place : goal.decreases-loop-place
decreases-loop-place l = l.left.bits
