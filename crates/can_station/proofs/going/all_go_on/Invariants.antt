use Rattle.std.proofs.Common.{◌≡◌, false}
use Rattle.can_station.specs.DeferredNodes.{MayGo}
use Rattle.can_station.proofs.PlaceSets.{EachBut}
use Rattle.can_station.proofs.going.all_go_on.Given as goal

abbrev pub invariant-loop-place : goal.invariant-loop-place
invariant-loop-place l =
    EachBut (λ k m. m.is_deferred ≡ false → MayGo l.bit l.level m) l.members l.left

abbrev pub decreases-loop-place : goal.decreases-loop-place
decreases-loop-place l = l.left.bits
