use Rattle.std.proofs.Common.{◌≡◌, cond, true}
use Rattle.can_station.specs.Members.{drives_at}
use Rattle.can_station.proofs.PlaceSets.{EachBut}
use Rattle.can_station.proofs.members.all_recessive.Given as goal

abbrev pub invariant-loop-place : goal.invariant-loop-place
invariant-loop-place l =
    EachBut (λ k m. cond m.is_deferred l.deferred_level (drives_at l.bit m) ≡ true) l.members l.left

abbrev pub decreases-loop-place : goal.decreases-loop-place
decreases-loop-place l = l.left.bits
