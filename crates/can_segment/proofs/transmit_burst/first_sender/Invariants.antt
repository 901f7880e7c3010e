use Rattle.std.proofs.Common.{ℕ, ◌<◌, length}
use Rattle.can_station.specs.PlaceSets.{HasPlace}
use Rattle.can_segment.proofs.transmit_burst.first_sender.Given as goal

abbrev pub invariant-loop-place : goal.invariant-loop-place
invariant-loop-place l = (k : ℕ) → HasPlace l.left k → k < length l.members

abbrev pub decreases-loop-place : goal.decreases-loop-place
decreases-loop-place l = l.left.bits
