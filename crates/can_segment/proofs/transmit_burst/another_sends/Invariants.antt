use Rattle.std.proofs.Common.{ℕ, ◌<◌, length}
use Rattle.can_station.specs.PlaceSets.{HasPlace}
use Rattle.can_segment.proofs.transmit_burst.another_sends.Given as goal

abbrev pub invariant-loop-other : goal.invariant-loop-other
invariant-loop-other l = (k : ℕ) → HasPlace l.left k → k < length l.members

abbrev pub decreases-loop-other : goal.decreases-loop-other
decreases-loop-other l = l.left.bits
