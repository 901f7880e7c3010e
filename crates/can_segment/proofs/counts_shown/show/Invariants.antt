use Rattle.can_segment.proofs.Shown.{ShownBut}
use Rattle.can_segment.proofs.counts_shown.show.Given as goal

abbrev pub invariant-loop-place : goal.invariant-loop-place
invariant-loop-place l = ShownBut l.first l.members l.initial.counters.items l.counters.items l.left

abbrev pub decreases-loop-place : goal.decreases-loop-place
decreases-loop-place l = l.left.bits
