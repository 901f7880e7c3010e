use Rattle.can_segment.proofs.Shown.{ShownBelow}
use Rattle.can_segment.proofs.counts_shown.show_each.Given as goal

abbrev pub invariant-loop-place : goal.invariant-loop-place
invariant-loop-place l = ShownBelow l.first l.members l.initial.counters.items l.counters.items l.place
