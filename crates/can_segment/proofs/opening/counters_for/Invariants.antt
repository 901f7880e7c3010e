use Rattle.std.proofs.Common.{◌≡◌, length}
use Rattle.can_segment.proofs.opening.counters_for.Given as goal

abbrev pub invariant-loop : goal.invariant-loop
invariant-loop l = length l.counters.items ≡ l.counter
