use Rattle.can_segment.proofs.IdleBits.{IdleUpTo}
use Rattle.can_segment.proofs.segment.Segment.idle_bits.Given as goal

abbrev pub invariant-loop : goal.invariant-loop
invariant-loop l = IdleUpTo l.initial.self l.self l.limit l.counter
