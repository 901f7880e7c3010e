use Rattle.std.specs.Prelude.{◌≤◌, length}
use Rattle.can_segment.proofs.UneventfulBits.{UneventfulSoFar}
use Rattle.can_segment.proofs.segment.Segment.uneventful_bits.Given as goal

-- the bus does not idle beyond these bits
abbrev pub invariant-loop : goal.invariant-loop
invariant-loop l = UneventfulSoFar l.initial.self l.self l.limit × (l.self.idle_until ≤ length l.self.levels)
