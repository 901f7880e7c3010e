use Rattle.std.proofs.Common.{◌≡◌}
use Rattle.can_frame.specs.FieldReading.{number_at}
use Rattle.can_frame.proofs.reading.number_in.Given as goal

abbrev pub invariant-loop-level : goal.invariant-loop-level
invariant-loop-level l = l.number ≡ number_at l.field 0 l.level-index
