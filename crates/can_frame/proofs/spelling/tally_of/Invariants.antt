use Rattle.std.proofs.Common.{take, reverse}
use Rattle.can_frame.specs.Sending.{Tallies}
use Rattle.can_frame.proofs.spelling.tally_of.Given as goal

abbrev pub invariant-loop-level : goal.invariant-loop-level
invariant-loop-level l = Tallies l.tally (reverse (take l.level-index l.text))
