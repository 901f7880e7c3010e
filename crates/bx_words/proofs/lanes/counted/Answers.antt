use Rattle.std.proofs.Common.{arith}
use Rattle.bx_words.proofs.LaneSteps.{counts, counts_none}
use Rattle.bx_words.proofs.lanes.counted.Goals as goal

pub overflow_add-result : goal.overflow_add-result
overflow_add-result c = let room = c.requires c.if-word-eq1.true in record { fits = omega (arith, room) }

pub returns-then-word-eq1 : goal.returns-then-word-eq1
returns-then-word-eq1 c = counts c.args.word c.if-word-eq1.true

pub returns-else-word-eq1 : goal.returns-else-word-eq1
returns-else-word-eq1 c = counts_none c.args.word c.if-word-eq1.false
