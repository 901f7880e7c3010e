use Rattle.can_node.proofs.ErrorMoves.{delimit_on, delimit_ends, delimit_truncated, delimit_overload}
use Rattle.can_node.proofs.transitions.after_delimiting.Goals as goal

pub returns-then-ones-lt7-clause-goes : goal.returns-then-ones-lt7-clause-goes
returns-then-ones-lt7-clause-goes c now =
    rw (c.plain.ensures, c.if-level.true) (delimit_on c.args.role c.args.ones now c.args.errors c.if-ones-lt7.true)

pub returns-then-level-clause-goes : goal.returns-then-level-clause-goes
returns-then-level-clause-goes c now = rw (c.plain-then-level.ensures, c.if-level.true)
    (delimit_ends c.args.role c.args.ones now c.args.errors c.if-ones-lt7.false)

pub returns-then-ones-lt7-2-clause-goes : goal.returns-then-ones-lt7-2-clause-goes
returns-then-ones-lt7-2-clause-goes c now = rw (c.if-level.false, c.error_event.ensures)
    (delimit_truncated c.args.role c.args.ones now c.args.errors c.error_flag.result c.if-ones-lt7-2.true
    c.error_flag.ensures)

pub returns-clause-goes : goal.returns-clause-goes
returns-clause-goes c now = rw (c.plain-2.ensures, c.dominant_flag.ensures, c.if-level.false)
    (delimit_overload c.args.role c.args.ones now c.args.errors c.if-ones-lt7-2.false)

pub returns-then-ones-lt7-clause-alike : goal.returns-then-ones-lt7-clause-alike
returns-then-ones-lt7-clause-alike c is now other =
    rw (c.plain.ensures, c.if-level.true) (delimit_on c.args.role c.args.ones now other c.if-ones-lt7.true)

pub returns-then-level-clause-alike : goal.returns-then-level-clause-alike
returns-then-level-clause-alike c is now other = rw (c.plain-then-level.ensures, c.if-level.true)
    (delimit_ends c.args.role c.args.ones now other c.if-ones-lt7.false)
