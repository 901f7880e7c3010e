use Rattle.can_node.proofs.Moves.{suspend_on, suspend_ends, suspend_overtaken}
use Rattle.can_node.proofs.transitions.after_suspending.Goals as goal

pub returns-then-not-level-clause-goes : goal.returns-then-not-level-clause-goes
returns-then-not-level-clause-goes c errors =
    rw (c.plain.ensures, c.receiving.ensures, c.if-not-level.true) (suspend_overtaken c.args.ones c.args.now errors)

pub returns-then-ones-lt7-clause-goes : goal.returns-then-ones-lt7-clause-goes
returns-then-ones-lt7-clause-goes c errors = rw (c.plain-then-ones-lt7.ensures, c.if-not-level.false)
    (suspend_on c.args.ones c.args.now errors c.if-ones-lt7.true)

pub returns-clause-goes : goal.returns-clause-goes
returns-clause-goes c errors =
    rw (c.plain-2.ensures, c.if-not-level.false) (suspend_ends c.args.ones c.args.now errors c.if-ones-lt7.false)
