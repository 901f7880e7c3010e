use Rattle.can_node.proofs.Moves.{off_broken, off_longer, off_counts, off_ends}
use Rattle.can_node.proofs.transitions.after_bus_off.Goals as goal

pub returns-then-not-level : goal.returns-then-not-level
returns-then-not-level c now errors =
    rw (c.plain.ensures, c.if-not-level.true) (off_broken c.args.runs c.args.ones now errors)

pub returns-then-ones-lt10 : goal.returns-then-ones-lt10
returns-then-ones-lt10 c now errors = rw (c.plain-then-ones-lt10.ensures, c.if-not-level.false)
    (off_longer c.args.runs c.args.ones now errors c.if-ones-lt10.true)

pub returns-then-runs-lt127 : goal.returns-then-runs-lt127
returns-then-runs-lt127 c now errors = rw (c.plain-then-runs-lt127.ensures, c.if-not-level.false)
    (off_counts c.args.runs c.args.ones now errors c.if-ones-lt10.false c.if-runs-lt127.true)

pub returns : goal.returns
returns c now errors =
    rw c.if-not-level.false (off_ends c.args.runs c.args.ones now errors c.if-ones-lt10.false c.if-runs-lt127.false)
