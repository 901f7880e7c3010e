use Rattle.can_node.proofs.FlagMoves.{wait_over, wait_run, wait_first, wait_on}
use Rattle.can_node.proofs.transitions.after_awaiting.Goals as goal

pub returns-then-level-clause-goes : goal.returns-then-level-clause-goes
returns-then-level-clause-goes c now errors =
    rw (c.plain.ensures, c.if-level.true) (wait_over c.args.kind c.args.role c.args.until now c.args.first errors)

pub returns-then-until-le1-clause-goes : goal.returns-then-until-le1-clause-goes
returns-then-until-le1-clause-goes c now errors = rw (c.counted.ensures, c.if-level.false)
    (wait_run c.args.kind c.args.role c.args.until now c.args.first errors c.if-until-le1.true)

pub returns-then-first-clause-goes : goal.returns-then-first-clause-goes
returns-then-first-clause-goes c now errors = rw (c.if-level.false, c.if-first.true)
    (wait_first c.args.kind c.args.role c.args.until now errors c.behind.result c.if-until-le1.false c.behind.ensures)

pub returns-clause-goes : goal.returns-clause-goes
returns-clause-goes c now errors = rw (c.plain-2.ensures, c.if-level.false, c.if-first.false)
    (wait_on c.args.kind c.args.role c.args.until now errors c.if-until-le1.false)
