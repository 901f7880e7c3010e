use Rattle.can_node.proofs.PassiveMoves.{passive_paid}
use Rattle.can_node.proofs.transitions.after_passive_flag.Goals as goal

pub returns-then-is_due : goal.returns-then-is_due
returns-then-is_due c now errors =
    let due = c.is_due.ensures.due c.if-is_due.true in
    rw (c.counted.ensures, due.0, due.1) (passive_paid c.args.role c.args.ones c.args.zeros now errors due.2)

pub returns : goal.returns
returns c now errors = rw c.plain.ensures
    (c.behind_passive_flag.ensures.goes (c.is_due.ensures.not_due c.if-is_due.false) now errors)
