use Rattle.can_node.proofs.Moves.{idle_on, idle_resumes}
use Rattle.can_node.proofs.transitions.after_idle.Goals as goal

pub returns-then-level : goal.returns-then-level
returns-then-level c errors = rw (c.plain.ensures, c.if-level.true) (idle_on c.args.now errors)

pub returns : goal.returns
returns c errors = rw (c.plain-2.ensures, c.receiving.ensures, c.if-level.false) (idle_resumes c.args.now errors)
