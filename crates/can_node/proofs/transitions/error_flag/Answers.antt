use Rattle.can_node.proofs.ErrorMoves.{active_begins, passive_begins, off_begins}
use Rattle.can_node.proofs.transitions.error_flag.Goals as goal

pub returns-in-Active : goal.returns-in-Active
returns-in-Active c = rw (c.in-Active.is, c.dominant_flag.ensures) (active_begins c.args.role)

pub returns-in-Passive : goal.returns-in-Passive
returns-in-Passive c = rw c.in-Passive.is (passive_begins c.args.role)

pub returns-in-Off : goal.returns-in-Off
returns-in-Off c = rw c.in-Off.is (off_begins)
