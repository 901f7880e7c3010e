use Rattle.can_node.proofs.ErrorMoves.{active_begins, owing_begins, off_begins}
use Rattle.can_confinement.specs.declared.confinement.Role.TheVariants.{Sender}
use Rattle.can_node.proofs.sends.unacknowledged.Goals as goal

pub returns-in-Active-clause-flags : goal.returns-in-Active-clause-flags
returns-in-Active-clause-flags c = rw (c.in-Active.is, c.dominant_flag.ensures) (active_begins Sender)

pub returns-in-Passive-clause-flags : goal.returns-in-Passive-clause-flags
returns-in-Passive-clause-flags c = rw c.in-Passive.is owing_begins

pub returns-in-Off-clause-flags : goal.returns-in-Off-clause-flags
returns-in-Off-clause-flags c = rw c.in-Off.is off_begins
