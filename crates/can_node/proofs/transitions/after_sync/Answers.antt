use Rattle.can_node.proofs.Moves.{sync_broken, sync_longer, sync_ends}
use Rattle.can_node.proofs.transitions.after_sync.Goals as goal

pub returns-then-not-level : goal.returns-then-not-level
returns-then-not-level c now errors = rw (c.plain.ensures, c.if-not-level.true) (sync_broken c.args.ones now errors)

pub returns-then-ones-lt10 : goal.returns-then-ones-lt10
returns-then-ones-lt10 c now errors =
    rw (c.plain-then-ones-lt10.ensures, c.if-not-level.false) (sync_longer c.args.ones now errors c.if-ones-lt10.true)

pub returns : goal.returns
returns c now errors =
    rw (c.plain-2.ensures, c.if-not-level.false) (sync_ends c.args.ones now errors c.if-ones-lt10.false)
