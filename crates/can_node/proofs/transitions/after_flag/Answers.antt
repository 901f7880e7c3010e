use Rattle.can_node.proofs.FlagMoves.{flag_bit_on, flag_bit_last, flag_on, flag_last}
use Rattle.can_node.proofs.transitions.after_flag.Goals as goal

pub returns-then-sent-lt5-clause-goes : goal.returns-then-sent-lt5-clause-goes
returns-then-sent-lt5-clause-goes c now errors = rw (c.counted.ensures, c.if-level.true)
    (flag_bit_on c.args.kind c.args.role c.args.sent c.args.until now errors c.if-sent-lt5.true)

pub returns-then-level-clause-goes : goal.returns-then-level-clause-goes
returns-then-level-clause-goes c now errors = rw (c.counted-then-level.ensures, c.awaiting.ensures, c.if-level.true)
    (flag_bit_last c.args.kind c.args.role c.args.sent c.args.until now errors c.if-sent-lt5.false)

pub returns-then-sent-lt5-2-clause-goes : goal.returns-then-sent-lt5-2-clause-goes
returns-then-sent-lt5-2-clause-goes c now errors = rw (c.plain.ensures, c.if-level.false, c.saturating_sub.ensures)
    (flag_on c.args.kind c.args.role c.args.sent c.args.until now errors c.if-sent-lt5-2.true)

pub returns-clause-goes : goal.returns-clause-goes
returns-clause-goes c now errors = rw (c.plain-2.ensures, c.awaiting-2.ensures, c.if-level.false, c.saturating_sub-2.ensures)
    (flag_last c.args.kind c.args.role c.args.sent c.args.until now errors c.if-sent-lt5-2.false)
