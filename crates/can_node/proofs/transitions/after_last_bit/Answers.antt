use Rattle.can_node.proofs.Moves.{last_bit_uneventful, closing_late}
use Rattle.can_node.proofs.transitions.after_last_bit.Goals as goal

pub returns-then-level : goal.returns-then-level
returns-then-level c now errors = rw (c.plain.ensures, c.if-level.true) (last_bit_uneventful now errors)

pub returns : goal.returns
returns c now errors = rw (c.plain-2.ensures, c.dominant_flag.ensures, c.if-level.false) (closing_late now errors)
