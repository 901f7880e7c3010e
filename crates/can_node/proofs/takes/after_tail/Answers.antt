use Rattle.can_node.proofs.TakeMoves.{tail_delimiter, tail_own_slot, tail_slot_on, tail_later, tail_never}
use Rattle.can_node.proofs.takes.after_tail.Goals as goal

pub returns-in-AfterRegion : goal.returns-in-AfterRegion
returns-in-AfterRegion c = rw (c.plain.ensures, c.receiving.ensures, c.in-AfterRegion.is)
    (λ errors may. tail_delimiter c.args.start may c.in-AfterRegion.right errors c.args.level)

pub returns-then-right : goal.returns-then-right
returns-then-right c = rw (c.counted.ensures, c.receiving-next.ensures, c.in-Slot.is, c.if-right.true)
    (λ errors may. tail_own_slot c.args.start may errors c.args.level)

pub returns-else-right : goal.returns-else-right
returns-else-right c = rw (c.plain-in-Slot.ensures, c.receiving-next.ensures, c.in-Slot.is, c.if-right.false)
    (λ errors may. tail_slot_on c.args.start may errors c.args.level)

pub returns-in-AfterSlot : goal.returns-in-AfterSlot
returns-in-AfterSlot c =
    rw (c.plain-in-AfterSlot.ensures, c.receiving-in-AfterSlot.ensures, c.in-AfterSlot.is) (λ errors may. tail_later c.args.start may errors c.args.level)

pub returns-in-Region : goal.returns-in-Region
returns-in-Region c =
    rw (c.plain-in-Region.ensures, c.receiving-in-Region.ensures, c.in-Region.is) (λ errors may. tail_never c.args.start may errors c.args.level)
