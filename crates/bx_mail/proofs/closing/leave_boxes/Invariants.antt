use Rattle.std.proofs.Common.{◌≡◌, map, length, take}
use Rattle.bx_core.specs.PlainMail.{item_of}
use Rattle.bx_mail.proofs.closing.leave_boxes.Given as goal

abbrev pub invariant-loop-waiting : goal.invariant-loop-waiting
invariant-loop-waiting l = (l.left.items ≡ map item_of (take l.waiting-index l.boxes))
    × (length l.left.items ≡ l.waiting-index)
