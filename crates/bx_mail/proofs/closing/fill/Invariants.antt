use Rattle.std.proofs.Common.{◌≡◌, map, length}
use Rattle.bx_mail.specs.Postings.{item_left}
use Rattle.bx_mail.specs.Sides.{AreFilled}
use Rattle.bx_mail.proofs.closing.fill.Given as goal

abbrev pub invariant-loop-route : goal.invariant-loop-route
invariant-loop-route l = (length l.counts.items ≡ l.route) × AreFilled (map item_left l.left) l.kept l.counts.items
