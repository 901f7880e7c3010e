use Rattle.std.proofs.Common.{◌≡◌, length}
use Rattle.bx_mail.specs.Sides.{AreKept}
use Rattle.bx_mail.proofs.closing.counts_of.Given as goal

abbrev pub invariant-loop-route : goal.invariant-loop-route
invariant-loop-route l = (length l.counts.items ≡ l.route) × AreKept l.bus.tally l.sides l.counts.items
