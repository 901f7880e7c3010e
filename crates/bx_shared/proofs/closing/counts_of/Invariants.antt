use Rattle.std.proofs.Common.{◌≡◌, length}
use Rattle.bx_shared.specs.Closing.{AreCounted}
use Rattle.bx_shared.proofs.closing.counts_of.Given as goal

abbrev pub invariant-loop-route : goal.invariant-loop-route
invariant-loop-route l = (length l.counts.items ≡ l.route) × AreCounted l.fn.bus l.fn.sides l.counts.items
