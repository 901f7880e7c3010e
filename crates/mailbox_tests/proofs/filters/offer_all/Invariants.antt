-- An offer leaves the side at its FIFO.
use Rattle.std.proofs.Common.{◌≡◌}
use Rattle.mailbox_tests.proofs.filters.offer_all.Given as goal

abbrev pub invariant-loop-number : goal.invariant-loop-number
invariant-loop-number g l = l.rxin.queue ≡ l.fn.rxin.queue
