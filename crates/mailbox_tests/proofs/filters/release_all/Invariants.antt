-- A release leaves the side at its FIFO.
use Rattle.std.proofs.Common.{◌≡◌}
use Rattle.mailbox_tests.proofs.filters.release_all.Given as goal

abbrev pub invariant-loop : goal.invariant-loop
invariant-loop g l = l.rxout.queue ≡ l.fn.rxout.queue
