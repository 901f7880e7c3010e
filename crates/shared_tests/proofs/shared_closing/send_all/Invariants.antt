-- What the bus does leaves its seat at the same mailboxes.
use Rattle.bx_shared.specs.Calls.{SameMailboxes}
use Rattle.shared_tests.proofs.shared_closing.send_all.Given as goal

abbrev pub invariant-loop : goal.invariant-loop
invariant-loop g l = SameMailboxes l.fn.bus l.bus
