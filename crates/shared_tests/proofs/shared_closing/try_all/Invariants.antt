-- A try leaves the seat at its mailboxes, for its route.
use Rattle.bx_shared.specs.Sides.{SameRoute}
use Rattle.shared_tests.proofs.shared_closing.try_all.Given as goal

abbrev pub invariant-loop-turn : goal.invariant-loop-turn
invariant-loop-turn l = SameRoute l.fn.seat l.seat
