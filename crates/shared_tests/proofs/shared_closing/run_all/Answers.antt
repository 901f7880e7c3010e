-- The seats that come back are those of the mailboxes.
use Rattle.shared_tests.proofs.Seating.{sides_after, all_after}
use Rattle.shared_tests.proofs.shared_closing.run_all.Goals as goal

pub invariant_of-result-clause-all : goal.invariant_of-result-clause-all
invariant_of-result-clause-all g c = all_after _ _ _ _ c.in_ok-bus.ensures.bus c.in_ok-bus.ensures.size c.args.seats.all

pub invariant_of-result-clause-sides : goal.invariant_of-result-clause-sides
invariant_of-result-clause-sides g c =
    sides_after _ _ _ _ c.in_ok-bus.ensures.bus c.in_ok-bus.ensures.size c.in_ok-bus.ensures.same c.args.seats.sides
