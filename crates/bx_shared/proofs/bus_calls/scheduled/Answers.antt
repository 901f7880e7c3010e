-- None of the three mailboxes has it.
use Rattle.std.proofs.Common.{◌≡◌, arith}
use Rattle.bx_words.specs.Lanes.{mark_of}
use Rattle.bx_words.proofs.Cases.{of_mailboxes}
use Rattle.bx_shared.proofs.bus_calls.scheduled.Goals as goal

pub returns : goal.returns
returns c = λ mailbox is. of_mailboxes (λ m. mark_of c.args.word m ≡ 7 → ⊥)
    (λ e. let l = c.lane.ensures in c.if-lane-eq-SCHEDULED.false (omega arith))
    (λ e. let l = c.lane-2.ensures in c.if-lane-eq-SCHEDULED-2.false (omega arith))
    (λ e. let l = c.lane-3.ensures in c.if-lane-eq-SCHEDULED-3.false (omega arith)) mailbox is.small is.scheduled
