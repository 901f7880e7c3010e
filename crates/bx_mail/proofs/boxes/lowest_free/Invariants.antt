use Rattle.std.proofs.Common.{◌≡◌, ℕ, ◌<◌, None}
use Rattle.bx_core.specs.States.{at_mailbox}
use Rattle.bx_mail.proofs.boxes.lowest_free.Given as goal

abbrev pub invariant-loop-mailbox : goal.invariant-loop-mailbox
invariant-loop-mailbox l = (k : ℕ) → k < l.mailbox → at_mailbox k l.boxes ≡ None → ⊥
