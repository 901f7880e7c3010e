use Rattle.std.proofs.Common.{ℕ, ◌<◌}
use Rattle.bx_core.specs.States.{IsEmpty}
use Rattle.bx_core.proofs.mailboxes.Core.lowest_empty.Given as goal

abbrev pub invariant-loop-mailbox : goal.invariant-loop-mailbox
invariant-loop-mailbox l = (k : ℕ) → k < l.mailbox → IsEmpty l.self k → ⊥
