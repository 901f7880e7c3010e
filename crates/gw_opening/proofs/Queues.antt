-- Laws of queues.
use Rattle.std.proofs.Common.{◌≡◌, ℕ, ◌==◌, ◌&&◌, not, cond, Bool, List, [], ◌∷◌, filter, is_lt, refl}
use Rattle.std.proofs.Common.{arith, ap, sym, ◌∙◌}
use Rattle.std.proofs.lemmas.Bool.Decides.{nat_tests}
use Rattle.std.specs.List.Sorted.{IsNonDecreasingBy, IsStableByKey, ties}
use Rattle.std.specs.Ordering.{nat_cmp}
use Rattle.can_frame.specs.Frames.{standard, data_bytes}
use Rattle.can_station.specs.declared.due_frame.DueFrame.{DueFrame}
use Rattle.gw_config.specs.Messages.{MessageValue}
use Rattle.gw_opening.specs.Queues.{IsQueueOf, at_bit, instances}

filter-same : {X : Type 0} (p q : X → Bool) → ((x : X) → p x ≡ q x) → (xs : List X) → filter p xs ≡ filter q xs
filter-same p q same [] = refl
filter-same p q same (x ∷ xs) = ap (λ b. cond b (x ∷ filter p xs) (filter p xs)) (same x)
    ∙ ap (λ ys. cond (q x) (x ∷ ys) ys) (filter-same p q same xs)

-- neither of two numbers is less than the other just where they are equal
ties_is : (a b : ℕ) → (not (is_lt (nat_cmp a b)) && not (is_lt (nat_cmp b a))) ≡ (b == a)
ties_is a b = grind (arith, nat_tests)

-- some frame that is due at a bit
abbrev due_then : ℕ → DueFrame
due_then bit = record { due = bit; frame = record { id = standard 0; content = data_bytes [] } }

-- those that are due at a bit are those which tie with a frame due then
tied : (bit : ℕ) (frames : List DueFrame) →
    at_bit bit frames ≡ filter (ties (λ (a b : DueFrame). is_lt (nat_cmp a.due b.due)) (due_then bit)) frames
tied bit frames = filter-same _ _ (λ (x : DueFrame). sym (ties_is bit x.due)) frames

-- what a stable sort of all instances by due bit leaves
pub queue_sorted : (messages : List MessageValue) (all queue : List DueFrame) → all ≡ instances messages →
    IsNonDecreasingBy (λ (x : DueFrame). x.due) queue →
    IsStableByKey (λ (x : DueFrame). x.due) nat_cmp all queue → IsQueueOf messages queue
queue_sorted messages all queue is rising stable = record {
  by_due = rising;
  same = λ bit. tied bit queue ∙ stable (due_then bit) ∙ sym (tied bit all) ∙ ap (at_bit bit) is;
}
