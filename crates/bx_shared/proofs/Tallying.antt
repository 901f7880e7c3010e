-- One more is counted.
use Rattle.std.proofs.Common.{◌≡◌, ◌≢◌, ℕ, ◌+◌, ◌<◌, cond, List, [], ◌∷◌, ◌++◌, length, get_or, set, refl, sym, ap, ◌∙◌}
use Rattle.std.proofs.Common.{subst, arith, eq-eqb, ne_eqb, length-set}
use Rattle.std.proofs.lemmas.List.{append-nil, get_or-set_same, get_or-set_other, length-append}
use mathlib.Core.Logic.{dite}
use native.Mathlib.Decide.{ℕ_discrete}
use Rattle.bx_core.specs.TxBus.{Item}
use Rattle.bx_core.specs.Stands.{entries_of, numbers_of, entry_on_bus}
use Rattle.bx_core.proofs.Standing.{entries_of-push, numbers_of-push}
use Rattle.bx_shared.specs.declared.tally.Tally.{Tally}
use Rattle.bx_shared.specs.Tallies.{IsTally}

-- a count that grew by one at its route, and stays at the others
counts_one : (xs : List ℕ) (route : ℕ) (n : ℕ → ℕ) (m : ℕ → ℕ) → route < length xs →
    ((r : ℕ) → r < 8 → get_or xs r 0 ≡ n r) → (m route ≡ n route + 1) → ((r : ℕ) → r ≢ route → m r ≡ n r) →
    (r : ℕ) → r < 8 → route < 8 → get_or (set xs route (get_or xs route 0 + 1)) r 0 ≡ m r
counts_one xs route n m here was more same r small few = dite (ℕ_discrete r route)
    (λ e. subst (λ (k : ℕ). get_or (set xs route (get_or xs route 0 + 1)) k 0 ≡ m k) (sym e)
    (get_or-set_same xs route (get_or xs route 0 + 1) 0 here ∙ ap (λ x. x + 1) (was route few) ∙ sym more))
    (λ d. get_or-set_other xs route r (get_or xs route 0 + 1) 0 d ∙ was r small ∙ sym (same r d))

entries_more : (done : List Item) (item : Item) → length (entries_of item.0 (done ++ item ∷ []))
    ≡ length (entries_of item.0 done) + 1
entries_more done item = ap length (entries_of-push item.0 done item) ∙ length-append (entries_of item.0 done) _
    ∙ ap (λ b. length (entries_of item.0 done) + length (cond b (entry_on_bus item ∷ []) []))
    (eq-eqb item.0 item.0 refl)

entries_same : (done : List Item) (item : Item) (r : ℕ) → r ≢ item.0 →
    length (entries_of r (done ++ item ∷ [])) ≡ length (entries_of r done)
entries_same done item r d = ap length (entries_of-push r done item
    ∙ ap (λ b. entries_of r done ++ cond b (entry_on_bus item ∷ []) []) (ne_eqb item.0 r (λ e. d (sym e)))
    ∙ append-nil (entries_of r done))

numbers_more : (reaped : List (ℕ × ℕ)) (x : ℕ × ℕ) → length (numbers_of x.0 (reaped ++ x ∷ []))
    ≡ length (numbers_of x.0 reaped) + 1
numbers_more reaped x = ap length (numbers_of-push x.0 reaped x) ∙ length-append (numbers_of x.0 reaped) _
    ∙ ap (λ b. length (numbers_of x.0 reaped) + length (cond b (x.1 ∷ []) [])) (eq-eqb x.0 x.0 refl)

numbers_same : (reaped : List (ℕ × ℕ)) (x : ℕ × ℕ) (r : ℕ) → r ≢ x.0 →
    length (numbers_of r (reaped ++ x ∷ [])) ≡ length (numbers_of r reaped)
numbers_same reaped x r d = ap length (numbers_of-push r reaped x
    ∙ ap (λ b. numbers_of r reaped ++ cond b (x.1 ∷ []) []) (ne_eqb x.0 r (λ e. d (sym e)))
    ∙ append-nil (numbers_of r reaped))

pub adds_done : (t : Tally) (done : List Item) (reaped : List (ℕ × ℕ)) (item : Item) → item.0 < 8 →
    IsTally done reaped t → IsTally (done ++ item ∷ []) reaped
    (record t { done = set t.done item.0 (get_or t.done item.0 0 + 1) })
adds_done t done reaped item small h = record {
  eight = (length-set t.done item.0 (get_or t.done item.0 0 + 1) ∙ h.eight.0, h.eight.1);
  done_is = λ r few. counts_one t.done item.0 (λ k. length (entries_of k done))
      (λ k. length (entries_of k (done ++ item ∷ []))) (let e = h.eight.0 in omega arith) h.done_is
      (entries_more done item) (entries_same done item) r few small;
  reaped_is = h.reaped_is;
}

pub adds_reaped : (t : Tally) (done : List Item) (reaped : List (ℕ × ℕ)) (x : ℕ × ℕ) → x.0 < 8 → IsTally done reaped t →
    IsTally done (reaped ++ x ∷ []) (record t { reaped = set t.reaped x.0 (get_or t.reaped x.0 0 + 1) })
adds_reaped t done reaped x small h = record {
  eight = (h.eight.0, length-set t.reaped x.0 (get_or t.reaped x.0 0 + 1) ∙ h.eight.1);
  done_is = h.done_is;
  reaped_is = λ r few. counts_one t.reaped x.0 (λ k. length (numbers_of k reaped))
      (λ k. length (numbers_of k (reaped ++ x ∷ []))) (let e = h.eight.1 in omega arith) h.reaped_is
      (numbers_more reaped x) (numbers_same reaped x) r few small;
}
