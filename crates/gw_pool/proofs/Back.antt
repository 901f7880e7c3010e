-- What was put into a pool and is taken out again stands in its places.
use Rattle.std.specs.Prelude.{if◌then◌else◌}
use Rattle.std.proofs.Common.{◌≡◌, ◌≢◌, ℕ, zero, suc, ◌<◌, ◌==◌, List, [], ◌∷◌, ◌++◌, Option, Some, inl, inr}
use Rattle.std.proofs.Common.{length, slice_get, set, sym, ap, subst, ◌∙◌, arith}
use Rattle.std.proofs.lemmas.Bool.{cases_eq, cases_lt}
use Rattle.std.proofs.lemmas.Option.{slice_get_within}
use Rattle.can_station.proofs.Places.{some_there, get_set_same, get_set_other, same_some}
use Rattle.gw_site.specs.Pairs.{Pairs}
use Rattle.gw_pool.specs.Pool.{weigh, places}
use Rattle.gw_pool.specs.Collecting.{AreBack, AreFull}
use Rattle.gw_pool.proofs.Fair.{weigh-append}

-- one where it is this place
abbrev pub here : ℕ → ℕ → ℕ
here k y = if y == k then 1 else 0

here_same : (k : ℕ) → here k k ≡ 1
here_same k = grind arith

here_other : (k y : ℕ) → y ≢ k → here k y ≡ 0
here_other k y ne = grind (arith, ne)

-- each of the first places is among them
pub among_places : (k n : ℕ) → k < n → 0 < weigh (here k) (places n)
among_places k zero less = absurd (omega (arith, less))
among_places k (suc n) less =
    let e = weigh-append (here k) (places n) (n ∷ []) in
    elim (cases_lt k n) [
      | inl below ↦ (let on = among_places k n below in omega (arith, e, on))
      | inr above ↦ (let is : n ≡ k = omega arith in let one : here k n ≡ 1 =
          subst (λ y. here k y ≡ 1) (sym is) (here_same k) in omega (arith, e, one))
    ]

module _ {X Y : Type 0} (Back : X → Y → Type 0) (dealt : List X) where
  -- what was taken so far stands in its places
  abbrev pub AreBackBy : List (Option Y) → List ℕ → Type 0
  AreBackBy slots got = (k : ℕ) (x : X) → slice_get dealt k ≡ Some x → 0 < weigh (here k) got → (y : Y)
      × (slice_get slots k ≡ Some (Some y)) × Back x y

  -- one more comes to its place
  pub one_back : (slots : List (Option Y)) (got : List ℕ) (p : ℕ) (y : Y) → p < length slots →
      ((x : X) → slice_get dealt p ≡ Some x → Back x y) → AreBackBy slots got →
      AreBackBy (set slots p (Some y)) (got ++ p ∷ [])
  one_back slots got p y within back before k x there some =
      elim (cases_eq p k) [
        | inl same ↦ (
          y,
          subst (λ i. slice_get (set slots p (Some y)) i ≡ Some (Some y)) same
              (get_set_same slots p (Some y) within),
          back x (ap (slice_get dealt) same ∙ there),
        )
        | inr other ↦ (let e = weigh-append (here k) got (p ∷ []) in
            let none = here_other k p other in
            let old = before k x there (omega (arith, e, none, some)) in
            (old.0, get_set_other slots p k (Some y) (λ is. other (sym is)) ∙ old.1, old.2))
      ]

  -- none is left: all stand in their places
  pub all_back : (slots : List (Option Y)) (got : List ℕ) → length slots ≡ length dealt →
      ((h : ℕ → ℕ) → weigh h got ≡ weigh h (places (length dealt))) → AreBackBy slots got → AreBack Back dealt slots
  all_back slots got size all before = record {
    at = λ k x there. (let among = among_places k (length dealt) (slice_get_within dealt k x there) in
        before k x there (subst (λ n. 0 < n) (sym (all (here k))) among));
    size = size;
  }

  pub are_full : (slots : List (Option Y)) → AreBack Back dealt slots → AreFull slots
  are_full slots b k within =
      let x = some_there dealt k (omega (arith, within, b.size)) in
      let y = b.at k x.0 x.1 in (y.0, y.1)

  -- and so do they in a list of their own
  pub in_order_back : (slots : List (Option Y)) (ys : List Y) → AreBack Back dealt slots →
      Pairs (λ k slot one. slot ≡ Some one) slots ys → Pairs (λ k. Back) dealt ys
  in_order_back slots ys b p = record {
    at = λ k x z e f. (let y = b.at k x e in
        let same : y.0 ≡ z = same_some y.0 z (p.at k (Some y.0) z y.1 f) in
        subst (Back x) same y.2);
    size = p.size ∙ b.size;
  }
