-- How long names are.
use Rattle.std.proofs.Common.{◌≡◌, ℕ, zero, suc, ◌+◌, ◌<◌, ◌≤◌, All, List, [], ◌∷◌, length, map, take}
use Rattle.std.proofs.Common.{get_or, sym, subst, arith}
use Rattle.std.proofs.lemmas.List.{take_more}
use Rattle.std.proofs.lemmas.List.Elements.{All-push}
use Rattle.gw_script.specs.ReportTexts.{name_at}

-- one name more, which has no more bytes
pub longest-step : {A : Type 0} (name : A → List ℕ) (xs : List A) (i old new : ℕ) (x : A) → i < length xs →
    x ≡ get_or xs i x → old ≤ new → length (name x) ≤ new → All (λ y. length (name y) ≤ old) (take i xs) →
    All (λ y. length (name y) ≤ new) (take (i + 1) xs)
longest-step name xs i old new x lt is le short all =
    subst (All (λ y. length (name y) ≤ new)) (sym (take_more xs i x lt))
    (All-push (λ y. length (name y) ≤ new) (take i xs) (get_or xs i x) (λ k d l. omega (arith, all k d l, le))
    (subst (λ y. length (name y) ≤ new) is short))

-- what stands at a place has no more either, and nothing else than these stands anywhere
pub within-all : {A : Type 0} (name : A → List ℕ) (xs : List A) (most : ℕ) → All (λ y. length (name y) ≤ most) xs →
    (place : ℕ) → length (name_at (map name xs) place) ≤ most
within-all name [] most all place = omega arith
within-all name (x ∷ xs) most all zero = all 0 x (omega arith)
within-all name (x ∷ xs) most all (suc place) =
    within-all name xs most (λ k d l. all (suc k) d (omega (arith, l))) place
