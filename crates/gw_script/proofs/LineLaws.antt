-- Laws of lines.
use Rattle.std.proofs.Common.{◌≡◌, ◌∙◌, ap, sym, ℕ, suc, ◌+◌, ◌<◌, List, ◌∷◌, ◌++◌, length, drop, get_or, append_assoc}
use Rattle.std.proofs.Common.{drop-cons, add-one}
use Rattle.std.specs.List.{flat_map}
use Rattle.gw_script.specs.Lines.{lines_from}

-- one element more is said
pub lines-step : {A : Type 0} (said : ℕ → A → List ℕ) (xs : List A) (i : ℕ) (x : A) (old new : List ℕ) → i < length xs →
    x ≡ get_or xs i x → new ≡ old ++ said i x →
    new ++ lines_from said (i + 1) (drop (i + 1) xs) ≡ old ++ lines_from said i (drop i xs)
lines-step said xs i x old new lt is new_is =
    ap (λ t. t ++ lines_from said (i + 1) (drop (i + 1) xs)) new_is
    ∙ append_assoc old (said i x) (lines_from said (i + 1) (drop (i + 1) xs))
    ∙ ap (λ ys. old ++ lines_from said i ys)
    (sym (drop-cons xs i x lt ∙ ap (λ y. y ∷ drop (suc i) xs) (sym is) ∙ ap (λ n. x ∷ drop n xs) (sym (add-one i))))

-- so is one of which nothing but itself is reported
pub flat-step : {A : Type 0} (said : A → List ℕ) (xs : List A) (i : ℕ) (x : A) (old new : List ℕ) → i < length xs →
    x ≡ get_or xs i x → new ≡ old ++ said x →
    new ++ flat_map said (drop (i + 1) xs) ≡ old ++ flat_map said (drop i xs)
flat-step said xs i x old new lt is new_is =
    ap (λ t. t ++ flat_map said (drop (i + 1) xs)) new_is
    ∙ append_assoc old (said x) (flat_map said (drop (i + 1) xs))
    ∙ ap (λ ys. old ++ flat_map said ys)
    (sym (drop-cons xs i x lt ∙ ap (λ y. y ∷ drop (suc i) xs) (sym is) ∙ ap (λ n. x ∷ drop n xs) (sym (add-one i))))
