-- Laws of places in a list.
use Rattle.std.proofs.Common.{◌≡◌, ℕ, suc, ◌+◌, ◌<◌, ◌≤◌, List, [], ◌∷◌, length, map, drop, get_or, Bool, true, false}
use Rattle.std.proofs.Common.{cond, Some, None, is_some, ◌||◌, refl, sym, ap, ◌∙◌, drop-cons, add-one}
use Rattle.std.proofs.lemmas.List.{drop_all}
use Rattle.std.specs.List.{position_from, list_any}

-- the first element of what is left
pub rest-step : {A B : Type 0} (f : A → B) (xs : List A) (i : ℕ) (x : A) → i < length xs → x ≡ get_or xs i x →
    map f (drop i xs) ≡ f x ∷ map f (drop (i + 1) xs)
rest-step f xs i x lt is =
    ap (map f) (drop-cons xs i x lt) ∙ ap (λ y. f y ∷ map f (drop (suc i) xs)) (sym is)
    ∙ ap (λ n. f x ∷ map f (drop n xs)) (sym (add-one i))

-- the search stops here
pub position_here : {A B : Type 0} (test : B → Bool) (f : A → B) (xs : List A) (i : ℕ) (x : A) → i < length xs →
    x ≡ get_or xs i x → test (f x) ≡ true →
    position_from test i (map f (drop i xs)) ≡ Some i
position_here test f xs i x lt is yes_here =
    ap (position_from test i) (rest-step f xs i x lt is)
    ∙ ap (λ b. cond b (Some i) (position_from test (i + 1) (map f (drop (i + 1) xs)))) yes_here

-- it goes on
pub position_later : {A B : Type 0} (test : B → Bool) (f : A → B) (xs : List A) (i : ℕ) (x : A) → i < length xs →
    x ≡ get_or xs i x → test (f x) ≡ false →
    position_from test i (map f (drop i xs)) ≡ position_from test (i + 1) (map f (drop (i + 1) xs))
position_later test f xs i x lt is not_here =
    ap (position_from test i) (rest-step f xs i x lt is)
    ∙ ap (λ b. cond b (Some i) (position_from test (i + 1) (map f (drop (i + 1) xs)))) not_here

-- there is nothing left
pub position_nowhere : {A B : Type 0} (test : B → Bool) (f : A → B) (xs : List A) (i : ℕ) → length xs ≤ i →
    position_from test i (map f (drop i xs)) ≡ None
position_nowhere test f xs i beyond = ap (λ ys. position_from test i (map f ys)) (drop_all i xs beyond)

-- a place is found exactly where one passes the test
pub any-position : {B : Type 0} (test : B → Bool) (i : ℕ) (xs : List B) →
    is_some (position_from test i xs) ≡ list_any test xs
any-position test i [] = refl
any-position test i (x ∷ xs) =
    elim (test x) as (λ b. is_some (cond b (Some i) (position_from test (i + 1) xs)) ≡ (b || list_any test xs)) [
      | true ↦ refl
      | false ↦ any-position test (i + 1) xs
    ]
