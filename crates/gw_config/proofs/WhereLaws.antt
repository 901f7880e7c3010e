-- Laws of the elements that pass a test.
use Rattle.std.proofs.Common.{◌≡◌, ◌∙◌, ap, sym, ℕ, zero, suc, ◌+◌, ◌-◌, ◌<◌, ◌≤◌, List, [], ◌∷◌, ◌++◌, length, drop}
use Rattle.std.proofs.Common.{get_or, filter, slice_get, Bool, true, cond, Some, drop-cons, add-one, arith}

-- one that passes is the first of them
filter-here : {A : Type 0} (test : A → Bool) (xs : List A) (i : ℕ) (x : A) → i < length xs → x ≡ get_or xs i x →
    test x ≡ true →
    filter test (drop i xs) ≡ x ∷ filter test (drop (i + 1) xs)
filter-here test xs i x lt is passes =
    ap (filter test) (drop-cons xs i x lt ∙ ap (λ y. y ∷ drop (suc i) xs) (sym is)
    ∙ ap (λ n. x ∷ drop n xs) (sym (add-one i)))
    ∙ ap (λ b. cond b (x ∷ filter test (drop (i + 1) xs)) (filter test (drop (i + 1) xs))) passes

-- so it is their element of place 0
pub filter-first : {A : Type 0} (test : A → Bool) (xs : List A) (i : ℕ) (x : A) (k : ℕ) → i < length xs →
    x ≡ get_or xs i x → test x ≡ true → k ≡ 0 →
    slice_get (filter test (drop i xs)) k ≡ Some x
filter-first test xs i x k lt is passes is_zero =
    ap (slice_get (filter test (drop i xs))) is_zero ∙ ap (λ ys. slice_get ys 0) (filter-here test xs i x lt is passes)

-- an element of the second list
pub get-append-second : {A : Type 0} (xs ys : List A) (k : ℕ) → length xs ≤ k →
    slice_get (xs ++ ys) k ≡ slice_get ys (k - length xs)
get-append-second [] ys k beyond = ap (slice_get ys) (let same : k ≡ k - 0 = omega arith in same)
get-append-second (x ∷ xs) ys zero beyond = absurd (omega (arith, beyond))
get-append-second (x ∷ xs) ys (suc k) beyond =
    get-append-second xs ys k (omega (arith, beyond))
    ∙ ap (slice_get ys) (let same : k - length xs ≡ suc k - suc (length xs) = omega arith in same)
