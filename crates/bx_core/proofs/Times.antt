-- How often a number stands in a list.
use Rattle.std.proofs.Common.{◌≡◌, ◌≢◌, ℕ, ◌<◌, ◌≤◌, ◌==◌, cond, List, [], ◌∷◌, refl, subst, arith, inl, inr}
use Rattle.std.proofs.lemmas.Bool.Decides.{eqb_tells}
use Rattle.bx_core.specs.Lists.{Each, Has, Rises, times}

-- 1 where the two are the same
abbrev pub mark : ℕ → ℕ → ℕ
mark x n = cond (x == n) 1 0

pub times_self : (n : ℕ) → mark n n ≡ 1
times_self n = elim (eqb_tells n n) [ inl h ↦ rw (h.0) refl | inr h ↦ absurd (h.1 refl) ]

pub times_other : (m n : ℕ) → m ≢ n → mark m n ≡ 0
times_other m n ne = elim (eqb_tells m n) [ inl h ↦ absurd (ne h.1) | inr h ↦ rw (h.0) refl ]

pub has_times : (xs : List ℕ) (n : ℕ) → Has xs n → 0 < times n xs
has_times [] n h = absurd h
has_times (x ∷ xs) n (inl e) = let t : mark x n ≡ 1 = subst (λ m. mark x m ≡ 1) e (times_self x) in omega arith
has_times (x ∷ xs) n (inr h) = omega (arith, has_times xs n h)

pub times_has : (xs : List ℕ) (n : ℕ) → 0 < times n xs → Has xs n
times_has [] n h = absurd (omega (arith, h))
times_has (x ∷ xs) n h = elim (eqb_tells x n) [
  | inl e ↦ inl e.1
  | inr e ↦ inr (times_has xs n (let t : mark x n ≡ 0 = times_other x n e.1 in omega (arith, h, t)))
]

pub each_times : (x n : ℕ) (xs : List ℕ) → n ≤ x → Each (λ y. x < y) xs → times n xs ≡ 0
each_times x n [] h e = refl
each_times x n (y ∷ ys) h e = let t : mark y n ≡ 0 = times_other y n (let l : x < y = e.0 in omega arith) in
    omega (arith, t, each_times x n ys h e.1)

pub rises_once : (xs : List ℕ) (n : ℕ) → Rises xs → times n xs ≤ 1
rises_once [] n r = omega arith
rises_once (x ∷ xs) n r = elim (eqb_tells x n) [
  | inl e ↦ (let t : mark x n ≡ 1 = subst (λ m. mark x m ≡ 1) e.1 (times_self x) in
      omega (arith, t, each_times x n xs (omega (arith, e.1)) r.0))
  | inr e ↦ (let t : mark x n ≡ 0 = times_other x n e.1 in omega (arith, t, rises_once xs n r.1))
]
