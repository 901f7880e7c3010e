-- How often a number stands in a list, and lists whose numbers rise.
use Rattle.std.proofs.Common.{◌≡◌, ℕ, suc, ◌+◌, ◌<◌, ◌==◌, ◌⊎◌, Bool, true, false, cond, List, [], ◌∷◌, ◌++◌, length}
use Rattle.std.proofs.Common.{refl, sym, ◌∙◌, ap, subst, arith, inl, inr}
use Rattle.std.proofs.lemmas.Bool.Decides.{eqb_tells}
use Rattle.bx_core.specs.declared.entry.Entry.{Entry}
use Rattle.bx_core.specs.Lists.{Each, Has, Rises, times}
use Rattle.bx_core.specs.States.{numbers}
use Rattle.bx_core.proofs.Times.{mark, times_self, times_other}
use Rattle.bx_core.proofs.Words.{has-right, has-left, each_of}
use Rattle.gw_ending.specs.Headline.{is_among}

pub among_times : (xs : List ℕ) (n : ℕ) → is_among xs n ≡ true → 0 < times n xs
among_times [] n h = absurd (cc)
among_times (x ∷ xs) n h = elim (eqb_tells x n) [
  | inl e ↦ (let t : mark x n ≡ 1 = subst (λ m. mark x m ≡ 1) e.1 (times_self x) in omega (arith, t))
  | inr e ↦ (let k : is_among xs n ≡ true = rw e.0 at h in omega (arith, among_times xs n k))
]

pub not_among_times : (xs : List ℕ) (n : ℕ) → is_among xs n ≡ false → times n xs ≡ 0
not_among_times [] n h = refl
not_among_times (x ∷ xs) n h = elim (eqb_tells x n) [
  | inl e ↦ absurd (let k : true ≡ false = rw e.0 at h in cc)
  | inr e ↦ (let k : is_among xs n ≡ false = rw e.0 at h in let t : mark x n ≡ 0 = times_other x n e.1 in
      omega (arith, t, not_among_times xs n k))
]

pub bool_cases : (b : Bool) → (b ≡ true) ⊎ (b ≡ false)
bool_cases true = inl refl
bool_cases false = inr refl

-- a list without the first place where x stands
without : ℕ → List ℕ → List ℕ
without x [] = []
without x (y ∷ ys) = cond (y == x) ys (y ∷ without x ys)

without_times : (x n : ℕ) (ys : List ℕ) → 0 < times x ys → times n ys ≡ mark x n + times n (without x ys)
unfolding without
without_times x n [] h = absurd (omega (arith, h))
without_times x n (y ∷ ys) h = elim (eqb_tells y x) [
  | inl e ↦ rw (e.0, e.1) refl
  | inr e ↦ (let t : mark y x ≡ 0 = times_other y x e.1 in
      let more : times n ys ≡ mark x n + times n (without x ys) = without_times x n ys (omega (arith, h, t)) in
      rw e.0 (omega (arith, more)))
]

without_length : (x : ℕ) (ys : List ℕ) → 0 < times x ys → length ys ≡ suc (length (without x ys))
unfolding without
without_length x [] h = absurd (omega (arith, h))
without_length x (y ∷ ys) h = elim (eqb_tells y x) [
  | inl e ↦ rw e.0 refl
  | inr e ↦ (let t : mark y x ≡ 0 = times_other y x e.1 in
      rw e.0 (ap suc (without_length x ys (omega (arith, h, t)))))
]

no_times : (ys : List ℕ) → ((n : ℕ) → 0 ≡ times n ys) → 0 ≡ length ys
no_times [] h = refl
no_times (y ∷ ys) h = absurd (omega (arith, h y, times_self y))

-- lists in which each number stands as often have one length
pub same_length : (xs ys : List ℕ) → ((n : ℕ) → times n xs ≡ times n ys) → length xs ≡ length ys
same_length [] ys h = no_times ys h
same_length (x ∷ xs) ys h =
    let there : 0 < times x ys = omega (arith, h x, times_self x) in
    omega (
      arith,
      without_length x ys there,
      same_length xs (without x ys)
          (λ n. omega (arith, h n, without_times x n ys there)),
    )

pub has_number : (xs : List Entry) (x : Entry) → Has xs x → Has (numbers xs) x.number
has_number [] x h = absurd h
has_number (y ∷ ys) x (inl e) = inl (ap (λ (p : Entry). p.number) e)
has_number (y ∷ ys) x (inr h) = inr (has_number ys x h)

pub number_has : (xs : List Entry) (n : ℕ) → Has (numbers xs) n → (x : Entry) × Has xs x × (x.number ≡ n)
number_has [] n h = absurd h
number_has (y ∷ ys) n (inl e) = (y, inl refl, e)
number_has (y ∷ ys) n (inr h) = let t : (x : Entry) × Has ys x × (x.number ≡ n) = number_has ys n h in
    (t.0, inr t.1, t.2)

-- the first of a rising list is below the others
pub above : (k : ℕ) (xs : List Entry) (x : Entry) → Each (λ y. k < y) (numbers xs) → Has xs x → k < x.number
above k xs x e h = each_of (λ y. k < y) (numbers xs) x.number e (has_number xs x h)

-- in a rising list a number tells its element
pub same_number : (xs : List Entry) (x y : Entry) → Rises (numbers xs) → Has xs x → Has xs y → x.number ≡ y.number →
    x ≡ y
same_number [] x y r hx hy e = absurd hx
same_number (z ∷ zs) x y r (inl a) (inl b) e = sym a ∙ b
same_number (z ∷ zs) x y r (inl a) (inr b) e = absurd (let l : z.number < y.number = above z.number zs y r.0 b in
    let s : z.number ≡ x.number = ap (λ (p : Entry). p.number) a in omega arith)
same_number (z ∷ zs) x y r (inr a) (inl b) e = absurd (let l : z.number < x.number = above z.number zs x r.0 a in
    let s : z.number ≡ y.number = ap (λ (p : Entry). p.number) b in omega arith)
same_number (z ∷ zs) x y r (inr a) (inr b) e = same_number zs x y r.1 a b e

pub each_from_has : {A : Type 0} (P : A → Type 0) (xs : List A) → ((x : A) → Has xs x → P x) → Each P xs
each_from_has P [] h = tt
each_from_has P (x ∷ xs) h = (h x (inl refl), each_from_has P xs (λ y k. h y (inr k)))

pub rises_left : (xs ys : List ℕ) → Rises (xs ++ ys) → Rises xs
rises_left [] ys r = tt
rises_left (x ∷ xs) ys r = (
  each_from_has (λ y. x < y) xs (λ y h. each_of (λ y. x < y) (xs ++ ys) y r.0 (has-left xs ys y h)),
  rises_left xs ys r.1,
)

pub rises_across : (xs ys : List ℕ) (x y : ℕ) → Rises (xs ++ ys) → Has xs x → Has ys y → x < y
rises_across [] ys x y r h k = absurd h
rises_across (z ∷ zs) ys x y r (inl e) k = let l : z < y =
    each_of (λ w. z < w) (zs ++ ys) y r.0 (has-right zs ys y k) in omega arith
rises_across (z ∷ zs) ys x y r (inr h) k = rises_across zs ys x y r.1 h k
