-- How long a text's newest run is, and how one more level changes it.
use Rattle.std.proofs.Common.{◌≡◌, ℕ, suc, ◌+◌, ◌≤◌, ◌<◌, min, Bool, true, false, not, ◌&&◌, List, [], ◌∷◌, refl, sym}
use Rattle.std.proofs.Common.{ap, ◌∙◌, cond, arith, nat_le, inl, inr}
use Rattle.std.proofs.Math.Bool.{beq}
use Rattle.std.proofs.lemmas.Bool.Decides.{leb_tells}
use Rattle.can_frame.specs.Stuffing.{same, five_equal, newest}
use Rattle.can_frame.specs.LevelRuns.{run_of, EndsIn}
use Rattle.can_frame.specs.declared.level_run.LevelRun.{LevelRun}

run_positive : (x : Bool) (older : List Bool) → 1 ≤ run_of (x ∷ older)
unfolding run_of
run_positive x [] = omega arith
run_positive x (y ∷ older) =
    elim (same x y) as (λ b. 1 ≤ cond b (suc (run_of (y ∷ older))) 1) [ true ↦ omega arith | false ↦ omega arith ]

le_tests : (a b : ℕ) → a ≤ b → nat_le a b ≡ true
le_tests a b h = elim (leb_tells a b) [ inl is_so ↦ is_so.0 | inr isnt ↦ absurd (omega (arith, isnt.1, h)) ]

gt_tests : (a b : ℕ) → b < a → nat_le a b ≡ false
gt_tests a b h = elim (leb_tells a b) [ inl is_so ↦ absurd (omega (arith, is_so.1, h)) | inr isnt ↦ isnt.0 ]

five_tests : (p q s t : Bool) (n : ℕ) → 1 ≤ n →
    (p && q && s && t) ≡ nat_le 5 (cond p (suc (cond q (suc (cond s (suc (cond t (suc n) 1)) 1)) 1)) 1)
five_tests false q s t n h = refl
five_tests true false s t n h = refl
five_tests true true false t n h = refl
five_tests true true true false n h = refl
five_tests true true true true n h = sym (le_tests 5 (suc (suc (suc (suc n)))) (omega arith))

short_tests : (p q s : Bool) → nat_le 5 (cond p (suc (cond q (suc (cond s 2 1)) 1)) 1) ≡ false
short_tests false q s = refl
short_tests true false s = refl
short_tests true true false = refl
short_tests true true true = refl

five-run : (r : List Bool) → five_equal r ≡ nat_le 5 (run_of r)
unfolding run_of
five-run [] = refl
five-run (a ∷ []) = refl
five-run (a ∷ b ∷ []) = elim (same a b) as (λ p. false ≡ nat_le 5 (cond p 2 1)) [ true ↦ refl | false ↦ refl ]
five-run (a ∷ b ∷ c ∷ []) = elim (same a b) as (λ p. false ≡ nat_le 5 (cond p (suc (cond (same b c) 2 1)) 1)) [
  | true ↦ elim (same b c) as (λ q. false ≡ nat_le 5 (suc (cond q 2 1))) [ true ↦ refl | false ↦ refl ]
  | false ↦ refl
]
five-run (a ∷ b ∷ c ∷ d ∷ []) = sym (short_tests (same a b) (same b c) (same c d))
five-run (a ∷ b ∷ c ∷ d ∷ e ∷ older) =
    five_tests (same a b) (same b c) (same c d) (same d e) (run_of (e ∷ older)) (run_positive e older)

-- as many as the run of a text counts, which are five at most
five_of : (n : ℕ) → nat_le 5 (min n 5) ≡ nat_le 5 n
five_of n = elim (leb_tells 5 n) [
  | inl is_so ↦ le_tests 5 (min n 5) (omega (arith, is_so.1)) ∙ sym is_so.0
  | inr isnt ↦ gt_tests 5 (min n 5) (omega (arith, isnt.1)) ∙ sym isnt.0
]

pub full_is : (text : List Bool) (run : LevelRun) → EndsIn text run → nat_le 5 run.count ≡ five_equal text
full_is text run h = ap (nat_le 5) h.count_is ∙ five_of (run_of text) ∙ sym (five-run text)

five_long_by : (n : ℕ) → nat_le 5 n ≡ true → 5 ≤ n
five_long_by n h = elim (leb_tells 5 n) [ inl is_so ↦ is_so.1 | inr isnt ↦ absurd (cc (h, isnt.0)) ]

pub five_long : (r : List Bool) → five_equal r ≡ true → 5 ≤ run_of r
five_long r h = five_long_by (run_of r) (sym (five-run r) ∙ h)

pub opposite_run : (x : Bool) (r : List Bool) → run_of (not x ∷ x ∷ r) ≡ 1
unfolding run_of
opposite_run true r = refl
opposite_run false r = refl

pub five-opposite : (x : Bool) (r : List Bool) → five_equal (not x ∷ x ∷ r) ≡ false
five-opposite true r = five-run (false ∷ true ∷ r) ∙ ap (nat_le 5) (opposite_run true r)
five-opposite false r = five-run (true ∷ false ∷ r) ∙ ap (nat_le 5) (opposite_run false r)

longer_run : (r : List Bool) (x : Bool) → same x (newest r) ≡ true → run_of (x ∷ r) ≡ run_of r + 1
unfolding run_of
longer_run [] x h = refl
longer_run (y ∷ older) x h = ap (λ b. cond b (suc (run_of (y ∷ older))) 1) h ∙ omega arith

new_run : (r : List Bool) (x : Bool) → same x (newest r) ≡ false → run_of (x ∷ r) ≡ 1
unfolding run_of
new_run [] x h = refl
new_run (y ∷ older) x h = ap (λ b. cond b (suc (run_of (y ∷ older))) 1) h

grows_by : (r : List Bool) (x b : Bool) → same x (newest r) ≡ b → run_of (x ∷ r) ≤ run_of r + 1
grows_by r x true h = omega (arith, longer_run r x h)
grows_by r x false h = omega (arith, new_run r x h)

pub run_grows : (r : List Bool) (x : Bool) → run_of (x ∷ r) ≤ run_of r + 1
run_grows r x = grows_by r x (same x (newest r)) refl

-- what the code's `==` of two levels computes
same-beq : (x y : Bool) → same x y ≡ beq x y
same-beq true true = refl
same-beq true false = refl
same-beq false true = refl
same-beq false false = refl

not_by : (a b : Bool) → not a ≡ b → a ≡ not b
not_by true b h = ap not h
not_by false b h = ap not h

unlike : (x y b : Bool) → not (beq x y) ≡ b → same x y ≡ not b
unlike x y b e = same-beq x y ∙ not_by (beq x y) b e

unlike_newest : (text : List Bool) (run : LevelRun) (x b : Bool) → EndsIn text run → not (beq x run.level) ≡ b →
    same x (newest text) ≡ not b
unlike_newest text run x b h e = ap (same x) (sym h.level_is) ∙ unlike x run.level b e

-- how many equal levels there are with one more, five at most
pub count_anew : (text : List Bool) (run : LevelRun) (x : Bool) → EndsIn text run → not (beq x run.level) ≡ true →
    1 ≡ min (run_of (x ∷ text)) 5
count_anew text run x h e = omega (arith, new_run text x (unlike_newest text run x true h e))

pub count_longer : (text : List Bool) (run : LevelRun) (x : Bool) → EndsIn text run → not (beq x run.level) ≡ false →
    min run.count 4 + 1 ≡ min (run_of (x ∷ text)) 5
count_longer text run x h e = omega (arith, longer_run text x (unlike_newest text run x false h e), h.count_is)

pub ends_none : EndsIn [] (record { count = 0; level = true })
unfolding run_of
ends_none = record { count_is = refl; level_is = refl }

equal_by : (x y : Bool) → beq x y ≡ true → x ≡ y
equal_by true true h = refl
equal_by true false h = absurd (cc h)
equal_by false true h = absurd (cc h)
equal_by false false h = refl

opposite_by : (x y : Bool) → beq x y ≡ false → x ≡ not y
opposite_by true true h = absurd (cc h)
opposite_by true false h = refl
opposite_by false true h = refl
opposite_by false false h = absurd (cc h)

pub equal_newest : (text : List Bool) (x level : Bool) → level ≡ newest text → beq x level ≡ true → x ≡ newest text
equal_newest text x level is h = equal_by x level h ∙ is

pub opposite_newest : (text : List Bool) (x level : Bool) → level ≡ newest text → beq x level ≡ false →
    x ≡ not (newest text)
opposite_newest text x level is h = opposite_by x level h ∙ ap not is
