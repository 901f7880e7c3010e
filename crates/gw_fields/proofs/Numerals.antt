-- Laws of digits and of texts in two parts.
use Rattle.std.proofs.Common.{◌≡◌, ℕ, ◌+◌, ◌*◌, ◌^◌, ◌<◌, ◌≤◌, zero, List, [], ◌∷◌, length, take, get_or, Bool, true}
use Rattle.std.proofs.Common.{false, not, cond, ◌||◌, None, eqb, refl, sym, ◌∙◌, arith, length-take-le}
use Rattle.std.proofs.Math.Nat.{mul-le-mul, pow-le-pow_left, pow-le-pow_right}
use Rattle.std.proofs.lemmas.Bool.{and_parts, ltb-true, lt-ltb}
use Rattle.std.proofs.lemmas.List.{take_all}
use Rattle.std.proofs.lemmas.Int.Digits.{digits_value-lt, digits_value_more}
use Rattle.std.proofs.lemmas.List.Folds.{list_all_more}
use Rattle.std.specs.Char.{is_digit, digit_value}
use Rattle.std.specs.List.{list_all, list_any, position_or_len}
use Rattle.std.specs.Str.Parse.{AllDigits, digits_value}
use Rattle.gw_fields.specs.Digits.{parts_around}

-- digits that pass the test are digits
pub all_digits : (radix : ℕ) (cs : List ℕ) → list_all (λ c. is_digit c radix) cs ≡ true → AllDigits radix cs
all_digits radix [] h = tt
all_digits radix (c ∷ cs) h =
    let parts = and_parts (is_digit c radix) (list_all (λ c. is_digit c radix) cs) h in
    (ltb-true (digit_value c) radix parts.0, all_digits radix cs parts.1)

-- a number is below the power of its radix
pub value_below : (radix : ℕ) (cs : List ℕ) → list_all (λ c. is_digit c radix) cs ≡ true →
    digits_value radix cs < radix ^ length cs
value_below radix cs h = digits_value-lt radix cs (all_digits radix cs h)

-- the same of all digits that were read
pub all_below : (radix : ℕ) (cs : List ℕ) (i n : ℕ) → length cs ≤ i →
    list_all (λ c. is_digit c radix) (take i cs) ≡ true → n ≡ digits_value radix (take i cs) → n < radix ^ length cs
all_below radix cs i n beyond all is =
    let whole : take i cs ≡ cs = take_all i cs beyond in
    rw (is, whole) (value_below radix cs (rw whole at all))

-- the number of at most eight digits has room for one digit more
pub next_fits : (radix : ℕ) (bs : List ℕ) (i n r : ℕ) → r ≡ radix → radix ≤ 16 → i < length bs → length bs ≤ 9 →
    list_all (λ c. is_digit c radix) (take i bs) ≡ true → n ≡ digits_value radix (take i bs) → n * r ≤ 68719476736
next_fits radix bs i n r same small lt few all is =
    let below = value_below radix (take i bs) all in
    let count : length (take i bs) ≤ 8 = omega (arith, length-take-le i bs) in
    let e₁ : radix ^ length (take i bs) ≤ 16 ^ length (take i bs) = pow-le-pow_left small (length (take i bs)) in
    let e₂ : 16 ^ length (take i bs) ≤ 16 ^ 8 = pow-le-pow_right (let h : zero < 16 = omega arith in h) count in
    let e₃ : 16 ^ 8 ≡ 4294967296 = refl in
    let most : n ≤ 4294967296 = omega arith in
    let base : r ≤ 16 = omega arith in
    mul-le-mul most base

-- one digit more is read
pub next_digits : (radix : ℕ) (bs : List ℕ) (i b : ℕ) → i < length bs → b ≡ get_or bs i 0 →
    list_all (λ c. is_digit c radix) (take i bs) ≡ true → digit_value b < radix →
    list_all (λ c. is_digit c radix) (take (i + 1) bs) ≡ true
next_digits radix bs i b lt is all passes =
    let e = list_all_more (λ c. is_digit c radix) bs i 0 lt in
    let here : is_digit (get_or bs i 0) radix ≡ true = rw (← is) (lt-ltb (digit_value b) radix passes) in
    e ∙ rw (all, here) refl

pub next_number : (radix : ℕ) (bs : List ℕ) (i n b v r : ℕ) → i < length bs → b ≡ get_or bs i 0 →
    n ≡ digits_value radix (take i bs) → v ≡ digit_value b → r ≡ radix →
    n * r + v ≡ digits_value radix (take (i + 1) bs)
next_number radix bs i n b v r lt is so_far value same =
    rw (same, so_far, value, is) (sym (digits_value_more radix bs i lt))

-- no element passes the test
none_passes : {X : Type 0} (p : X → Bool) (xs : List X) → position_or_len p xs ≡ length xs → list_any p xs ≡ false
none_passes p [] h = refl
none_passes p (x ∷ xs) h = elim (p x) as (λ b. cond (not b) (1 + position_or_len p xs) 0 ≡ length (x ∷ xs) →
    (b || list_any p xs) ≡ false) [
      | true ↦ λ e. absurd (omega arith)
      | false ↦ λ e. none_passes p xs (omega arith)
    ] h

-- a text that doesn't have the byte
pub no_parts : (byte : ℕ) (text : List ℕ) → position_or_len (λ b. eqb b byte) text ≡ length text →
    parts_around byte text ≡ None
no_parts byte text h = rw (none_passes (λ b. eqb b byte) text h) refl
