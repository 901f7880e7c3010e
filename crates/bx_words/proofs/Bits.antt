-- A field of an `and` or an `or` is the `and` or `or` of the fields, so a field of a word with a numeral is computed.
use Rattle.std.proofs.Common.{◌≡◌, ℕ, zero, suc, ◌-◌, ◌/◌, ◌%◌, ◌^◌, ◌<◌, refl, ap, ◌∙◌, arith}
use Rattle.std.proofs.lemmas.Nat.{and_shr, or_shr, and_mod, or_mod, and_mask, mod_below, pow_pos}
use Rattle.std.proofs.Math.Nat.{mod-eq_of_lt}
use Rattle.std.specs.Int.Bits.{bit_and, bit_or, and_zero_r, or_zero_l, or_zero_r}
use Rattle.bx_words.specs.Lanes.{field, rest_of}

pub field-or : (a b k n : ℕ) → field (bit_or a b) k n ≡ bit_or (field a k n) (field b k n)
field-or a b k n = ap (λ x. x % 2 ^ n) (or_shr a b k) ∙ or_mod (a / 2 ^ k) (b / 2 ^ k) n

pub field-and : (a b k n : ℕ) → field (bit_and a b) k n ≡ bit_and (field a k n) (field b k n)
field-and a b k n = ap (λ x. x % 2 ^ n) (and_shr a b k) ∙ and_mod (a / 2 ^ k) (b / 2 ^ k) n

pub field_below : (w k n : ℕ) → field w k n < 2 ^ n
field_below w k n = mod_below (w / 2 ^ k) (2 ^ n) (pow_pos n)

-- where the mask has all ones the field stays, where it has none it is 0
pub kept : (w mask k n : ℕ) → field mask k n ≡ 2 ^ n - 1 → field (bit_and w mask) k n ≡ field w k n
kept w mask k n e = field-and w mask k n ∙ ap (λ x. bit_and (field w k n) x) e ∙ and_mask (field w k n) n
    ∙ mod-eq_of_lt (field_below w k n)

pub cleared : (w mask k n : ℕ) → field mask k n ≡ 0 → field (bit_and w mask) k n ≡ 0
cleared w mask k n e = field-and w mask k n ∙ ap (λ x. bit_and (field w k n) x) e ∙ and_zero_r (field w k n)

-- where the other word has no bit the field stays, and where the word has none it is the other's
pub spared : (w c k n : ℕ) → field c k n ≡ 0 → field (bit_or w c) k n ≡ field w k n
spared w c k n e = field-or w c k n ∙ ap (λ x. bit_or (field w k n) x) e ∙ or_zero_r (field w k n)

pub written : (w c k n : ℕ) → field w k n ≡ 0 → field (bit_or w c) k n ≡ field c k n
written w c k n e = field-or w c k n ∙ ap (λ x. bit_or x (field c k n)) e ∙ or_zero_l (field c k n)

or_one : (x : ℕ) → x < 2 → bit_or x 1 ≡ 1
or_one zero h = refl
or_one (suc zero) h = refl
or_one (suc (suc x)) h = absurd (omega arith)

pub set_bit : (w c k : ℕ) → field c k 1 ≡ 1 → field (bit_or w c) k 1 ≡ 1
set_bit w c k e = field-or w c k 1 ∙ ap (λ x. bit_or (field w k 1) x) e ∙ or_one (field w k 1) (field_below w k 1)

-- a word of lanes and order bits leaves the rest above them, and so does a mask with all ones there
pub rest_spared : (w c : ℕ) → rest_of c ≡ 0 → rest_of (bit_or w c) ≡ rest_of w
rest_spared w c e = or_shr w c 27 ∙ ap (λ x. bit_or (rest_of w) x) e ∙ or_zero_r (rest_of w)

pub rest_kept : (w mask : ℕ) → w < 2 ^ 64 → rest_of mask ≡ 2 ^ 37 - 1 → rest_of (bit_and w mask) ≡ rest_of w
rest_kept w mask fits e =
    let below : rest_of w < 2 ^ 37 = omega arith in
    and_shr w mask 27 ∙ ap (λ x. bit_and (rest_of w) x) e ∙ and_mask (rest_of w) 37 ∙ mod-eq_of_lt below
