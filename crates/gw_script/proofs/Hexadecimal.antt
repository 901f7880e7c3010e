-- Hexadecimal digits, one by one and two by two.
use Rattle.std.proofs.Common.{◌≡◌, ℕ, zero, suc, ◌+◌, ◌-◌, ◌/◌, ◌%◌, ◌^◌, ◌<◌, List, [], ◌∷◌, ◌++◌, length, replicate}
use Rattle.std.proofs.Common.{true, false, cond, refl, ap, sym, ◌∙◌, arith, inl, inr, eq-zero-or-pos, get_or, zero-add}
use Rattle.std.proofs.Common.{◌*◌}
use borrow.Author.Tests.{eq-eqb, ne_eqb}
use Rattle.can_frame.specs.Frames.{Identifier, standard, extended, IsIdentifier, is_extended_id, number_of}
use Rattle.std.specs.Fmt.{digits, digits_onto, digit_glyph}
use Rattle.gw_script.specs.declared.frame_text.TheConstants.{PAIRS}
use Rattle.gw_script.proofs.Tables.{pairs_at}
use Rattle.gw_script.specs.FrameTexts.{hexadecimal, identifier_text}

abbrev glyph : ℕ → ℕ
glyph n = digit_glyph false (n % 16)

-- the last `width` digits of n, and then `behind`
abbrev last_digits : ℕ → ℕ → List ℕ → List ℕ
last_digits zero n behind = behind
last_digits (suc width) n behind = last_digits width (n / 16) (glyph n ∷ behind)

one_zero_more : (width : ℕ) (behind : List ℕ) → replicate width 48
    ++ (48 ∷ behind) ≡ 48 ∷ (replicate width 48 ++ behind)
one_zero_more zero behind = refl
one_zero_more (suc width) behind = ap (λ t. 48 ∷ t) (one_zero_more width behind)

last_digits-zero : (width : ℕ) (behind : List ℕ) → last_digits width 0 behind ≡ replicate width 48 ++ behind
last_digits-zero zero behind = refl
last_digits-zero (suc width) behind = last_digits-zero width (48 ∷ behind) ∙ one_zero_more width behind

spelled_last : (count n : ℕ) (behind : List ℕ) → n / 16 ≡ 0 →
    digits_onto (suc count) 16 false n behind ≡ glyph n ∷ behind
spelled_last count n behind none =
    ap (λ t. cond t (glyph n ∷ behind) (digits_onto count 16 false (n / 16) (glyph n ∷ behind)))
    (eq-eqb (n / 16) 0 none)

spelled_next : (count n : ℕ) (behind : List ℕ) → 0 < n / 16 →
    digits_onto (suc count) 16 false n behind ≡ digits_onto count 16 false (n / 16) (glyph n ∷ behind)
spelled_next count n behind some =
    ap (λ t. cond t (glyph n ∷ behind) (digits_onto count 16 false (n / 16) (glyph n ∷ behind)))
    (ne_eqb (n / 16) 0 (λ e. omega arith))

abbrev padded : ℕ → List ℕ → List ℕ
padded width ds = replicate (width - length ds) 48 ++ ds

-- a number below 16 has one digit
one_digit : (width count n all : ℕ) (behind : List ℕ) → n / 16 ≡ 0 → all ≡ suc width + length behind →
    padded all (digits_onto (suc count) 16 false n behind) ≡ last_digits (suc width) n behind
one_digit width count n all behind none is =
    let zeros : all - suc (length behind) ≡ width = omega arith in
    ap (padded all) (spelled_last count n behind none)
    ∙ rw (zeros, none) (sym (last_digits-zero width (glyph n ∷ behind)))

-- with zeros in front, the digits are the last ones
padded-spelled : (width count n all : ℕ) (behind : List ℕ) → width < count → n < 16 ^ suc width →
    all ≡ suc width + length behind →
    padded all (digits_onto count 16 false n behind) ≡ last_digits (suc width) n behind
padded-spelled width zero n all behind enough fits is = absurd (omega arith)
padded-spelled zero (suc count) n all behind enough fits is = one_digit zero count n all behind (omega arith) is
padded-spelled (suc width) (suc count) n all behind enough fits is = elim (eq-zero-or-pos (n / 16)) [
  | inl none ↦ one_digit (suc width) count n all behind none is
  | inr some ↦
      ap (padded all) (spelled_next count n behind some)
      ∙ padded-spelled width count (n / 16) all (glyph n ∷ behind) (omega arith) (omega arith) (omega arith)
]

digits-onto : (n : ℕ) → digits 16 false n ≡ digits_onto 64 16 false n []
unfolding digits
digits-onto n = refl

hexadecimal-last : (width n : ℕ) → width < 64 → n < 16 ^ suc width →
    hexadecimal (suc width) n ≡ last_digits (suc width) n []
hexadecimal-last width n enough fits =
    ap (padded (suc width)) (digits-onto n) ∙ padded-spelled width 64 n (suc width) [] enough fits (omega arith)

pub two-digits : (n : ℕ) → n < 256 → hexadecimal 2 n ≡ digit_glyph false (n / 16) ∷ digit_glyph false (n % 16) ∷ []
two-digits n few = let high : n / 16 % 16 ≡ n / 16 = omega arith in
    rw (hexadecimal-last 1 n (omega arith) (omega arith), high)

pub PAIRS_at : (n : ℕ) → n < 256 → (get_or PAIRS (n * 2) 0 ≡ digit_glyph false (n / 16))
    × (get_or PAIRS (n * 2 + 1) 0 ≡ digit_glyph false (n % 16))
PAIRS_at n few =
    rw zero-add at (pairs_at (λ m. digit_glyph false (m / 16)) (λ m. digit_glyph false (m % 16)) 256 0 n few)

pub three-digits : (n : ℕ) → n < 4096 → hexadecimal 3 n ≡ digit_glyph false (n / 256) ∷ hexadecimal 2 (n % 256)
three-digits n few =
    let high : n / 16 / 16 % 16 ≡ n / 256 = omega arith in
    let middle : n / 16 % 16 ≡ n % 256 / 16 = omega arith in
    let low : n % 16 ≡ n % 256 % 16 = omega arith in
    rw (hexadecimal-last 2 n (omega arith) (omega arith), two-digits (n % 256) (omega arith), high, middle, low)

pub eight-digits : (n : ℕ) → n < 2 ^ 32 → hexadecimal 8 n
    ≡ hexadecimal 2 (n / 16777216) ++ (hexadecimal 2 (n / 65536 % 256)
    ++ (hexadecimal 2 (n / 256 % 256) ++ hexadecimal 2 (n % 256)))
eight-digits n few =
    let a : n / 16 / 16 / 16 / 16 / 16 / 16 / 16 % 16 ≡ n / 16777216 / 16 = omega arith in
    let b : n / 16 / 16 / 16 / 16 / 16 / 16 % 16 ≡ n / 16777216 % 16 = omega arith in
    let c : n / 16 / 16 / 16 / 16 / 16 % 16 ≡ n / 65536 % 256 / 16 = omega arith in
    let d : n / 16 / 16 / 16 / 16 % 16 ≡ n / 65536 % 256 % 16 = omega arith in
    let e : n / 16 / 16 / 16 % 16 ≡ n / 256 % 256 / 16 = omega arith in
    let f : n / 16 / 16 % 16 ≡ n / 256 % 256 % 16 = omega arith in
    let g : n / 16 % 16 ≡ n % 256 / 16 = omega arith in
    let h : n % 16 ≡ n % 256 % 16 = omega arith in
    rw (
      hexadecimal-last 7 n (omega arith) (omega arith),
      two-digits (n / 16777216) (omega arith),
      two-digits (n / 65536 % 256) (omega arith),
      two-digits (n / 256 % 256) (omega arith),
      two-digits (n % 256) (omega arith),
      a,
      b,
      c,
      d,
      e,
      f,
      g,
      h,
    )

pub extended-text : (id : Identifier) → true ≡ is_extended_id id → identifier_text id ≡ hexadecimal 8 (number_of id)
extended-text (extended n) is = refl
extended-text (standard n) is = cc

pub standard-text : (id : Identifier) → false ≡ is_extended_id id → identifier_text id ≡ hexadecimal 3 (number_of id)
standard-text (standard n) is = refl
standard-text (extended n) is = cc

pub standard-fits : (id : Identifier) → false ≡ is_extended_id id → IsIdentifier id → number_of id < 2 ^ 11
standard-fits (standard n) is fits = fits
standard-fits (extended n) is fits = cc
