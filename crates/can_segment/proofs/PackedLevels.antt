-- Levels that words hold in their bits.
use Rattle.std.proofs.Common.{◌≡◌, ℕ, zero, suc, ◌+◌, ◌-◌, ◌*◌, ◌/◌, ◌%◌, ◌^◌, ◌<◌, ◌≤◌, Bool, true, false, eqb}
use Rattle.std.proofs.Common.{List, [], ◌∷◌, ◌++◌, length, replicate, take, get_or, flat_map, refl, sym, ap, ap₂}
use Rattle.std.proofs.Common.{arith, ◌∙◌, add-one, add-zero, append-nil, append_assoc, inl, inr}
use Rattle.std.proofs.Common.{add-mul, length-append, length-take-le, mod-eq_of_lt}
use Rattle.std.specs.Int.{bit_at, from_bool}
use Rattle.std.proofs.Math.Nat.{mul-le-mul_left, mul-le-mul_right, mul_assoc, pow-le-pow_right, pow-suc}
use Rattle.std.proofs.lemmas.Bool.{cases_lt}
use Rattle.std.proofs.lemmas.List.{get_or_append_left, get_or-append_right, replicate_more}
use Rattle.std.proofs.lemmas.List.{replicate-append-replicate}
use Rattle.std.proofs.lemmas.List.Concat.{flat_map-append, get_or-flat_map}
use Rattle.std.proofs.lemmas.Nat.{one_shl, pow-add, pow_pos}
use Rattle.std.proofs.lemmas.Nat.Bits.{bit_at-suc, bit_at_lowest}
use Rattle.can_segment.specs.Levels.{ArePacked, levels_of_word, levels_of_words, recessive_levels}

-- how many levels there are

pub length-levels_of_word : (n word : ℕ) → length (levels_of_word n word) ≡ n
unfolding levels_of_word
length-levels_of_word zero word = refl
length-levels_of_word (suc n) word =
    length-append (levels_of_word n (word / 2)) (eqb (word % 2) 1 ∷ [])
    ∙ omega (arith, length-levels_of_word n (word / 2))

length-full : (words : List ℕ) → length (flat_map (levels_of_word 64) words) ≡ 64 * length words
length-full [] = refl
length-full (w ∷ ws) =
    length-append (levels_of_word 64 w) (flat_map (levels_of_word 64) ws)
    ∙ omega (arith, length-levels_of_word 64 w, length-full ws)

pub length-levels_of_words : (words : List ℕ) (n last : ℕ) →
    length (levels_of_words words n last) ≡ 64 * length words + n
length-levels_of_words words n last =
    length-append (flat_map (levels_of_word 64) words) (levels_of_word n last)
    ∙ omega (arith, length-full words, length-levels_of_word n last)

-- the levels of a word, one by one

level_at : (n word i : ℕ) (d : Bool) → i < n → get_or (levels_of_word n word) i d ≡ eqb (bit_at word (n - 1 - i)) 1
unfolding levels_of_word
level_at zero word i d h = absurd (omega (arith, h))
level_at (suc n) word i d h =
    let first = levels_of_word n (word / 2) in
    let last = eqb (word % 2) 1 ∷ [] in
    let size = length-levels_of_word n (word / 2) in
    elim (cases_lt i n) [
      | inl less ↦
          let above : suc (n - 1 - i) ≡ suc n - 1 - i = omega (arith, less) in
          get_or_append_left first last d i (omega (arith, size, less))
          ∙ level_at n (word / 2) i d less
          ∙ ap (λ bit. eqb bit 1) (sym (bit_at-suc word (n - 1 - i)))
          ∙ ap (λ k. eqb (bit_at word k) 1) above
      | inr is ↦
          let behind : i - n ≡ 0 = omega (arith, is, h) in
          let lowest : 0 ≡ suc n - 1 - i = omega (arith, is, h) in
          get_or-append_right first last n i d size (omega (arith, is))
          ∙ ap (λ k. get_or last k d) behind
          ∙ ap (λ bit. eqb bit 1) (sym (bit_at_lowest word))
          ∙ ap (λ k. eqb (bit_at word k) 1) lowest
    ]

pub no_levels : (word : ℕ) → levels_of_word 0 word ≡ []
unfolding levels_of_word
no_levels word = refl

pub from_bool_most : (level : Bool) → from_bool level ≤ 1
from_bool_most false = omega arith
from_bool_most true = omega arith

-- a word with a level more

pub next_level : (n word : ℕ) (level : Bool) →
    levels_of_word (n + 1) (word * 2 + from_bool level) ≡ levels_of_word n word ++ level ∷ []
unfolding levels_of_word
next_level n word false =
    let half : (word * 2 + 0) / 2 ≡ word = omega arith in
    let lowest : (word * 2 + 0) % 2 ≡ 0 = omega arith in
    ap (λ m. levels_of_word m (word * 2 + 0)) (add-one n)
    ∙ ap₂ (λ w bit. levels_of_word n w ++ eqb bit 1 ∷ []) half lowest
next_level n word true =
    let half : (word * 2 + 1) / 2 ≡ word = omega arith in
    let lowest : (word * 2 + 1) % 2 ≡ 1 = omega arith in
    ap (λ m. levels_of_word m (word * 2 + 1)) (add-one n)
    ∙ ap₂ (λ w bit. levels_of_word n w ++ eqb bit 1 ∷ []) half lowest

-- a word of n levels has room for k more
pub room_of : (n k word : ℕ) → word < 2 ^ n → n + k ≤ 64 → (word + 1) * 2 ^ k ≤ 2 ^ 64
room_of n k word fits most =
    let all : (word + 1) * 2 ^ k ≤ 2 ^ n * 2 ^ k = mul-le-mul_right (2 ^ k) (omega (arith, fits)) in
    let power : 2 ^ (n + k) ≤ 2 ^ 64 = pow-le-pow_right (omega arith) most in
    omega (arith, all, power, pow-add 2 n k)

-- and they fit with them
pub fits_with : (n k word next : ℕ) → word < 2 ^ n → next + 1 ≤ (word + 1) * 2 ^ k → next < 2 ^ (n + k)
fits_with n k word next fits room =
    let all : (word + 1) * 2 ^ k ≤ 2 ^ n * 2 ^ k = mul-le-mul_right (2 ^ k) (omega (arith, fits)) in
    omega (arith, all, room, pow-add 2 n k)

-- a level more, behind the first k of `count`
pub one_more : (first word k : ℕ) (level : Bool) → word + 1 ≤ (first + 1) * 2 ^ k →
    word * 2 + from_bool level + 1 ≤ (first + 1) * 2 ^ (k + 1)
one_more first word k level room =
    let twice : (first + 1) * 2 ^ (k + 1) ≡ (first + 1) * 2 ^ k * 2 =
    ap (λ m. (first + 1) * 2 ^ m) (add-one k) ∙ ap (λ m. (first + 1) * m) (pow-suc 2 k)
    ∙ sym (mul_assoc (first + 1) (2 ^ k) 2) in
    omega (arith, twice, room, from_bool_most level)

pub one_more_fits : (first word k count : ℕ) (level : Bool) → word + 1 ≤ (first + 1) * 2 ^ k → k < count →
    (first + 1) * 2 ^ count ≤ 2 ^ 64 → word * 2 + from_bool level < 2 ^ 64
one_more_fits first word k count level room less most =
    let all : (first + 1) * 2 ^ (k + 1) ≤ (first + 1) * 2 ^ count =
    mul-le-mul_left (first + 1) (pow-le-pow_right (omega arith) (omega (arith, less))) in
    omega (arith, all, most, one_more first word k level room)

-- recessive levels

one_more_recessive : (count : ℕ) → recessive_levels count ++ true ∷ [] ≡ recessive_levels (suc count)
one_more_recessive count = rw add-one at (replicate_more count true)

pub more_recessive : (n count word : ℕ) →
    levels_of_word (n + count) (word * 2 ^ count + (2 ^ count - 1)) ≡ levels_of_word n word ++ recessive_levels count
more_recessive n zero word =
    ap₂ levels_of_word (add-zero n) (omega arith) ∙ sym (append-nil (levels_of_word n word))
more_recessive n (suc count) word =
    let shifted : word * 2 ^ suc count ≡ word * 2 ^ count * 2 =
    ap (λ k. word * k) (pow-suc 2 count) ∙ sym (mul_assoc word (2 ^ count) 2) in
    let twice : word * 2 ^ suc count + (2 ^ suc count - 1) ≡ (word * 2 ^ count + (2 ^ count - 1)) * 2 + 1 =
    omega (arith, shifted, pow-suc 2 count, pow_pos count) in
    ap₂ levels_of_word (omega arith) twice
    ∙ next_level (n + count) (word * 2 ^ count + (2 ^ count - 1)) true
    ∙ ap (λ levels. levels ++ true ∷ []) (more_recessive n count word)
    ∙ append_assoc (levels_of_word n word) (recessive_levels count) (true ∷ [])
    ∙ ap (λ levels. levels_of_word n word ++ levels) (one_more_recessive count)

recessive_word : levels_of_word 64 (2 ^ 64 - 1) ≡ recessive_levels 64
recessive_word = more_recessive 0 64 0 ∙ ap (λ levels. levels ++ recessive_levels 64) (no_levels 0)

recessive_words : (count : ℕ) →
    flat_map (levels_of_word 64) (replicate count (2 ^ 64 - 1)) ≡ recessive_levels (64 * count)
recessive_words zero = refl
recessive_words (suc count) =
    ap (λ levels. levels ++ flat_map (levels_of_word 64) (replicate count (2 ^ 64 - 1))) recessive_word
    ∙ ap (λ levels. recessive_levels 64 ++ levels) (recessive_words count)
    ∙ replicate-append-replicate 64 (64 * count) true
    ∙ ap recessive_levels (omega arith)

no_more : (levels : List Bool) (last : ℕ) → levels ++ levels_of_word 0 last ≡ levels
no_more levels last = ap (λ part. levels ++ part) (no_levels last) ∙ append-nil levels

-- a shift and its ones, as the code computes them
pub shifted : (word count : ℕ) → count < 64 → (word + 1) * 2 ^ count ≤ 2 ^ 64 →
    word * 2 ^ count % 2 ^ 64 + (1 * 2 ^ count % 2 ^ 64 - 1) ≡ word * 2 ^ count + (2 ^ count - 1)
shifted word count less room =
    let sum : (word + 1) * 2 ^ count ≡ word * 2 ^ count + 2 ^ count = add-mul word 1 (2 ^ count) ∙ omega arith in
    let fits : word * 2 ^ count < 2 ^ 64 = omega (arith, sum, room, pow_pos count) in
    ap₂ (λ a b. a + (b - 1)) (mod-eq_of_lt fits) (one_shl count 64 less)

-- words, and the word behind them that has n levels, hold these levels
pub record Hold (words : List ℕ) (n last : ℕ) (levels : List Bool) : Type 0 where
  pub below : n < 64
  pub rest : last < 2 ^ n
  pub items : levels_of_words words n last ≡ levels

pub held : (words : List ℕ) (last len : ℕ) (levels : List Bool) → ArePacked words last len →
    levels_of_words words (len % 64) last ≡ levels → Hold words (len % 64) last levels
held words last len levels packed is = record { below = omega arith; rest = packed.rest; items = is }

pub length-held : {words : List ℕ} {n last : ℕ} {levels : List Bool} → Hold words n last levels →
    length levels ≡ 64 * length words + n
length-held {words = words} {n = n} {last = last} h =
    sym (ap length h.items) ∙ length-levels_of_words words n last

-- where there are `len` levels in all
pub rest_of : {words : List ℕ} {n last : ℕ} {levels : List Bool} (len : ℕ) → Hold words n last levels →
    length levels ≡ len → len % 64 ≡ n
rest_of {words = words} {n = n} {last = last} {levels = levels} len h size =
    let less = h.below in omega (arith, less, size, length-held h)

pub packed : {words : List ℕ} {n last : ℕ} {levels : List Bool} (len : ℕ) → Hold words n last levels →
    length levels ≡ len → ArePacked words last len
packed {last = last} len h size =
    let n_is = rest_of len h size in
    record { size = omega (arith, n_is, size, length-held h); rest = rw n_is h.rest }

pub unpacked : {words : List ℕ} {n last : ℕ} {levels : List Bool} (len : ℕ) → Hold words n last levels →
    length levels ≡ len → levels_of_words words (len % 64) last ≡ levels
unpacked {words = words} {last = last} len h size =
    ap (λ k. levels_of_words words k last) (rest_of len h size) ∙ h.items

-- levels more, within the last word or up to its end
module _ {words : List ℕ} {n last : ℕ} {levels : List Bool} (next : ℕ) (more : List Bool) (h : Hold words n last levels)
  where
    all_levels : (m : ℕ) → levels_of_word m next ≡ levels_of_word n last ++ more →
        levels_of_words words m next ≡ levels ++ more
    all_levels m e =
        ap (λ part. flat_map (levels_of_word 64) words ++ part) e
        ∙ sym (append_assoc (flat_map (levels_of_word 64) words) (levels_of_word n last) more)
        ∙ ap (λ part. part ++ more) h.items

    pub more_held : (m : ℕ) → levels_of_word m next ≡ levels_of_word n last ++ more → m < 64 → next < 2 ^ m →
        Hold words m next (levels ++ more)
    more_held m e below fits = record { below = below; rest = fits; items = all_levels m e }

    pub word_filled : levels_of_word 64 next ≡ levels_of_word n last ++ more →
        Hold (words ++ next ∷ []) 0 0 (levels ++ more)
    word_filled e = record {
      below = omega arith;
      rest = omega arith;
      items = no_more (flat_map (levels_of_word 64) (words ++ next ∷ [])) 0
          ∙ flat_map-append (levels_of_word 64) words (next ∷ [])
          ∙ ap (λ part. flat_map (levels_of_word 64) words ++ part) (append-nil (levels_of_word 64 next))
          ∙ all_levels 64 e;
    }

-- recessive words behind full ones
pub words_more : {words : List ℕ} {last : ℕ} {levels : List Bool} (count : ℕ) → Hold words 0 last levels →
    Hold (words ++ replicate count (2 ^ 64 - 1)) 0 0 (levels ++ recessive_levels (64 * count))
words_more {words = words} {last = last} {levels = levels} count h =
    let full : flat_map (levels_of_word 64) words ≡ levels =
    sym (no_more (flat_map (levels_of_word 64) words) last) ∙ h.items in
    record {
      below = omega arith;
      rest = omega arith;
      items = no_more (flat_map (levels_of_word 64) (words ++ replicate count (2 ^ 64 - 1))) 0
          ∙ flat_map-append (levels_of_word 64) words (replicate count (2 ^ 64 - 1))
          ∙ ap₂ (λ a b. a ++ b) full (recessive_words count);
    }

-- recessive levels in three parts
pub joined : (levels : List Bool) (i j k count : ℕ) → i + j + k ≡ count →
    ((levels ++ recessive_levels i) ++ recessive_levels j) ++ recessive_levels k ≡ levels ++ recessive_levels count
joined levels i j k count is =
    let all : recessive_levels i ++ (recessive_levels j ++ recessive_levels k) ≡ recessive_levels count =
    ap (λ part. recessive_levels i ++ part) (replicate-append-replicate j k true)
    ∙ replicate-append-replicate i (j + k) true ∙ ap recessive_levels (omega (arith, is)) in
    simp append_assoc (ap (λ part. levels ++ part) all)

-- the level at this bit

module _ (words : List ℕ) (n last : ℕ) where
  pub level_of_full : (q r : ℕ) (d : ℕ) (b : Bool) → q < length words → r < 64 →
      get_or (levels_of_words words n last) (64 * q + r) b ≡ eqb (bit_at (get_or words q d) (63 - r)) 1
  level_of_full q r d b within below =
      let start = length-full (take q words) ∙ ap (λ k. 64 * k) (length-take-le q words (omega (arith, within))) in
      let size = length-full words in
      get_or_append_left (flat_map (levels_of_word 64) words) (levels_of_word n last) b (64 * q + r)
      (omega (arith, size, within, below))
      ∙ ap (λ k. get_or (flat_map (levels_of_word 64) words) (k + r) b) (sym start)
      ∙ get_or-flat_map (levels_of_word 64) words q r d b within
      (omega (arith, below, length-levels_of_word 64 (get_or words q d)))
      ∙ level_at 64 (get_or words q d) r b below

  pub level_of_last : (r : ℕ) (b : Bool) → r < n →
      get_or (levels_of_words words n last) (64 * length words + r) b ≡ eqb (bit_at last (n - 1 - r)) 1
  level_of_last r b below =
      get_or-append_right (flat_map (levels_of_word 64) words) (levels_of_word n last) (64 * length words)
      (64 * length words + r) b (length-full words) (omega arith)
      ∙ ap (λ k. get_or (levels_of_word n last) k b) (omega arith)
      ∙ level_at n last r b below
