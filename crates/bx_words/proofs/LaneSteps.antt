-- What the steps' numerals do to a lane.
use Rattle.std.proofs.Common.{◌≡◌, ℕ, zero, suc, ◌+◌, ◌-◌, ◌*◌, ◌/◌, ◌%◌, ◌^◌, ◌<◌, ◌⊎◌, inl, inr, ⊎_elim, refl, sym}
use Rattle.std.proofs.Common.{ap, ◌∙◌, arith, ◌==◌}
use Rattle.std.proofs.Common.{if◌then◌else◌}
use Rattle.std.specs.Int.Bits.{bit_and, bit_or, and_zero_r, or_zero_l}
use Rattle.bx_words.specs.Lanes.{field, lane_of, mark_of, order_bit, older_bit, rest_of, filling, IsTransmitting}
use Rattle.bx_words.specs.Lanes.{one_more, LaneSet, LaneYoungest, LaneRequested, IsCounted}
use Rattle.bx_words.proofs.Bits.{field-or, field-and, field_below, kept, cleared, spared, set_bit, rest_spared}
use Rattle.bx_words.proofs.Bits.{rest_kept}
use Rattle.bx_words.proofs.Cases.{of_mailboxes, of_pairs, of_routes}

-- a mask of all ones but in lane m, where it has these
pub record Masks (m mask here : ℕ) : Type 0 where
  pub lane : lane_of mask m ≡ here
  pub others : (j : ℕ) → j < 3 → ¬ (j ≡ m) → lane_of mask j ≡ 255
  pub order : (i j : ℕ) → i < j → j < 3 → order_bit mask i j ≡ 1
  pub rest : rest_of mask ≡ 2 ^ 37 - 1

-- bits in lane m alone
pub record Bits (m c here : ℕ) : Type 0 where
  pub lane : lane_of c m ≡ here
  pub others : (j : ℕ) → j < 3 → ¬ (j ≡ m) → lane_of c j ≡ 0
  pub order : (i j : ℕ) → i < j → j < 3 → order_bit c i j ≡ 0
  pub rest : rest_of c ≡ 0

-- such bits and masks, by what they are in each mailbox, in each pair, and above
pub bits_0 : (c here : ℕ) → lane_of c 0 ≡ here → lane_of c 1 ≡ 0 → lane_of c 2 ≡ 0 → order_bit c 0 1 ≡ 0 →
    order_bit c 0 2 ≡ 0 → order_bit c 1 2 ≡ 0 → rest_of c ≡ 0 →
    Bits 0 c here
bits_0 c here l0 l1 l2 o01 o02 o12 above = record {
  lane = l0;
  others = of_mailboxes (λ j. ¬ (j ≡ 0) → lane_of c j ≡ 0) (λ n. absurd (n refl)) (λ _. l1) (λ _. l2);
  order = of_pairs (λ i j. order_bit c i j ≡ 0) o01 o02 o12;
  rest = above;
}

pub bits_1 : (c here : ℕ) → lane_of c 0 ≡ 0 → lane_of c 1 ≡ here → lane_of c 2 ≡ 0 → order_bit c 0 1 ≡ 0 →
    order_bit c 0 2 ≡ 0 → order_bit c 1 2 ≡ 0 → rest_of c ≡ 0 →
    Bits 1 c here
bits_1 c here l0 l1 l2 o01 o02 o12 above = record {
  lane = l1;
  others = of_mailboxes (λ j. ¬ (j ≡ 1) → lane_of c j ≡ 0) (λ _. l0) (λ n. absurd (n refl)) (λ _. l2);
  order = of_pairs (λ i j. order_bit c i j ≡ 0) o01 o02 o12;
  rest = above;
}

pub bits_2 : (c here : ℕ) → lane_of c 0 ≡ 0 → lane_of c 1 ≡ 0 → lane_of c 2 ≡ here → order_bit c 0 1 ≡ 0 →
    order_bit c 0 2 ≡ 0 → order_bit c 1 2 ≡ 0 → rest_of c ≡ 0 →
    Bits 2 c here
bits_2 c here l0 l1 l2 o01 o02 o12 above = record {
  lane = l2;
  others = of_mailboxes (λ j. ¬ (j ≡ 2) → lane_of c j ≡ 0) (λ _. l0) (λ _. l1) (λ n. absurd (n refl));
  order = of_pairs (λ i j. order_bit c i j ≡ 0) o01 o02 o12;
  rest = above;
}

pub mask_0 : (c here : ℕ) → lane_of c 0 ≡ here → lane_of c 1 ≡ 255 → lane_of c 2 ≡ 255 → order_bit c 0 1 ≡ 1 →
    order_bit c 0 2 ≡ 1 → order_bit c 1 2 ≡ 1 → rest_of c ≡ 2 ^ 37 - 1 →
    Masks 0 c here
mask_0 c here l0 l1 l2 o01 o02 o12 above = record {
  lane = l0;
  others = of_mailboxes (λ j. ¬ (j ≡ 0) → lane_of c j ≡ 255) (λ n. absurd (n refl)) (λ _. l1) (λ _. l2);
  order = of_pairs (λ i j. order_bit c i j ≡ 1) o01 o02 o12;
  rest = above;
}

pub mask_1 : (c here : ℕ) → lane_of c 0 ≡ 255 → lane_of c 1 ≡ here → lane_of c 2 ≡ 255 → order_bit c 0 1 ≡ 1 →
    order_bit c 0 2 ≡ 1 → order_bit c 1 2 ≡ 1 → rest_of c ≡ 2 ^ 37 - 1 →
    Masks 1 c here
mask_1 c here l0 l1 l2 o01 o02 o12 above = record {
  lane = l1;
  others = of_mailboxes (λ j. ¬ (j ≡ 1) → lane_of c j ≡ 255) (λ _. l0) (λ n. absurd (n refl)) (λ _. l2);
  order = of_pairs (λ i j. order_bit c i j ≡ 1) o01 o02 o12;
  rest = above;
}

pub mask_2 : (c here : ℕ) → lane_of c 0 ≡ 255 → lane_of c 1 ≡ 255 → lane_of c 2 ≡ here → order_bit c 0 1 ≡ 1 →
    order_bit c 0 2 ≡ 1 → order_bit c 1 2 ≡ 1 → rest_of c ≡ 2 ^ 37 - 1 →
    Masks 2 c here
mask_2 c here l0 l1 l2 o01 o02 o12 above = record {
  lane = l2;
  others = of_mailboxes (λ j. ¬ (j ≡ 2) → lane_of c j ≡ 255) (λ _. l0) (λ _. l1) (λ n. absurd (n refl));
  order = of_pairs (λ i j. order_bit c i j ≡ 1) o01 o02 o12;
  rest = above;
}

pub masked : (w m mask here x : ℕ) → w < 2 ^ 64 → Masks m mask here → bit_and (lane_of w m) here ≡ x →
    LaneSet w m x (bit_and w mask)
masked w m mask here x fits is value = record {
  here = field-and w mask (8 * m) 8 ∙ ap (λ z. bit_and (lane_of w m) z) is.lane ∙ value;
  others = λ j h n. kept w mask (8 * j) 8 (is.others j h n);
  order = λ i j l h. kept w mask (23 + i + j) 1 (is.order i j l h);
  rest = rest_kept w mask fits is.rest;
}

pub nothing_left : (w m : ℕ) → bit_and (lane_of w m) 0 ≡ 0
nothing_left w m = and_zero_r (lane_of w m)

pub joined : (w m c here x : ℕ) → Bits m c here → bit_or (lane_of w m) here ≡ x → LaneSet w m x (bit_or w c)
joined w m c here x is value = record {
  here = field-or w c (8 * m) 8 ∙ ap (λ z. bit_or (lane_of w m) z) is.lane ∙ value;
  others = λ j h n. spared w c (8 * j) 8 (is.others j h n);
  order = λ i j l h. spared w c (23 + i + j) 1 (is.order i j l h);
  rest = rest_spared w c is.rest;
}

-- the lane of a mark: the mark, and the owner
owner_below : (w m : ℕ) → lane_of w m / 32 < 8
owner_below w m = let b = field_below w (8 * m) 8 in let is : 2 ^ 8 ≡ 256 = refl in omega arith

lane_is : (w m n : ℕ) → mark_of w m ≡ n → lane_of w m ≡ n + 32 * (lane_of w m / 32)
lane_is w m n e = omega arith

-- a bit that a mark doesn't have is added to its lane
abbrev pub Adds : ℕ → ℕ → Type 0
Adds n x = (r : ℕ) → r < 8 → bit_or (n + 32 * r) x ≡ n + 32 * r + x

pub added : (w m n x c : ℕ) → mark_of w m ≡ n → Bits m c x → Adds n x → LaneSet w m (lane_of w m + x) (bit_or w c)
added w m n x c mark is adds =
    let l = lane_of w m in
    let shape = lane_is w m n mark in
    joined w m c x (l + x) is (ap (λ z. bit_or z x) shape ∙ adds (l / 32) (owner_below w m)
    ∙ ap (λ z. z + x) (sym shape))

-- scheduled, transmitting, abort asked
pub schedules : Adds 3 4
schedules = of_routes (λ r. bit_or (3 + 32 * r) 4 ≡ 3 + 32 * r + 4) refl refl refl refl refl refl refl refl

pub starts : Adds 7 8
starts = of_routes (λ r. bit_or (7 + 32 * r) 8 ≡ 7 + 32 * r + 8) refl refl refl refl refl refl refl refl

pub asks : Adds 15 16
asks = of_routes (λ r. bit_or (15 + 32 * r) 16 ≡ 15 + 32 * r + 16) refl refl refl refl refl refl refl refl

-- a failed transmission is transmitting no more
less_eight : (r : ℕ) → r < 8 → (bit_and (15 + 32 * r) 247 ≡ 7 + 32 * r) × (bit_and (31 + 32 * r) 247 ≡ 23 + 32 * r)
less_eight = of_routes (λ r. (bit_and (15 + 32 * r) 247 ≡ 7 + 32 * r) × (bit_and (31 + 32 * r) 247 ≡ 23 + 32 * r))
    (refl, refl) (refl, refl) (refl, refl) (refl, refl) (refl, refl) (refl, refl) (refl, refl) (refl, refl)

pub failed : (w m mask : ℕ) → w < 2 ^ 64 → IsTransmitting w m → Masks m mask 247 →
    LaneSet w m (lane_of w m - 8) (bit_and w mask)
failed w m mask fits mark is = masked w m mask 247 (lane_of w m - 8) fits is
    (let l = lane_of w m in let few = owner_below w m in ⊎_elim
    (λ (e : mark_of w m ≡ 15). let shape =
    lane_is w m 15 e in ap (λ z. bit_and z 247) shape ∙ (less_eight (l / 32) few).0 ∙ (omega arith))
    (λ (e : mark_of w m ≡ 31). let shape =
    lane_is w m 31 e in ap (λ z. bit_and z 247) shape ∙ (less_eight (l / 32) few).1 ∙ (omega arith)) mark)

-- the bits of a claim
abbrev pub claim_bits : ℕ → ℕ → ℕ
claim_bits m r = bit_or (r * 32 % 2 ^ 64) 1 * 2 ^ (8 * m) % 2 ^ 64

claims : (m : ℕ) → m < 3 → (r : ℕ) → r < 8 → Bits m (claim_bits m r) (filling r)
claims = of_mailboxes (λ m. (r : ℕ) → r < 8 → Bits m (claim_bits m r) (filling r))
    (of_routes (λ r. Bits 0 (claim_bits 0 r) (filling r))
    (bits_0 (claim_bits 0 0) (filling 0) refl refl refl refl refl refl refl)
    (bits_0 (claim_bits 0 1) (filling 1) refl refl refl refl refl refl refl)
    (bits_0 (claim_bits 0 2) (filling 2) refl refl refl refl refl refl refl)
    (bits_0 (claim_bits 0 3) (filling 3) refl refl refl refl refl refl refl)
    (bits_0 (claim_bits 0 4) (filling 4) refl refl refl refl refl refl refl)
    (bits_0 (claim_bits 0 5) (filling 5) refl refl refl refl refl refl refl)
    (bits_0 (claim_bits 0 6) (filling 6) refl refl refl refl refl refl refl)
    (bits_0 (claim_bits 0 7) (filling 7) refl refl refl refl refl refl refl))
    (of_routes (λ r. Bits 1 (claim_bits 1 r) (filling r))
    (bits_1 (claim_bits 1 0) (filling 0) refl refl refl refl refl refl refl)
    (bits_1 (claim_bits 1 1) (filling 1) refl refl refl refl refl refl refl)
    (bits_1 (claim_bits 1 2) (filling 2) refl refl refl refl refl refl refl)
    (bits_1 (claim_bits 1 3) (filling 3) refl refl refl refl refl refl refl)
    (bits_1 (claim_bits 1 4) (filling 4) refl refl refl refl refl refl refl)
    (bits_1 (claim_bits 1 5) (filling 5) refl refl refl refl refl refl refl)
    (bits_1 (claim_bits 1 6) (filling 6) refl refl refl refl refl refl refl)
    (bits_1 (claim_bits 1 7) (filling 7) refl refl refl refl refl refl refl))
    (of_routes (λ r. Bits 2 (claim_bits 2 r) (filling r))
    (bits_2 (claim_bits 2 0) (filling 0) refl refl refl refl refl refl refl)
    (bits_2 (claim_bits 2 1) (filling 1) refl refl refl refl refl refl refl)
    (bits_2 (claim_bits 2 2) (filling 2) refl refl refl refl refl refl refl)
    (bits_2 (claim_bits 2 3) (filling 3) refl refl refl refl refl refl refl)
    (bits_2 (claim_bits 2 4) (filling 4) refl refl refl refl refl refl refl)
    (bits_2 (claim_bits 2 5) (filling 5) refl refl refl refl refl refl refl)
    (bits_2 (claim_bits 2 6) (filling 6) refl refl refl refl refl refl refl)
    (bits_2 (claim_bits 2 7) (filling 7) refl refl refl refl refl refl refl))

pub claimed : (w m r : ℕ) → m < 3 → r < 8 → lane_of w m ≡ 0 → LaneSet w m (filling r) (bit_or w (claim_bits m r))
claimed w m r small few empty =
    joined w m (claim_bits m r) (filling r) (filling r) (claims m small r few)
    (ap (λ z. bit_or z (filling r)) empty ∙ or_zero_l (filling r))

-- bits and a mask that request mailbox m and make it the younger of both of its pairs
pub record Requests (m c mask : ℕ) : Type 0 where
  pub lane : lane_of c m ≡ 2
  pub others : (j : ℕ) → j < 3 → ¬ (j ≡ m) → lane_of c j ≡ 0
  pub lanes : (j : ℕ) → j < 3 → lane_of mask j ≡ 255
  -- a pair's bit is set, or it is cleared
  pub younger : (j : ℕ) → j < 3 → ¬ (j ≡ m) →
      ((order_bit c j m ≡ 1) × (order_bit mask j m ≡ 1) × (older_bit j m ≡ 1))
      ⊎ ((order_bit mask j m ≡ 0) × (older_bit j m ≡ 0))
  pub order : (i j : ℕ) → i < j → j < 3 → ¬ (i ≡ m) → ¬ (j ≡ m) → (order_bit c i j ≡ 0) × (order_bit mask i j ≡ 1)
  pub above : rest_of c ≡ 0
  pub rest : rest_of mask ≡ 2 ^ 37 - 1

requested_bit : (r : ℕ) → r < 8 → bit_or (filling r) 2 ≡ filling r + 2
requested_bit = of_routes (λ r. bit_or (filling r) 2 ≡ filling r + 2) refl refl refl refl refl refl refl refl

pub requested : (w m r c mask : ℕ) → m < 3 → r < 8 → bit_or w c < 2 ^ 64 → lane_of w m ≡ filling r → Requests m c mask →
    LaneYoungest w m (filling r + 2) (bit_and (bit_or w c) mask)
requested w m r c mask small few fits was is = record {
  here = kept (bit_or w c) mask (8 * m) 8 (is.lanes m small) ∙ field-or w c (8 * m) 8
      ∙ ap (λ x. bit_or x (lane_of c m)) was
      ∙ ap (λ x. bit_or (filling r) x) is.lane ∙ requested_bit r few;
  others = λ j h n. kept (bit_or w c) mask (8 * j) 8 (is.lanes j h) ∙ spared w c (8 * j) 8 (is.others j h n);
  younger = λ j h n. ⊎_elim
      (λ t. kept (bit_or w c) mask (23 + j + m) 1 t.1 ∙ set_bit w c (23 + j + m) t.0 ∙ sym t.2)
      (λ t. cleared (bit_or w c) mask (23 + j + m) 1 t.0 ∙ sym t.1) (is.younger j h n);
  order = λ i j l h ni nj. let t = is.order i j l h ni nj in
      kept (bit_or w c) mask (23 + i + j) 1 t.1 ∙ spared w c (23 + i + j) 1 t.0;
  rest = rest_kept (bit_or w c) mask fits is.rest ∙ rest_spared w c is.above;
}

pub requests_0 : Requests 0 50331650 18446744073709551615
requests_0 = record {
  lane = refl;
  others = of_mailboxes (λ j. ¬ (j ≡ 0) → lane_of 50331650 j ≡ 0) (λ n. absurd (n refl)) (λ _. refl) (λ _. refl);
  lanes = of_mailboxes (λ j. lane_of 18446744073709551615 j ≡ 255) refl refl refl;
  younger = of_mailboxes (λ j. ¬ (j ≡ 0) →
      ((order_bit 50331650 j 0 ≡ 1) × (order_bit 18446744073709551615 j 0 ≡ 1) × (older_bit j 0 ≡ 1))
      ⊎ ((order_bit 18446744073709551615 j 0 ≡ 0) × (older_bit j 0 ≡ 0))) (λ n. absurd (n refl))
      (λ _. inl (refl, refl, refl)) (λ _. inl (refl, refl, refl));
  order = of_pairs (λ i j. ¬ (i ≡ 0) → ¬ (j ≡ 0) → (order_bit 50331650 i j ≡ 0)
      × (order_bit 18446744073709551615 i j ≡ 1)) (λ n _. absurd (n refl)) (λ n _. absurd (n refl))
      (λ _ _. (refl, refl));
  above = refl;
  rest = refl;
}

pub requests_1 : Requests 1 67109376 18446744073692774399
requests_1 = record {
  lane = refl;
  others = of_mailboxes (λ j. ¬ (j ≡ 1) → lane_of 67109376 j ≡ 0) (λ _. refl) (λ n. absurd (n refl)) (λ _. refl);
  lanes = of_mailboxes (λ j. lane_of 18446744073692774399 j ≡ 255) refl refl refl;
  younger = of_mailboxes (λ j. ¬ (j ≡ 1) →
      ((order_bit 67109376 j 1 ≡ 1) × (order_bit 18446744073692774399 j 1 ≡ 1) × (older_bit j 1 ≡ 1))
      ⊎ ((order_bit 18446744073692774399 j 1 ≡ 0) × (older_bit j 1 ≡ 0))) (λ _. inr (refl, refl)) (λ n. absurd (n refl))
      (λ _. inl (refl, refl, refl));
  order = of_pairs (λ i j. ¬ (i ≡ 1) → ¬ (j ≡ 1) → (order_bit 67109376 i j ≡ 0)
      × (order_bit 18446744073692774399 i j ≡ 1)) (λ _ n. absurd (n refl)) (λ _ _. (refl, refl))
      (λ n _. absurd (n refl));
  above = refl;
  rest = refl;
}

pub requests_2 : Requests 2 131072 18446744073608888319
requests_2 = record {
  lane = refl;
  others = of_mailboxes (λ j. ¬ (j ≡ 2) → lane_of 131072 j ≡ 0) (λ _. refl) (λ _. refl) (λ n. absurd (n refl));
  lanes = of_mailboxes (λ j. lane_of 18446744073608888319 j ≡ 255) refl refl refl;
  younger = of_mailboxes (λ j. ¬ (j ≡ 2) →
      ((order_bit 131072 j 2 ≡ 1) × (order_bit 18446744073608888319 j 2 ≡ 1) × (older_bit j 2 ≡ 1))
      ⊎ ((order_bit 18446744073608888319 j 2 ≡ 0) × (older_bit j 2 ≡ 0))) (λ _. inr (refl, refl))
      (λ _. inr (refl, refl)) (λ n. absurd (n refl));
  order = of_pairs (λ i j. ¬ (i ≡ 2) → ¬ (j ≡ 2) → (order_bit 131072 i j ≡ 0)
      × (order_bit 18446744073608888319 i j ≡ 1)) (λ _ _. (refl, refl)) (λ _ n. absurd (n refl))
      (λ _ n. absurd (n refl));
  above = refl;
  rest = refl;
}

-- one request more in the count
pub counts : (w : ℕ) → rest_of w % 2 ≡ 1 → IsCounted w (w + 268435456)
counts w odd = record {
  lanes = of_mailboxes (λ j. lane_of (w + 268435456) j ≡ lane_of w j) (omega arith) (omega arith) (omega arith);
  order = of_pairs (λ i j. order_bit (w + 268435456) i j ≡ order_bit w i j) (omega arith) (omega arith) (omega arith);
  rest = let more : rest_of (w + 268435456) ≡ rest_of w + 2 = omega arith in
      more ∙ sym (ap (λ n. if n == 1 then rest_of w + 2 else rest_of w) odd);
}

pub counts_none : (w : ℕ) → (rest_of w % 2 ≡ 1 → ⊥) → IsCounted w w
counts_none w even = record {
  lanes = λ j h. refl;
  order = λ i j l h. refl;
  rest = let none : rest_of w % 2 ≡ 0 = omega arith in sym (ap (λ n. if n == 1 then rest_of w + 2 else rest_of w) none);
}

apart : (j m : ℕ) → ¬ (j ≡ m) → (j < m) ⊎ (m < j)
apart zero zero n = absurd (n refl)
apart zero (suc m) n = inl (omega arith)
apart (suc j) zero n = inr (omega arith)
apart (suc j) (suc m) n =
    ⊎_elim (λ (l : j < m). inl (omega arith)) (λ (g : m < j). inr (omega arith)) (apart j m (λ e. n (ap suc e)))

pub counted_youngest : (old mid new m x : ℕ) → LaneYoungest old m x mid → IsCounted mid new → m < 3 →
    LaneRequested old m x new
counted_youngest old mid new m x y k small = record {
  here = k.lanes m small ∙ y.here;
  others = λ j h n. k.lanes j h ∙ y.others j h n;
  younger = λ j h n. ⊎_elim
      (λ (l : j < m). k.order j m l small ∙ y.younger j h n)
      (λ (g : m < j). ap (λ b. field new b 1) (omega arith) ∙ k.order m j g h ∙ ap (λ b. field mid b 1) (omega arith)
      ∙ y.younger j h n)
      (apart j m n);
  order = λ i j l h ni nj. k.order i j l h ∙ y.order i j l h ni nj;
  rest = k.rest ∙ ap one_more y.rest;
}
