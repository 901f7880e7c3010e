-- The levels behind the stuffed region.
use Rattle.std.proofs.Common.{◌≡◌, ◌⊎◌, inl, inr, ℕ, zero, suc, ◌+◌, ◌-◌, ◌≤◌, Bool, true, false, List, [], ◌∷◌, ◌++◌}
use Rattle.std.proofs.Common.{length, take, drop, get_or, refl, sym, ap, subst, ◌∙◌, arith, append_assoc, length-append}
use Rattle.std.proofs.Common.{take-append-drop}
use Rattle.std.proofs.lemmas.List.{append-nil, append_cancel_left, take_more, length-take-le, get_or_at}
use Rattle.can_frame.specs.Frames.{FrameValue}
use Rattle.can_frame.specs.Fields.{Unchecked, fields}
use Rattle.can_frame.specs.Crc.{IsCrc}
use Rattle.can_frame.specs.Fronts.{IsRegion, front_tail, IsFront, BeginsRough, BeginsRegion}
use Rattle.can_frame.specs.Answers.{IsBody, IsBehindBody, IsAckFault, IsCrcFault}
use Rattle.can_frame.specs.Reading.{InTail}
use Rattle.can_frame.proofs.Regions.{same_region, one_region, region_parts, no_length}
use Rattle.can_frame.proofs.FrontLaws.{parts, is-front}

one_longer : (text region t : List Bool) (level : Bool) → text ≡ region ++ t → text ++ level ∷ [] ≡ region
    ++ (t ++ level ∷ [])
one_longer text region t level e = ap (λ s. s ++ level ∷ []) e ∙ append_assoc region t (level ∷ [])

take_tail : (ack : Bool) (seen : ℕ) (level : Bool) → seen ≤ 8 → get_or (front_tail ack) seen false ≡ level →
    take seen (front_tail ack) ++ level ∷ [] ≡ take (seen + 1) (front_tail ack)
take_tail ack seen level h e = ap (λ b. take seen (front_tail ack) ++ b ∷ []) (sym e)
    ∙ sym (take_more (front_tail ack) seen false (omega (arith, h)))

fixed : (ack : Bool) (seen : ℕ) → seen ≤ 8 → (seen ≡ 1 → ⊥) → get_or (front_tail ack) seen false ≡ true
fixed ack zero h k = refl
fixed ack (suc zero) h k = absurd (k refl)
fixed ack (suc (suc zero)) h k = refl
fixed ack (suc (suc (suc zero))) h k = refl
fixed ack (suc (suc (suc (suc zero)))) h k = refl
fixed ack (suc (suc (suc (suc (suc zero))))) h k = refl
fixed ack (suc (suc (suc (suc (suc (suc zero)))))) h k = refl
fixed ack (suc (suc (suc (suc (suc (suc (suc zero))))))) h k = refl
fixed ack (suc (suc (suc (suc (suc (suc (suc (suc zero)))))))) h k = refl
fixed ack (suc (suc (suc (suc (suc (suc (suc (suc (suc seen))))))))) h k = absurd (omega (arith, h))

-- one more level of fixed form
pub next_tail : (f : FrameValue) (right : Bool) (seen : ℕ) (text : List Bool) (level : Bool) →
    InTail f right seen text → seen ≤ 7 → (seen ≡ 1 → ⊥) → level ≡ true →
    (right ≡ false → seen ≤ 1) → InTail f right (seen + 1) (text ++ level ∷ [])
next_tail f right seen text level h few other e wrong = record {
  x = h.x;
  check = h.check;
  region = h.region;
  ack = h.ack;
  is_region = h.is_region;
  is_right = h.is_right;
  is_wrong = h.is_wrong;
  few = omega (arith, few);
  whole = one_longer text h.region (take seen (front_tail h.ack)) level h.whole
      ∙ ap (λ t. h.region ++ t) (take_tail h.ack seen level (omega (arith, few))
      (fixed h.ack seen (omega (arith, few)) other ∙ sym e));
  good = λ r k. h.good r (at_two seen k other);
  bad = λ r. omega (arith, wrong r);
}
  where
    at_two : (n : ℕ) → 2 ≤ n + 1 → (n ≡ 1 → ⊥) → 2 ≤ n
    at_two zero k other = absurd (omega (arith, k))
    at_two (suc zero) k other = absurd (other refl)
    at_two (suc (suc n)) k other = omega arith

-- the ACK slot
pub next_slot : (f : FrameValue) (right : Bool) (seen : ℕ) (text : List Bool) (level : Bool) →
    InTail f right seen text → seen ≡ 1 → (right ≡ true → level ≡ false) →
    InTail f right (seen + 1) (text ++ level ∷ [])
next_slot f right seen text level h e dominant = record {
  x = h.x;
  check = h.check;
  region = h.region;
  ack = level;
  is_region = h.is_region;
  is_right = h.is_right;
  is_wrong = h.is_wrong;
  few = omega (arith, e);
  whole = one_longer text h.region (take seen (front_tail h.ack)) level h.whole
      ∙ ap (λ k. h.region ++ (take k (front_tail h.ack) ++ level ∷ [])) e
      ∙ ap (λ k. h.region ++ take (k + 1) (front_tail level)) (sym e);
  good = λ r k. dominant r;
  bad = λ r. omega (arith, e);
}

length-tail : (ack : Bool) (seen : ℕ) → seen ≤ 8 → length (take seen (front_tail ack)) ≡ seen
length-tail ack seen h = length-take-le seen (front_tail ack) (omega (arith, h))

pub begins_rough : (f : FrameValue) (right : Bool) (seen : ℕ) (text : List Bool) → InTail f right seen text →
    BeginsRough text
begins_rough f right seen text h = record {
  rest = drop seen (front_tail h.ack);
  frame = f;
  is_rough = record {
    x = h.x;
    check = h.check;
    ack = h.ack;
    region = h.region;
    is_region = h.is_region;
    whole = ap (λ t. t ++ drop seen (front_tail h.ack)) h.whole
        ∙ append_assoc h.region (take seen (front_tail h.ack)) (drop seen (front_tail h.ack))
        ∙ ap (λ t. h.region ++ t) (take-append-drop seen (front_tail h.ack));
  };
}

-- it is no part of a region
pub no_part : (f : FrameValue) (right : Bool) (seen : ℕ) (text : List Bool) → InTail f right seen text →
    BeginsRegion text → ⊥
no_part f right seen text h b =
    let t = take seen (front_tail h.ack) in
    let e : text ++ b.more ≡ h.region ++ (t ++ b.more) =
    ap (λ s. s ++ b.more) h.whole ∙ append_assoc h.region t b.more in
    let none = one_region f b.frame h.x b.x h.check b.check h.region (t ++ b.more) h.is_region
    (subst (IsRegion b.frame b.x b.check) e b.is_region) in
    b.not_whole (no_length b.more (omega (arith, ap length none, length-append t b.more)))

-- a wrong level of fixed form
pub no_form : (f : FrameValue) (right : Bool) (seen : ℕ) (text : List Bool) (level : Bool) → InTail f right seen text →
    (seen ≡ 1 → ⊥) → level ≡ false →
    BeginsRough (text ++ level ∷ []) → ⊥
no_form f right seen text level h other e b =
    let t = take seen (front_tail h.ack) in
    let r = b.is_rough in
    let long : (text ++ level ∷ []) ++ b.rest ≡ h.region ++ (t ++ level ∷ b.rest) =
    ap (λ s. s ++ b.rest) (one_longer text h.region t level h.whole) ∙ append_assoc h.region (t ++ level ∷ []) b.rest
    ∙ ap (λ s. h.region ++ s) (append_assoc t (level ∷ []) b.rest) in
    let whole : h.region ++ (t ++ level ∷ b.rest) ≡ r.region ++ front_tail r.ack = sym long ∙ r.whole in
    let same = same_region f b.frame h.x r.x h.check r.check h.region r.region (t ++ level ∷ b.rest)
    (front_tail r.ack) h.is_region r.is_region whole in
    let tails : t ++ level ∷ b.rest ≡ front_tail r.ack =
    append_cancel_left r.region (t ++ level ∷ b.rest) (front_tail r.ack)
    (ap (λ s. s ++ (t ++ level ∷ b.rest)) (sym same) ∙ whole) in
    let here : get_or (t ++ level ∷ b.rest) seen false ≡ level =
    get_or_at t level b.rest false seen (length-tail h.ack seen h.few) in
    let is : true ≡ false = sym (fixed r.ack seen h.few other) ∙ ap (λ s. get_or s seen false) (sym tails) ∙ here ∙ e in
    cc

-- no front, and no fault of the acknowledgement, begins the text
pub no_front_before : (f g : FrameValue) (right : Bool) (seen : ℕ) (text w more : List Bool) →
    InTail f right seen text → text ≡ w ++ more → IsFront g w → ⊥
no_front_before f g right seen text w more h e k =
    let p = parts g w k in
    let t = take seen (front_tail h.ack) in
    let tail = front_tail false ++ more in
    let whole : h.region ++ t ≡ p.region ++ tail =
    sym h.whole ∙ e ∙ ap (λ s. s ++ more) p.whole ∙ append_assoc p.region (front_tail false) more in
    let same = same_region f g h.x p.x h.check p.check h.region p.region t tail h.is_region p.is_region whole in
    let tails : t ≡ tail = append_cancel_left p.region t tail (ap (λ s. s ++ t) (sym same) ∙ whole) in
    omega (arith, ap length tails, length-tail h.ack seen h.few, h.few)

pub no_front : (f g : FrameValue) (right : Bool) (seen : ℕ) (text : List Bool) → InTail f right seen text →
    IsFront g text → ⊥
no_front f g right seen text h k = no_front_before f g right seen text text [] h (sym (append-nil text)) k

-- the fields and the fifteen levels of a region give the same test
pub same_crc : (f g : FrameValue) (x y : Unchecked) (c d v w : List Bool) → IsRegion f x c v → IsRegion g y d w →
    v ≡ w → IsCrc (fields g y) d → IsCrc (fields f x) c
same_crc f g x y c d v w h k e crc =
    let both = region_parts f g x y c d w (subst (IsRegion f x c) e h) k in
    subst (λ t. IsCrc t c) (sym both.0) (subst (IsCrc (fields g y)) (sym both.1) crc)

-- the tails of two texts that are the same
pub tails_same : (f g : FrameValue) (x y : Unchecked) (c d v w t s : List Bool) → IsRegion f x c v → IsRegion g y d w →
    v ++ t ≡ w ++ s → (v ≡ w) × (t ≡ s)
tails_same f g x y c d v w t s h k e =
    let same = same_region f g x y c d v w t s h k e in
    (same, append_cancel_left w t s (ap (λ z. z ++ t) (sym same) ∙ e))

pub either : (b : Bool) → (b ≡ true) ⊎ (b ≡ false)
either true = inl refl
either false = inr refl

second : (ack : Bool) (seen : ℕ) → 2 ≤ seen → get_or (take seen (front_tail ack)) 1 false ≡ ack
second ack zero h = absurd (omega (arith, h))
second ack (suc zero) h = absurd (omega (arith, h))
second ack (suc (suc seen)) h = refl

pub no_ack_before : (f : FrameValue) (right : Bool) (seen : ℕ) (text w more : List Bool) → InTail f right seen text →
    text ≡ w ++ more → IsAckFault w → ⊥
no_ack_before f right seen text w more h e k =
    let t = take seen (front_tail h.ack) in
    let b = k.body in
    let whole : h.region ++ t ≡ k.region ++ (true ∷ true ∷ more) =
    sym h.whole ∙ e ∙ ap (λ s. s ++ more) k.whole ∙ append_assoc k.region (true ∷ true ∷ []) more in
    let both = tails_same f k.frame h.x b.x h.check b.check h.region k.region t
    (true ∷ true ∷ more) h.is_region b.is_region whole in
    let two : 2 ≤ seen = omega (arith, length-tail h.ack seen h.few, ap length both.1) in
    let crc =
    same_crc f k.frame h.x b.x h.check b.check h.region k.region h.is_region b.is_region both.0 (b.is_right refl) in
    elim (either right) [
      | inl r ↦
          let is : true ≡ false = sym (ap (λ s. get_or s 1 false) both.1) ∙ second h.ack seen two ∙ h.good r two in
          cc
      | inr r ↦ h.is_wrong r crc
    ]

no_ack : (f : FrameValue) (right : Bool) (seen : ℕ) (text : List Bool) → InTail f right seen text → IsAckFault text → ⊥
no_ack f right seen text h k = no_ack_before f right seen text text [] h (sym (append-nil text)) k

pub no_crc_before : (f : FrameValue) (right : Bool) (seen : ℕ) (text w more : List Bool) → InTail f right seen text →
    text ≡ w ++ more → IsCrcFault w → ⊥
no_crc_before f right seen text w more h e k =
    let t = take seen (front_tail h.ack) in
    let b = k.body in
    let whole : h.region ++ t ≡ k.region ++ (true ∷ k.ack ∷ true ∷ more) =
    sym h.whole ∙ e ∙ ap (λ s. s ++ more) k.whole ∙ append_assoc k.region (true ∷ k.ack ∷ true ∷ []) more in
    let both = tails_same f k.frame h.x b.x h.check b.check h.region k.region t
    (true ∷ k.ack ∷ true ∷ more) h.is_region b.is_region whole in
    let three : 3 ≤ seen = omega (arith, length-tail h.ack seen h.few, ap length both.1) in
    elim (either right) [
      | inl r ↦ b.is_wrong refl (same_crc k.frame f b.x h.x b.check h.check k.region h.region b.is_region h.is_region
          (sym both.0) (h.is_right r))
      | inr r ↦ omega (arith, h.bad r, three)
    ]

no_crc : (f : FrameValue) (right : Bool) (seen : ℕ) (text : List Bool) → InTail f right seen text → IsCrcFault text → ⊥
no_crc f right seen text h k = no_crc_before f right seen text text [] h (sym (append-nil text)) k

cons-tail : (ack : Bool) (seen : ℕ) → 1 ≤ seen → take seen (front_tail ack) ≡ true
    ∷ take (seen - 1) (drop 1 (front_tail ack))
cons-tail ack zero h = absurd (omega (arith, h))
cons-tail ack (suc seen) h = let e : seen ≡ suc seen - 1 = omega arith in
    ap (λ k. true ∷ take k (drop 1 (front_tail ack))) e

pub behind : (f : FrameValue) (right : Bool) (seen : ℕ) (text : List Bool) → InTail f right seen text → 1 ≤ seen →
    IsBehindBody text
behind f right seen text h k = record {
  frame = f;
  x = h.x;
  check = h.check;
  region = h.region;
  first = true;
  others = take (seen - 1) (drop 1 (front_tail h.ack));
  is_region = h.is_region;
  whole = h.whole ∙ ap (λ t. h.region ++ t) (cons-tail h.ack seen k);
  begins = begins_rough f right seen text h;
  no_front = λ g. no_front f g right seen text h;
  no_ack_fault = no_ack f right seen text h;
  no_crc_fault = no_crc f right seen text h;
}

right_or : (b : Bool) → (b ≡ false → ⊥) → b ≡ true
right_or true h = refl
right_or false h = absurd (h refl)

pub taken : (f : FrameValue) (right : Bool) (seen : ℕ) (text : List Bool) (level : Bool) → InTail f right seen text →
    seen ≡ 8 → level ≡ true → IsFront f (text ++ level ∷ [])
taken f right seen text level h e l =
    let is : right ≡ true = right_or right (λ wrong. omega (arith, h.bad wrong, e)) in
    let ack : h.ack ≡ false = h.good is (omega (arith, e)) in
    is-front f h.x h.check h.region (text ++ level ∷ []) h.is_region (h.is_right is)
    (one_longer text h.region (take seen (front_tail h.ack)) level h.whole
    ∙ ap (λ t. h.region ++ t) (take_tail h.ack seen level h.few (fixed h.ack seen h.few (λ one. omega (arith, one, e))
    ∙ sym l))
    ∙ ap (λ k. h.region ++ take (k + 1) (front_tail h.ack)) e ∙ ap (λ a. h.region ++ front_tail a) ack)

body-of : (f : FrameValue) (right b : Bool) (seen : ℕ) (text : List Bool) (h : InTail f right seen text) → right ≡ b →
    IsBody f b h.region
body-of f right b seen text h e = record {
  x = h.x;
  check = h.check;
  is_region = h.is_region;
  is_right = λ r. h.is_right (e ∙ r);
  is_wrong = λ r. h.is_wrong (e ∙ r);
}

pub ack_fault : (f : FrameValue) (right : Bool) (seen : ℕ) (text : List Bool) (level : Bool) →
    InTail f right seen text → seen ≡ 1 → right ≡ true → level ≡ true → IsAckFault (text ++ level ∷ [])
ack_fault f right seen text level h e r l = record {
  frame = f;
  region = h.region;
  body = body-of f right true seen text h r;
  whole = one_longer text h.region (take seen (front_tail h.ack)) level h.whole
      ∙ ap (λ k. h.region ++ (take k (front_tail h.ack) ++ level ∷ [])) e
      ∙ ap (λ b. h.region ++ true ∷ b ∷ []) l;
}

pub crc_fault : (f : FrameValue) (right : Bool) (seen : ℕ) (text : List Bool) (level : Bool) →
    InTail f right seen text → seen ≡ 2 → right ≡ false → level ≡ true → IsCrcFault (text ++ level ∷ [])
crc_fault f right seen text level h e r l = record {
  frame = f;
  region = h.region;
  body = body-of f right false seen text h r;
  ack = h.ack;
  whole = one_longer text h.region (take seen (front_tail h.ack)) level h.whole
      ∙ ap (λ k. h.region ++ (take k (front_tail h.ack) ++ level ∷ [])) e
      ∙ ap (λ b. h.region ++ true ∷ h.ack ∷ b ∷ []) l;
}
