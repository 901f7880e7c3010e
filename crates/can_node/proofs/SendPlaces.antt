-- Where a bit of a sender stands in the spelling of its frame.
use Rattle.std.proofs.Common.{◌≡◌, inl, inr, ℕ, ◌+◌, ◌≤◌, ◌<◌, Bool, true, false, List, [], ◌∷◌, ◌++◌, length, reverse}
use Rattle.std.proofs.Common.{replicate, get_or, take, refl, sym, ap, subst, arith, ◌∙◌, append_assoc, length-append}
use Rattle.std.proofs.lemmas.List.{reverse-append, reverse-reverse, length-reverse}
use Rattle.can_frame.specs.Frames.{Identifier, standard, extended, FrameValue, IsFrameValue}
use Rattle.can_frame.specs.Fields.{senders_choice, fields}
use Rattle.can_frame.specs.Stuffing.{IsStuffed, unstuffed}
use Rattle.can_frame.specs.Spelling.{Spells, tail_levels}
use Rattle.can_frame.specs.Reading.{Inside}
use Rattle.can_frame.proofs.Numbers.{head_same, tail_same, append_same}
use Rattle.can_frame.proofs.Spellings.{one_spelling, slot_stands_alone, spelled_region}
use Rattle.can_frame.proofs.Stuffed.{one_more}
use Rattle.can_frame.proofs.OneStuffing.{IsStuffed-older, grows}
use Rattle.can_frame.proofs.FieldTexts.{length-is}
use Rattle.can_frame.proofs.Regions.{compare, fields_some}
use Rattle.can_node.specs.Sends.{IsSend, IsSendBit, IsArbitration}
use Rattle.can_frame.specs.Sending.{IsSpelling, level_at, rtr_place}
use Rattle.can_frame.specs.declared.spelling.Spelling.{Spelling}

-- Of two texts that differ in the ACK slot alone, behind this head: a level of each in one place.
pub data Stands (a b : List Bool) (x y : Bool) (head : List Bool) : Type 0 where
  before_slot : a ≡ b → x ≡ y → (more : List Bool) → head ≡ a ++ x ∷ more → Stands a b x y head
  in_slot : length a ≡ length head → x ≡ true → y ≡ false → Stands a b x y head
  behind_slot : x ≡ y → length head < length a → Stands a b x y head

one_longer : (a b : List Bool) (v w x y : Bool) (h : List Bool) → v ≡ w → Stands a b x y h →
    Stands (v ∷ a) (w ∷ b) x y (v ∷ h)
one_longer a b v w x y h e (before_slot same level more is) =
    before_slot (ap (λ z. z ∷ a) e ∙ ap (λ t. w ∷ t) same) level more (ap (λ t. v ∷ t) is)
one_longer a b v w x y h e (in_slot long dx dy) = in_slot (omega (arith, long)) dx dy
one_longer a b v w x y h e (behind_slot level long) = behind_slot level (omega (arith, long))

pub stands : (a b la lb head r : List Bool) (x y : Bool) → a ++ x ∷ la ≡ head ++ true ∷ r → b ++ y ∷ lb ≡ head
    ++ false ∷ r → length a ≡ length b → Stands a b x y head
stands [] [] la lb [] r x y e f n = in_slot refl (head_same x true la r e) (head_same y false lb r f)
stands [] [] la lb (h ∷ head) r x y e f n =
    let hx = head_same x h la (head ++ true ∷ r) e in
    before_slot refl (hx ∙ sym (head_same y h lb (head ++ false ∷ r) f)) head (ap (λ z. z ∷ head) (sym hx))
stands [] (w ∷ b) la lb head r x y e f n = absurd (omega (arith, n))
stands (v ∷ a) [] la lb head r x y e f n = absurd (omega (arith, n))
stands (v ∷ a) (w ∷ b) la lb [] r x y e f n =
    let same : a ++ x ∷ la ≡ b ++ y ∷ lb =
    tail_same v true (a ++ x ∷ la) r e ∙ sym (tail_same w false (b ++ y ∷ lb) r f) in
    let parts = append_same a (x ∷ la) b (y ∷ lb) (omega (arith, n)) same in
    behind_slot (head_same x y la lb parts.1) (omega arith)
stands (v ∷ a) (w ∷ b) la lb (h ∷ head) r x y e f n =
    let hv = head_same v h (a ++ x ∷ la) (head ++ true ∷ r) e in
    let hw = head_same w h (b ++ y ∷ lb) (head ++ false ∷ r) f in
    subst (λ z. Stands (v ∷ a) (w ∷ b) x y (z ∷ head)) hv
    (one_longer a b v w x y head (hv ∙ sym hw)
    (stands a b la lb head r x y (tail_same v h (a ++ x ∷ la) (head ++ true ∷ r) e)
    (tail_same w h (b ++ y ∷ lb) (head ++ false ∷ r) f) (omega (arith, n))))

pub level_here : (a l : List Bool) (x d : Bool) → get_or (a ++ x ∷ l) (length a) d ≡ x
level_here [] l x d = refl
level_here (y ∷ a) l x d = level_here a l x d

pub front_here : (a l : List Bool) → take (length a) (a ++ l) ≡ a
front_here [] l = refl
front_here (y ∷ a) l = ap (λ t. y ∷ t) (front_here a l)

-- a bit of a sender that holds the spelling of its frame
pub record Here (spelling : Spelling) (frame : FrameValue) (given before seen : List Bool) (driven expected : Bool)
    (later later_seen : List Bool) (place : ℕ) : Type 0 where
  pub head : List Bool
  pub stands_at : Stands (given ++ before) (given ++ seen) driven expected head
  pub text_is : spelling.levels.items ≡ (given ++ before) ++ driven ∷ later
  pub level_is : level_at spelling place ≡ driven
  pub length_is : length spelling.levels.items ≡ length head + 9
  pub place_is : place ≡ length (given ++ before)
  pub rest_is : length spelling.levels.items ≡ place + 1 + length later
  pub as_long : length later_seen ≡ length later

pub here : (spelling : Spelling) (frame : FrameValue) (given before seen : List Bool) (driven expected : Bool)
    (place : ℕ) → IsSpelling frame spelling →
    (h : IsSendBit frame given before seen driven expected) → place ≡ length given + length before →
    Here spelling frame given before seen driven expected h.later h.later_seen place
here spelling frame given before seen driven expected place k h is =
    let items = spelling.levels.items in
    let alone = slot_stands_alone frame senders_choice true false items k.spells in
    let head = alone.0 in
    let drives : items ≡ (given ++ before) ++ driven ∷ h.later =
    one_spelling frame senders_choice true items _ k.spells h.send.drives
    ∙ sym (append_assoc given before (driven ∷ h.later)) in
    let samples : (given ++ seen) ++ expected ∷ h.later_seen ≡ head ++ false ∷ replicate 8 true =
    append_assoc given seen (expected ∷ h.later_seen)
    ∙ one_spelling frame senders_choice false _ _ h.send.samples alone.2 in
    let at : place ≡ length (given ++ before) = is ∙ sym (length-append given before) in
    let long : length items ≡ length head + 9 = ap length alone.1 ∙ length-append head (true ∷ replicate 8 true) in
    record {
      head = head;
      stands_at = stands (given ++ before) (given ++ seen) h.later h.later_seen head (replicate 8 true) driven expected
          (sym drives ∙ alone.1) samples
          (omega (arith, length-append given before, length-append given seen, h.same_place));
      text_is = drives;
      level_is = ap (λ t. get_or t place true) drives
          ∙ ap (λ n. get_or ((given ++ before) ++ driven ∷ h.later) n true) at
          ∙ level_here (given ++ before) h.later driven true;
      length_is = long;
      place_is = at;
      rest_is = omega (arith, ap length drives, length-append (given ++ before) (driven ∷ h.later), at);
      as_long = omega (
        arith,
        ap length drives,
        length-append (given ++ before) (driven ∷ h.later),
        ap length samples,
        length-append (given ++ seen) (expected ∷ h.later_seen),
        length-append head (false ∷ replicate 8 true),
        long,
        length-append given before,
        length-append given seen,
        h.same_place,
      );
    }

-- the next bit of the same sender
pub record Next (frame : FrameValue) (given before seen : List Bool) : Type 0 where
  pub driven : Bool
  pub expected : Bool
  pub bit : IsSendBit frame given before seen driven expected

next_of : (frame : FrameValue) (given before seen : List Bool) (driven expected : Bool) (later later_seen : List Bool) →
    length before ≡ length seen → length later_seen ≡ length later → 0 < length later →
    IsSend frame given (before ++ driven ∷ later) (seen ++ expected ∷ later_seen) →
    Next frame given (before ++ driven ∷ []) (seen ++ expected ∷ [])
next_of frame given before seen driven expected [] later_seen same long some h = absurd (omega (arith, some))
next_of frame given before seen driven expected (d ∷ later) [] same long some h = absurd (omega (arith, long))
next_of frame given before seen driven expected (d ∷ later) (e ∷ later_seen) same long some h = record {
  driven = d;
  expected = e;
  bit = record {
    later = later;
    later_seen = later_seen;
    send = record {
      drives = subst (λ t. Spells frame senders_choice true (given ++ t))
          (sym (append_assoc before (driven ∷ []) (d ∷ later))) h.drives;
      samples = subst (λ t. Spells frame senders_choice false (given ++ t))
          (sym (append_assoc seen (expected ∷ []) (e ∷ later_seen))) h.samples;
    };
    same_place = omega (arith, length-append before (driven ∷ []), length-append seen (expected ∷ []), same);
  };
}

pub next_bit : (frame : FrameValue) (given before seen : List Bool) (driven expected : Bool)
    (h : IsSendBit frame given before seen driven expected) → length h.later_seen ≡ length h.later →
    0 < length h.later →
    Next frame given (before ++ driven ∷ []) (seen ++ expected ∷ [])
next_bit frame given before seen driven expected h long some =
    next_of frame given before seen driven expected h.later h.later_seen h.same_place long some h.send

empty : (later : List Bool) → length later ≡ 0 → later ≡ []
empty [] e = refl
empty (x ∷ later) e = absurd (omega (arith, e))

-- the last bit of the sender
pub last_bit : (frame : FrameValue) (given before seen : List Bool) (driven expected : Bool)
    (h : IsSendBit frame given before seen driven expected) → length h.later_seen ≡ length h.later →
    length h.later ≡ 0 →
    IsSend frame given (before ++ driven ∷ []) (seen ++ expected ∷ [])
last_bit frame given before seen driven expected h long none_left = record {
  drives = subst (λ l. Spells frame senders_choice true (given ++ (before ++ driven ∷ l)))
      (empty h.later none_left) h.send.drives;
  samples = subst (λ l. Spells frame senders_choice false (given ++ (seen ++ expected ∷ l)))
      (empty h.later_seen (long ∙ none_left)) h.send.samples;
}

pub rtr_few : (id : Identifier) → rtr_place id ≤ 32
rtr_few (standard n) = omega arith
rtr_few (extended n) = omega arith

first_dominant : (u more rest : List Bool) → u ++ more ≡ false ∷ rest → get_or (u ++ false ∷ []) 0 false ≡ false
first_dominant [] more rest e = refl
first_dominant (x ∷ u) more rest e = head_same x false (u ++ more) rest e

-- a text behind which the arbitration field goes on is a part of the stuffed region
pub arbitration_part : (frame : FrameValue) (a later : List Bool) (x : Bool) → IsFrameValue frame →
    (k : Spells frame senders_choice true (a ++ x ∷ later)) → IsArbitration frame a → (m : List Bool)
    × (k.stuffed ≡ a ++ m)
arbitration_part frame a later x is_frame k place =
    let t = fields frame senders_choice ++ k.check in
    let r = reverse a in
    let region = spelled_region frame senders_choice true _ is_frame (omega arith) k in
    elim (compare a (x ∷ later) k.stuffed (tail_levels true) k.whole) [
      | inl part ↦ part
      | inr part ↦
          let split : r ≡ reverse part.0 ++ reverse k.stuffed = ap reverse part.1 ∙ reverse-append k.stuffed part.0 in
          let g = grows (reverse part.0) (reverse k.stuffed) in
          let all : unstuffed r ≡ g.by ++ reverse t =
          ap unstuffed split ∙ g.is ∙ ap (λ w. g.by ++ w) region.stuffs.rest in
          let long = length-is frame senders_choice k.check is_frame (omega arith) in
          absurd (omega (
            arith,
            ap length all,
            length-append g.by (reverse t),
            length-reverse t,
            length-append (fields frame senders_choice) k.check,
            region.fifteen,
            place.up_to_rtr,
            rtr_few frame.id,
            long,
            fields_some t,
          ))
    ]

-- such a text, with a dominant next level
pub lost_inside : (frame : FrameValue) (a later : List Bool) (x : Bool) → IsFrameValue frame →
    Spells frame senders_choice true (a ++ x ∷ later) → IsArbitration frame a →
    Inside (a ++ false ∷ []) (reverse (false ∷ unstuffed (reverse a)))
lost_inside frame a later x is_frame k place =
    let t = fields frame senders_choice ++ k.check in
    let r = reverse a in
    let region = spelled_region frame senders_choice true _ is_frame (omega arith) k in
    let few : length (unstuffed r) ≤ 32 = omega (arith, place.up_to_rtr, rtr_few frame.id) in
    let part = arbitration_part frame a later x is_frame k place in
    let split : reverse k.stuffed ≡ reverse part.0 ++ r = ap reverse part.1 ∙ reverse-append a part.0 in
    let stuffed : IsStuffed r = IsStuffed-older (reverse part.0) r (subst IsStuffed split region.stuffs.opposite) in
    let step = one_more r false place.no_stuff_bit stuffed in
    let back : reverse (a ++ false ∷ []) ≡ false ∷ r = reverse-append a (false ∷ []) in
    let g = grows (reverse part.0) r in
    let all : reverse t ≡ g.by ++ unstuffed r = sym region.stuffs.rest ∙ ap unstuffed split ∙ g.is in
    let text : reverse (unstuffed r) ++ reverse g.by ≡ t =
    sym (reverse-append g.by (unstuffed r)) ∙ ap reverse (sym all) ∙ reverse-reverse t in
    let u : reverse (false ∷ unstuffed r) ≡ reverse (unstuffed r) ++ false ∷ [] =
    reverse-append (false ∷ []) (unstuffed r) in
    record {
      stuffed = subst IsStuffed (sym back) step.0;
      stands = ap unstuffed back ∙ step.1 ∙ sym (reverse-reverse (false ∷ unstuffed r));
      start = ap (λ w. get_or w 0 false) u ∙ first_dominant (reverse (unstuffed r)) (reverse g.by) _ text;
      unfinished =
          inl (omega (arith, length-reverse (false ∷ unstuffed r), few, fields_some (reverse (false ∷ unstuffed r))));
    }

-- the arbitration field ends before the ACK slot
pub arbitration_short : (frame : FrameValue) (a later : List Bool) (x : Bool) → IsFrameValue frame →
    Spells frame senders_choice true (a ++ x ∷ later) → IsArbitration frame a → length a + 10 ≤ length (a ++ x ∷ later)
arbitration_short frame a later x is_frame k place =
    let part = arbitration_part frame a later x is_frame k place in
    omega (
      arith,
      ap length part.1,
      length-append a part.0,
      ap length k.whole,
      length-append k.stuffed (tail_levels true),
    )

-- what stands in the ACK slot, and elsewhere
pub slot_levels : {a b : List Bool} {x y : Bool} {head : List Bool} → Stands a b x y head → length a ≡ length head →
    (x ≡ true) × (y ≡ false)
slot_levels {a = a} {x = x} (before_slot same level more is) here =
    absurd (omega (arith, here, ap length is, length-append a (x ∷ more)))
slot_levels (in_slot long dx dy) here = (dx, dy)
slot_levels (behind_slot level long) here = absurd (omega (arith, here, long))

pub same_levels : {a b : List Bool} {x y : Bool} {head : List Bool} → Stands a b x y head →
    (length a ≡ length head → ⊥) → x ≡ y
same_levels (before_slot same level more is) elsewhere = level
same_levels (in_slot long dx dy) elsewhere = absurd (elsewhere long)
same_levels (behind_slot level long) elsewhere = level

pub same_text : {a b : List Bool} {x y : Bool} {head : List Bool} → Stands a b x y head → length a < length head → a ≡ b
same_text (before_slot same level more is) early = same
same_text (in_slot long dx dy) early = absurd (omega (arith, long, early))
same_text (behind_slot level long) early = absurd (omega (arith, long, early))
