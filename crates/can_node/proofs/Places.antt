-- Where the text of a frame that is read ends, and what the receiver drives there.
use Rattle.std.proofs.Common.{◌≡◌, inl, inr, ℕ, zero, suc, ◌+◌, ◌≤◌, Bool, true, false, List, [], ◌∷◌, ◌++◌, length}
use Rattle.std.proofs.Common.{take, refl, sym, ap, subst, ◌∙◌, arith, append_assoc, length-append}
use Rattle.std.proofs.lemmas.List.{append-nil, length-take-le}
use Rattle.can_frame.specs.Frames.{FrameValue}
use Rattle.can_frame.specs.Fronts.{IsRegion, front_tail, BeginsRegion, IsFront}
use Rattle.can_frame.specs.Answers.{IsBody, IsBehindBody, FaultAnswers}
use Rattle.can_frame.specs.Reading.{InTail}
use Rattle.can_frame.specs.declared.step.FaultKind.{FaultKind}
use Rattle.can_frame.specs.declared.step.FaultKind.TheVariants.{Stuff, Form, Ack, Crc}
use Rattle.can_frame.proofs.Numbers.{append_same}
use Rattle.can_frame.proofs.Regions.{one_region, same_region, no_length}
use Rattle.can_frame.proofs.FrontLaws.{parts}
use Rattle.can_frame.proofs.Tails.{next_tail, next_slot, begins_rough, no_part, no_form, no_ack_before, no_crc_before}
use Rattle.can_frame.proofs.Tails.{same_crc, tails_same, taken, ack_fault, crc_fault}
use Rattle.can_node.specs.Pairs.{Pair, listening, dominating}
use Rattle.can_node.specs.Takes.{IsBeforeSlot, Reads, acknowledged}
use Rattle.can_node.specs.Takes.Reads.{no_slot, with_slot}
use Rattle.can_confinement.specs.declared.confinement.ErrorEvent.{ErrorEvent}
use Rattle.can_node.specs.declared.state.Stage.{Stage}
use Rattle.can_node.specs.declared.state.Stage.TheVariants.{Region, AfterRegion, Slot, AfterSlot}
use Rattle.can_node.specs.Machine.{IsAt, is_own_slot}
use Rattle.can_node.proofs.Moves.{listening_more}
use Rattle.can_node.proofs.PassiveMoves.{split_last}

-- two places behind regions that one text and its beginning end at
pub same_place : (f g : FrameValue) (a b : Bool) (m n : ℕ) (text more long : List Bool) → long ≡ text ++ more →
    InTail f a m text → InTail g b n long → n ≡ m + length more
same_place f g a b m n text more long is h k =
    let t = take m (front_tail h.ack) in
    let s = take n (front_tail k.ack) in
    let e : h.region ++ (t ++ more) ≡ k.region ++ s =
    sym (append_assoc h.region t more) ∙ ap (λ w. w ++ more) (sym h.whole) ∙ sym is ∙ k.whole in
    let both = tails_same f g h.x k.x h.check k.check h.region k.region (t ++ more) s h.is_region k.is_region e in
    omega (
      arith,
      ap length both.1,
      length-append t more,
      length-take-le m (front_tail h.ack) (omega (arith, h.few)),
      length-take-le n (front_tail k.ack) (omega (arith, k.few)),
    )

-- the CRC of a text is not both right and wrong
pub one_right : (f g : FrameValue) (m n : ℕ) (text : List Bool) → InTail f true m text → InTail g false n text → ⊥
one_right f g m n text h k =
    let t = take m (front_tail h.ack) in
    let s = take n (front_tail k.ack) in
    let same =
    same_region f g h.x k.x h.check k.check h.region k.region t s h.is_region k.is_region (sym h.whole ∙ k.whole) in
    k.is_wrong refl (same_crc g f k.x h.x k.check h.check k.region h.region k.is_region h.is_region (sym same)
    (h.is_right refl))

pub slot_tail : (text : List Bool) (h : IsBeforeSlot text) → InTail h.frame true 1 text
slot_tail text h = record {
  x = h.body.x;
  check = h.body.check;
  region = h.region;
  ack = false;
  is_region = h.body.is_region;
  is_right = h.body.is_right;
  is_wrong = h.body.is_wrong;
  few = omega arith;
  whole = h.whole;
  good = λ right two. refl;
  bad = λ wrong. omega arith;
}

pub tail_slot : (f : FrameValue) (text : List Bool) → InTail f true 1 text → IsBeforeSlot text
tail_slot f text h = record {
  frame = f;
  region = h.region;
  body = record { x = h.x; check = h.check; is_region = h.is_region; is_right = h.is_right; is_wrong = h.is_wrong };
  whole = h.whole;
}

pub body_tail : (f : FrameValue) (right : Bool) (text : List Bool) → IsBody f right text → InTail f right 0 text
body_tail f right text h = record {
  x = h.x;
  check = h.check;
  region = text;
  ack = false;
  is_region = h.is_region;
  is_right = h.is_right;
  is_wrong = h.is_wrong;
  few = omega arith;
  whole = sym (append-nil text);
  good = λ is two. refl;
  bad = λ wrong. omega arith;
}

-- elsewhere the next level is not that of the ACK slot of a frame whose CRC is right
pub elsewhere : (stage : Stage) (text : List Bool) → IsAt stage text → is_own_slot stage ≡ false → IsBeforeSlot text → ⊥
elsewhere Region text h never b = no_part b.frame true 1 text (slot_tail text b) h
elsewhere (AfterRegion right) text (f, h) never b =
    omega (arith, same_place f b.frame right true 0 1 text [] text (sym (append-nil text)) h (slot_tail text b))
elsewhere (Slot true) text h never b = cc never
elsewhere (Slot false) text (f, h) never b = one_right b.frame f 1 1 text (slot_tail text b) h
elsewhere AfterSlot text (f, right, seen, two, h) never b =
    omega (arith, two, same_place f b.frame right true seen 1 text [] text (sym (append-nil text)) h (slot_tail text b))

pub own_slot : (stage : Stage) (text : List Bool) → IsAt stage text → is_own_slot stage ≡ true → IsBeforeSlot text
own_slot Region text h is = absurd (cc is)
own_slot (AfterRegion right) text h is = absurd (cc is)
own_slot (Slot true) text (f, h) is = tail_slot f text h
own_slot (Slot false) text h is = absurd (cc is)
own_slot AfterSlot text h is = absurd (cc is)

not_true : (b : Bool) → (b ≡ true → ⊥) → b ≡ false
not_true true h = absurd (h refl)
not_true false h = refl

-- what cannot be behind the ACK slot of a right CRC leaves the node recessive
pub uneventful : (stage : Stage) (text : List Bool) → IsAt stage text → (IsBeforeSlot text → ⊥) → is_own_slot stage ≡
    false
uneventful stage text h never = not_true (is_own_slot stage) (λ is. never (own_slot stage text h is))

-- behind the level in an ACK slot no region goes on
pub part_no_slot : (text : List Bool) (level : Bool) → BeginsRegion (text ++ level ∷ []) → IsBeforeSlot text → ⊥
part_no_slot text level h b = no_part b.frame true 1 text (slot_tail text b) (record {
  frame = h.frame;
  x = h.x;
  check = h.check;
  more = level ∷ h.more;
  not_whole = λ none. cc none;
  is_region = subst (IsRegion h.frame h.x h.check) (append_assoc text (level ∷ []) h.more) h.is_region;
})

-- nor does one end there
pub body_no_slot : (f : FrameValue) (right : Bool) (text : List Bool) (level : Bool) →
    IsBody f right (text ++ level ∷ []) → IsBeforeSlot text → ⊥
body_no_slot f right text level h b =
    omega (
      arith,
      same_place b.frame f true right 1 0 text (level ∷ []) (text ++ level ∷ []) refl (slot_tail text b)
          (body_tail f right (text ++ level ∷ []) h),
    )

-- nor a front
pub front_no_slot : (f : FrameValue) (text : List Bool) (level : Bool) → IsFront f (text ++ level ∷ []) →
    IsBeforeSlot text → ⊥
front_no_slot f text level h b =
    let p = parts f (text ++ level ∷ []) h in
    let e : p.region ++ front_tail false ≡ b.region ++ (true ∷ level ∷ []) =
    sym p.whole ∙ ap (λ w. w ++ level ∷ []) b.whole ∙ append_assoc b.region (true ∷ []) (level ∷ []) in
    let both = tails_same f b.frame p.x b.body.x p.check b.body.check p.region b.region (front_tail false)
    (true ∷ level ∷ []) p.is_region b.body.is_region e in
    omega (arith, ap length both.1)

-- in an ACK slot behind a right CRC only a recessive level is a fault
pub slot_fault : (kind : FaultKind) (text : List Bool) (level : Bool) → FaultAnswers kind text level →
    IsBeforeSlot text → level ≡ true
slot_fault kind text true fault b = refl
slot_fault Stuff text false fault b = absurd (no_part b.frame true 1 text (slot_tail text b) fault.0)
slot_fault Form text false fault b =
    absurd
    (fault.0 (begins_rough b.frame true 2 (text ++ false ∷ [])
    (next_slot b.frame true 1 text false (slot_tail text b) refl (λ r. refl))))
slot_fault Ack text false fault b =
    absurd (no_ack_before b.frame true 2 (text ++ false ∷ []) (text ++ false ∷ []) []
    (next_slot b.frame true 1 text false (slot_tail text b) refl (λ r. refl))
    (sym (append-nil (text ++ false ∷ []))) fault)
slot_fault Crc text false fault b =
    absurd (no_crc_before b.frame true 2 (text ++ false ∷ []) (text ++ false ∷ []) []
    (next_slot b.frame true 1 text false (slot_tail text b) refl (λ r. refl))
    (sym (append-nil (text ++ false ∷ []))) fault)

still_none : (given levels : List Bool) (b : Bool) →
    ((before more : List Bool) (slot : Bool) → levels ≡ before ++ slot ∷ more → IsBeforeSlot (given ++ before) → ⊥) →
    (IsBeforeSlot (given ++ levels) → ⊥) → (before more : List Bool) (slot : Bool) → levels ++ b ∷ [] ≡ before
    ++ slot ∷ more → IsBeforeSlot (given ++ before) → ⊥
still_none given levels b none never before more slot e at =
    elim (split_last levels (before ++ slot ∷ []) more b (e ∙ sym (append_assoc before (slot ∷ []) more))) [
      | inl is ↦
          let size : length before ≡ length levels =
          omega (arith, ap length is, length-append before (slot ∷ []), length-append levels (b ∷ [])) in
          never (subst (λ t. IsBeforeSlot (given ++ t)) (append_same before (slot ∷ []) levels (b ∷ []) size is).0 at)
      | inr rest ↦ none before rest.0 slot (rest.1 ∙ append_assoc before (slot ∷ []) rest.0) at
    ]

-- a level elsewhere: the receiver drives recessive and counts nothing
pub reads_more : {given levels : List Bool} {pairs : List Pair} {events : List ErrorEvent} (b : Bool) →
    Reads given levels pairs events → (IsBeforeSlot (given ++ levels) → ⊥) →
    Reads given (levels ++ b ∷ []) (pairs ++ record { driven = true; sampled = b } ∷ []) events
reads_more {given = given} b (no_slot levels none) never =
    rw listening_more (no_slot (levels ++ b ∷ []) (still_none given levels b none never))
reads_more b (with_slot before more slot at) never =
    rw (
      append_assoc before (slot ∷ more) (b ∷ []),
      append_assoc (listening before ++ dominating (slot ∷ []))
          (listening more) (record { driven = true; sampled = b } ∷ []),
      listening_more,
    )
    (with_slot before (more ++ b ∷ []) slot at)

-- the level of its ACK slot
pub reads_slot : {given levels : List Bool} {pairs : List Pair} {events : List ErrorEvent} (b : Bool) →
    Reads given levels pairs events → IsBeforeSlot (given ++ levels) →
    Reads given (levels ++ b ∷ []) (pairs ++ record { driven = false; sampled = b } ∷ []) (events ++ acknowledged b)
reads_slot {given = given} b (no_slot levels none) at =
    subst (λ ps. Reads given (levels ++ b ∷ []) ps (acknowledged b))
    (append-nil (listening levels ++ record { driven = false; sampled = b } ∷ [])) (with_slot levels [] b at)
reads_slot {given = given} b (with_slot before more slot first) at =
    absurd
    (omega (
      arith,
      same_place first.frame at.frame true true 1 1 (given ++ before) (slot ∷ more)
          (given ++ (before ++ slot ∷ more)) (sym (append_assoc given before (slot ∷ more))) (slot_tail _ first)
          (slot_tail _ at),
    ))

-- a receiver that is in its ACK slot has counted nothing
pub none_counted : {given levels : List Bool} {pairs : List Pair} {events : List ErrorEvent} →
    Reads given levels pairs events → IsBeforeSlot (given ++ levels) → events ≡ []
none_counted (no_slot levels none) at = refl
none_counted {given = given} (with_slot before more slot first) at =
    absurd
    (omega (
      arith,
      same_place first.frame at.frame true true 1 1 (given ++ before) (slot ∷ more)
          (given ++ (before ++ slot ∷ more)) (sym (append_assoc given before (slot ∷ more))) (slot_tail _ first)
          (slot_tail _ at),
    ))

-- the level behind a region that is not over
pub region_tail : (text : List Bool) (level : Bool) → BeginsRegion text → IsBehindBody (text ++ level ∷ []) → ⊥
region_tail text level b h = elim (split_last text h.region (h.first ∷ h.others) level h.whole) [
  | inl is ↦ omega (
    arith,
    ap length (h.whole ∙ ap (λ r. r ++ h.first ∷ h.others) is),
    length-append (text ++ level ∷ []) (h.first ∷ h.others),
  )
  | inr rest ↦
      let long : text ++ b.more ≡ h.region ++ (rest.0 ++ b.more) =
      ap (λ w. w ++ b.more) rest.1 ∙ append_assoc h.region rest.0 b.more in
      let none = one_region h.frame b.frame h.x b.x h.check b.check h.region (rest.0 ++ b.more) h.is_region
      (subst (IsRegion b.frame b.x b.check) long b.is_region) in
      b.not_whole (no_length b.more (omega (arith, ap length none, length-append rest.0 b.more)))
]

is_recessive : (level : Bool) → (level ≡ false → ⊥) → level ≡ true
is_recessive true h = refl
is_recessive false h = absurd (h refl)

-- the CRC delimiter
pub delimiter_tail : (f : FrameValue) (right : Bool) (text : List Bool) (level : Bool) → InTail f right 0 text →
    IsBehindBody (text ++ level ∷ []) → InTail f right 1 (text ++ level ∷ [])
delimiter_tail f right text level h k =
    next_tail f right 0 text level h (omega arith) (λ one. omega (arith, one))
    (is_recessive level (λ low. no_form f right 0 text level h (λ one. omega (arith, one)) low k.begins))
    (λ wrong. omega arith)

-- the ACK slot: behind a right CRC it is dominant
pub slot_dominant : (f : FrameValue) (text : List Bool) (level : Bool) → InTail f true 1 text →
    IsBehindBody (text ++ level ∷ []) → level ≡ false
slot_dominant f text level h k =
    not_true level (λ high. k.no_ack_fault (ack_fault f true 1 text level h refl refl high))

-- the levels behind the ACK slot
pub later_tail : (f : FrameValue) (right : Bool) (seen : ℕ) (text : List Bool) (level : Bool) → 2 ≤ seen →
    InTail f right seen text → IsBehindBody (text ++ level ∷ []) →
    InTail f right (seen + 1) (text ++ level ∷ [])
later_tail f right seen text level two h k =
    let other : seen ≡ 1 → ⊥ = λ one. omega (arith, one, two) in
    let high : level ≡ true = is_recessive level (λ low. no_form f right seen text level h other low k.begins) in
    let early : seen ≡ 8 → ⊥ = λ last. k.no_front f (taken f right seen text level h last high) in
    next_tail f right seen text level h (below 7 seen h.few early) other high
    (λ wrong. absurd
    (k.no_crc_fault (crc_fault f right seen text level h (omega (arith, two, h.bad wrong)) wrong high)))
  where
    below : (m n : ℕ) → n ≤ suc m → (n ≡ suc m → ⊥) → n ≤ m
    below m zero few other = omega arith
    below zero (suc n) few other = absurd (other (omega (arith, few)))
    below (suc m) (suc n) few other = omega (arith, below m n (omega (arith, few)) (λ e. other (omega (arith, e))))
