-- A frame that is read: what more levels make of what the receiver drives and counts, and how its reading ends.
use Rattle.std.proofs.Common.{◌≡◌, inl, inr, Bool, true, false, List, [], ◌∷◌, ◌++◌, length, refl, sym, ap, subst}
use Rattle.std.proofs.Common.{arith, ◌∙◌}
use Rattle.std.proofs.lemmas.List.{append_assoc, append-nil, map-append, length-append}
use Rattle.can_frame.specs.Frames.{FrameValue}
use Rattle.can_frame.specs.Fronts.{IsFront}
use Rattle.can_frame.specs.Answers.{FaultAnswers}
use Rattle.can_frame.specs.declared.step.FaultKind.{FaultKind}
use Rattle.can_frame.specs.declared.step.Step.TheVariants.{Fault}
use Rattle.can_frame.proofs.Numbers.{append_same}
use Rattle.can_frame.proofs.FrontLaws.{no_front_begins, no_dominant_end}
use Rattle.can_frame.proofs.Undecided.{rough_before}
use Rattle.can_frame.proofs.OneAnswer.{one_answer}
use Rattle.can_confinement.specs.declared.confinement.ErrorEvent.{ErrorEvent}
use Rattle.can_node.specs.Pairs.{Pair, listening, dominating}
use Rattle.can_node.specs.Takes.{IsReadOn, IsBeforeSlot, Reads, acknowledged, IsFirstFault}
use Rattle.can_node.specs.Takes.Reads.{no_slot, with_slot}
use Rattle.can_node.specs.Copies.{sampled_in}
use Rattle.can_node.proofs.Texts.{reads_samples, sampled_append}
use Rattle.can_node.proofs.Places.{same_place, slot_tail}
use Rattle.can_node.proofs.SameFronts.{front_rough, front_sound}
use Rattle.can_node.proofs.OneSplitLists.{fronts, has_last, last_same, both_ways}
use Rattle.can_node.proofs.OneSplitEvents.{More, no_more, acknowledged_stays}

-- the pairs of a frame that is read determine its levels
pub reads_front : {given levels others : List Bool} {pairs more : List Pair} {events counted : List ErrorEvent}
    (r : List Pair) → Reads given levels pairs events → Reads given others more counted → more ≡ pairs ++ r →
    others ≡ levels ++ sampled_in r
reads_front {pairs = pairs} r h k e =
    sym (reads_samples k) ∙ ap sampled_in e ∙ sampled_append pairs r ∙ ap (λ t. t ++ sampled_in r) (reads_samples h)

pub reads_levels : {given levels others : List Bool} {pairs more : List Pair} {events counted : List ErrorEvent} →
    Reads given levels pairs events → Reads given others more counted → more ≡ pairs → others ≡ levels
reads_levels h k e = sym (reads_samples k) ∙ ap sampled_in e ∙ reads_samples h

-- a text has one place of the ACK slot of a right CRC
no_second_slot : (given before m : List Bool) → IsBeforeSlot (given ++ before) → IsBeforeSlot (given ++ (before ++ m)) →
    m ≡ []
no_second_slot given before [] h k = refl
no_second_slot given before (x ∷ m) h k =
    absurd (omega (
      arith,
      same_place h.frame k.frame true true 1 1 (given ++ before) (x ∷ m) (given ++ (before ++ x ∷ m))
          (sym (append_assoc given before (x ∷ m))) (slot_tail _ h) (slot_tail _ k),
    ))

same_slot : (given before others rest more : List Bool) → IsBeforeSlot (given ++ before) →
    IsBeforeSlot (given ++ others) → before ++ rest ≡ others ++ more → before ≡ others
same_slot given before others rest more h k e = elim (fronts before others rest more e) [
  | inl longer ↦ (let none = no_second_slot given before longer.0 h
      (subst (λ t. IsBeforeSlot (given ++ t)) longer.1 k) in
      sym (longer.1 ∙ ap (λ t. before ++ t) none ∙ append-nil before))
  | inr shorter ↦ (let none = no_second_slot given others shorter.0 k
      (subst (λ t. IsBeforeSlot (given ++ t)) shorter.1 h) in
      shorter.1 ∙ ap (λ t. others ++ t) none ∙ append-nil others)
]

head_is : (x y : Bool) (xs ys : List Bool) → x ∷ xs ≡ y ∷ ys → x ≡ y
head_is x y xs ys e = cc e

-- what a longer text counts goes on behind what its beginning counts
pub reads_grow : {given levels others : List Bool} {pairs more : List Pair} {events counted : List ErrorEvent}
    (r : List Bool) → Reads given levels pairs events → Reads given others more counted → others ≡ levels ++ r →
    More events counted
reads_grow r (no_slot levels none) (no_slot others never) e = no_more []
reads_grow r (no_slot levels none) (with_slot before more slot is) e =
    record { more = acknowledged slot; is = refl; stays = acknowledged_stays slot }
reads_grow r (with_slot before more slot is) (no_slot others never) e =
    absurd (never before (more ++ r) slot (e ∙ append_assoc before (slot ∷ more) r) is)
reads_grow {given = given} r (with_slot before more slot is) (with_slot others later other at) e =
    let whole : others ++ other ∷ later ≡ before ++ slot ∷ (more ++ r) = e ∙ append_assoc before (slot ∷ more) r in
    let same = same_slot given others before (other ∷ later) (slot ∷ (more ++ r)) at is whole in
    let tails = (append_same others (other ∷ later) before (slot ∷ (more ++ r)) (ap length same) whole).1 in
    let slots : other ≡ slot = head_is other slot later (more ++ r) tails in
    subst (λ s. More (acknowledged slot) (acknowledged s)) (sym slots) (no_more (acknowledged slot))

-- equal levels count the same
pub reads_same : {given levels others : List Bool} {pairs more : List Pair} {events counted : List ErrorEvent} →
    Reads given levels pairs events → Reads given others more counted → others ≡ levels → events ≡ counted
reads_same {levels = levels} {others = others} {events = events} {counted = counted} h k e =
    let up = reads_grow [] h k (e ∙ sym (append-nil levels)) in
    let down = reads_grow [] k h (sym e ∙ sym (append-nil others)) in
    both_ways events counted up.more down.more up.is down.is

-- what was read before the last level
pub record ReadBefore (given levels : List Bool) (pairs : List Pair) (events : List ErrorEvent) : Type 0 where
  pub before : List Pair
  pub last : Pair
  pub counted : List ErrorEvent
  pub is : pairs ≡ before ++ last ∷ []
  pub reads : Reads given levels before counted
  pub more : More counted events

read_no_slot : (given levels : List Bool) (level : Bool) →
    ((before more : List Bool) (slot : Bool) → levels ++ level ∷ [] ≡ before ++ slot ∷ more →
    IsBeforeSlot (given ++ before) → ⊥) →
    ReadBefore given levels (listening (levels ++ level ∷ [])) []
read_no_slot given levels level none = record {
  before = listening levels;
  last = record { driven = true; sampled = level };
  counted = [];
  is = map-append _ levels (level ∷ []);
  reads = no_slot levels (λ before more slot e. none before (more ++ level ∷ []) slot
      (ap (λ t. t ++ level ∷ []) e ∙ append_assoc before (slot ∷ more) (level ∷ [])));
  more = no_more [];
}

-- the last level is that of the slot
read_to_slot : (given before : List Bool) (slot : Bool) → IsBeforeSlot (given ++ before) →
    ReadBefore given before (listening before ++ dominating (slot ∷ []) ++ listening []) (acknowledged slot)
read_to_slot given before slot at = record {
  before = listening before;
  last = record { driven = false; sampled = slot };
  counted = [];
  is = append-nil _;
  reads = no_slot before (λ early more other e k. no_slot_twice early (other ∷ more) e k (λ none. cc none));
  more = record { more = acknowledged slot; is = refl; stays = acknowledged_stays slot };
}
  where
    no_slot_twice : (early rest : List Bool) → before ≡ early ++ rest → IsBeforeSlot (given ++ early) →
        (rest ≡ [] → ⊥) → ⊥
    no_slot_twice early rest e k some =
        some (no_second_slot given early rest k (subst (λ t. IsBeforeSlot (given ++ t)) e at))

-- it stands behind the slot
read_past_slot : (given before more : List Bool) (slot level : Bool) → IsBeforeSlot (given ++ before) →
    ReadBefore given (before ++ slot ∷ more)
    (listening before ++ dominating (slot ∷ []) ++ listening (more ++ level ∷ [])) (acknowledged slot)
read_past_slot given before more slot level at = record {
  before = listening before ++ dominating (slot ∷ []) ++ listening more;
  last = record { driven = true; sampled = level };
  counted = acknowledged slot;
  is = ap (λ p. listening before ++ dominating (slot ∷ []) ++ p) (map-append _ more (level ∷ []))
      ∙ sym (append_assoc (listening before ++ dominating (slot ∷ [])) (listening more) _);
  reads = with_slot before more slot at;
  more = no_more _;
}

pub read_before : {given whole : List Bool} {pairs : List Pair} {events : List ErrorEvent} (levels : List Bool)
    (level : Bool) → Reads given whole pairs events → whole ≡ levels ++ level ∷ [] →
    ReadBefore given levels pairs events
read_before {given = given} levels level (no_slot whole none) e =
    subst (λ t. ReadBefore given levels (listening t) []) (sym e)
    (read_no_slot given levels level (λ before more slot k. none before more slot (e ∙ k)))
read_before {given = given} levels level (with_slot before [] slot at) e =
    let same : before ≡ levels = (last_same before levels slot level e).0 in
    subst (λ t. ReadBefore given t (listening before ++ dominating (slot ∷ []) ++ listening []) (acknowledged slot))
    same
    (read_to_slot given before slot at)
read_before {given = given} levels level (with_slot before (m ∷ more) slot at) e =
    let h = has_last m more in
    let all : (before ++ slot ∷ h.before) ++ h.last ∷ [] ≡ levels ++ level ∷ [] =
    append_assoc before (slot ∷ h.before) (h.last ∷ []) ∙ ap (λ t. before ++ slot ∷ t) (sym h.is) ∙ e in
    let same = (last_same (before ++ slot ∷ h.before) levels h.last level all).0 in
    subst (λ t. ReadBefore given t (listening before ++ dominating (slot ∷ []) ++ listening (m ∷ more))
    (acknowledged slot)) same
    (subst (λ t. ReadBefore given (before ++ slot ∷ h.before)
    (listening before ++ dominating (slot ∷ []) ++ listening t) (acknowledged slot)) (sym h.is)
    (read_past_slot given before h.before slot h.last at))

-- before the last level of a front the frame was read on
pub front_read_on : (f : FrameValue) (text : List Bool) (level : Bool) → IsFront f (text ++ level ∷ []) → IsReadOn text
front_read_on f text level h = record {
  begins = rough_before (text ++ level ∷ []) text (level ∷ []) refl (front_rough f (text ++ level ∷ []) h);
  undecided = record {
    no_front = λ g w more e k. not_front g w more e k;
    no_fault = λ w more e k.
        front_sound f (text ++ level ∷ []) w (more ++ level ∷ []) h
        (ap (λ t. t ++ level ∷ []) e ∙ append_assoc w more (level ∷ [])) k;
  };
}
  where
    not_front : (g : FrameValue) (w more : List Bool) → text ≡ w ++ more → IsFront g w → ⊥
    not_front g w more e k =
        let all : text ++ level ∷ [] ≡ w ++ (more ++ level ∷ []) =
        ap (λ t. t ++ level ∷ []) e ∙ append_assoc w more (level ∷ []) in
        let none = (no_front_begins g f w (more ++ level ∷ []) k (subst (IsFront f) all h)).0 in
        omega (arith, ap length none, length-append more (level ∷ []))

-- what is given of a frame is no front of it
pub front_some : (f : FrameValue) (given before : List Bool) → given ≡ before ++ false ∷ [] →
    IsFront f (given ++ []) → ⊥
front_some f given before is h = no_dominant_end f before (subst (IsFront f) (append-nil given ∙ is) h)

-- a front is of one frame
pub front_of_one : (f g : FrameValue) (v w : List Bool) → IsFront f v → IsFront g w → w ≡ v → f ≡ g
front_of_one f g v w h k e =
    (no_front_begins f g v [] h (subst (IsFront g) (e ∙ sym (append-nil v)) k)).1

-- a first fault is of one kind
pub one_kind : (a b : FaultKind) (text other : List Bool) (level last : Bool) → IsFirstFault a text level →
    IsFirstFault b other last → text ≡ other → level ≡ last → a ≡ b
one_kind a b text other level last h k e l =
    let there : FaultAnswers b text level =
    subst (λ t. FaultAnswers b t level) (sym e) (subst (FaultAnswers b other) (sym l) k.fault_is) in
    let same : Fault a ≡ Fault b = one_answer (Fault a) (Fault b) text level h.fault_is there in
    cc same
