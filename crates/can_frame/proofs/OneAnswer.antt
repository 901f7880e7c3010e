-- No text has two answers.
use Rattle.std.proofs.Common.{◌≡◌, ◌⊎◌, inl, inr, Bool, true, false, List, [], ◌∷◌, ◌++◌, replicate, refl, sym, ap}
use Rattle.std.proofs.Common.{subst, ◌∙◌, append_assoc}
use Rattle.std.proofs.lemmas.List.{append-nil}
use Rattle.can_frame.specs.Frames.{FrameValue}
use Rattle.can_frame.specs.Fields.{Unchecked}
use Rattle.can_frame.specs.Fronts.{IsRegion, front_tail, IsFront, BeginsRough, BeginsRegion}
use Rattle.can_frame.specs.Answers.{FaultAnswers, IsBody, IsBehindBody, IsAckFault, IsCrcFault}
use Rattle.can_frame.specs.ReaderLaws.{OneAnswer}
use Rattle.can_frame.specs.declared.step.FaultKind.{FaultKind}
use Rattle.can_frame.specs.declared.step.FaultKind.TheVariants.{Stuff, Form, Ack, Crc}
use Rattle.can_frame.specs.declared.step.Step.TheVariants.{More, StuffBit, Body, Tail, Taken, Fault}
use Rattle.can_frame.proofs.Regions.{one_region, region_frame}
use Rattle.can_frame.proofs.FrontLaws.{parts, no_front_begins}
use Rattle.can_frame.proofs.Tails.{same_crc, tails_same, either}
use Rattle.can_frame.proofs.Undecided.{part_rough, part_region}

-- A text is in one of four parts: before the end of a region, at it, behind it, or in no rough front.
whole_rough : (f : FrameValue) (x : Unchecked) (c w : List Bool) → IsRegion f x c w → BeginsRough w
whole_rough f x c w h = record {
  rest = front_tail false;
  frame = f;
  is_rough = record { x = x; check = c; ack = false; region = w; is_region = h; whole = refl };
}

pub front_rough : (f : FrameValue) (w : List Bool) → IsFront f w → BeginsRough w
front_rough f w h =
    let p = parts f w h in
    record {
      rest = [];
      frame = f;
      is_rough = record {
        x = p.x;
        check = p.check;
        ack = false;
        region = p.region;
        is_region = p.is_region;
        whole = append-nil w ∙ p.whole;
      };
    }

ack_rough : (w : List Bool) → IsAckFault w → BeginsRough w
ack_rough w h = record {
  rest = true ∷ replicate 6 true;
  frame = h.frame;
  is_rough = record {
    x = h.body.x;
    check = h.body.check;
    ack = true;
    region = h.region;
    is_region = h.body.is_region;
    whole = ap (λ t. t ++ true ∷ replicate 6 true) h.whole
        ∙ append_assoc h.region (true ∷ true ∷ []) (true ∷ replicate 6 true);
  };
}

crc_rough : (w : List Bool) → IsCrcFault w → BeginsRough w
crc_rough w h = record {
  rest = replicate 6 true;
  frame = h.frame;
  is_rough = record {
    x = h.body.x;
    check = h.body.check;
    ack = h.ack;
    region = h.region;
    is_region = h.body.is_region;
    whole =
        ap (λ t. t ++ replicate 6 true) h.whole ∙ append_assoc h.region (true ∷ h.ack ∷ true ∷ []) (replicate 6 true);
  };
}

-- a region and what goes past one
no_past : (f g : FrameValue) (x y : Unchecked) (c d w v : List Bool) (b : Bool) (t : List Bool) → IsRegion f x c w →
    IsRegion g y d v → w ≡ v ++ b ∷ t → ⊥
no_past f g x y c d w v b t h k e =
    let none = one_region g f y x d c v (b ∷ t) k (subst (IsRegion f x c) e h) in
    cc

pub two_bodies : (f g : FrameValue) (a b : Bool) (w : List Bool) → IsBody f a w → IsBody g b w → (f ≡ g) × (a ≡ b)
two_bodies f g a b w h k =
    let crc = same_crc f g h.x k.x h.check k.check w w h.is_region k.is_region refl in
    let back = same_crc g f k.x h.x k.check h.check w w k.is_region h.is_region refl in (
      region_frame f g h.x k.x h.check k.check w h.is_region k.is_region,
      elim (either a) [
        | inl p ↦ elim (either b) [ inl q ↦ p ∙ sym q | inr q ↦ absurd (k.is_wrong q (back (h.is_right p))) ]
        | inr p ↦ elim (either b) [ inl q ↦ absurd (h.is_wrong p (crc (k.is_right q))) | inr q ↦ p ∙ sym q ]
      ],
    )

pub front_no_ack : (f : FrameValue) (w more : List Bool) → IsFront f (w ++ more) → IsAckFault w → ⊥
front_no_ack f w more h k =
    let p = parts f (w ++ more) h in
    let e : p.region ++ front_tail false ≡ k.region ++ (true ∷ true ∷ more) =
    sym p.whole ∙ ap (λ t. t ++ more) k.whole ∙ append_assoc k.region (true ∷ true ∷ []) more in
    let both = tails_same f k.frame p.x k.body.x p.check k.body.check p.region k.region (front_tail false)
    (true ∷ true ∷ more) p.is_region k.body.is_region e in
    let tails = both.1 in
    cc

pub front_no_crc : (f : FrameValue) (w more : List Bool) → IsFront f (w ++ more) → IsCrcFault w → ⊥
front_no_crc f w more h k =
    let p = parts f (w ++ more) h in
    let e : p.region ++ front_tail false ≡ k.region ++ (true ∷ k.ack ∷ true ∷ more) =
    sym p.whole ∙ ap (λ t. t ++ more) k.whole ∙ append_assoc k.region (true ∷ k.ack ∷ true ∷ []) more in
    let both = tails_same f k.frame p.x k.body.x p.check k.body.check p.region k.region (front_tail false)
    (true ∷ k.ack ∷ true ∷ more) p.is_region k.body.is_region e in
    k.body.is_wrong refl (same_crc k.frame f k.body.x p.x k.body.check p.check k.region p.region k.body.is_region
    p.is_region (sym both.0) p.is_crc)

ack_no_crc : (w : List Bool) → IsAckFault w → IsCrcFault w → ⊥
ack_no_crc w h k =
    let both = tails_same h.frame k.frame h.body.x k.body.x h.body.check k.body.check h.region k.region
    (true ∷ true ∷ []) (true ∷ k.ack ∷ true ∷ []) h.body.is_region k.body.is_region (sym h.whole ∙ k.whole) in
    let tails = both.1 in
    cc

-- which answers a text that begins a rough front, or begins none, may have
pub no_rough_fault : (kind : FaultKind) (text : List Bool) (level : Bool) → FaultAnswers kind text level →
    BeginsRough (text ++ level ∷ []) → IsAckFault (text ++ level ∷ []) ⊎ IsCrcFault (text ++ level ∷ [])
no_rough_fault Stuff text level h b = absurd (h.3 b)
no_rough_fault Form text level h b = absurd (h.0 b)
no_rough_fault Ack text level h b = inl h
no_rough_fault Crc text level h b = inr h

part_no_fault : (kind : FaultKind) (text : List Bool) (level : Bool) → FaultAnswers kind text level →
    BeginsRegion (text ++ level ∷ []) → ⊥
part_no_fault kind text level h b =
    let w = text ++ level ∷ [] in
    elim (no_rough_fault kind text level h (part_rough w b)) [
      | inl a ↦ part_region a.frame a.body.x a.body.check a.region (true ∷ true ∷ []) w b a.body.is_region a.whole
      | inr a ↦ part_region a.frame a.body.x a.body.check a.region (true ∷ a.ack ∷ true ∷ []) w b a.body.is_region
          a.whole
    ]

body_no_fault : (kind : FaultKind) (f : FrameValue) (right : Bool) (text : List Bool) (level : Bool) →
    FaultAnswers kind text level → IsBody f right (text ++ level ∷ []) → ⊥
body_no_fault kind f right text level h b =
    let w = text ++ level ∷ [] in
    elim (no_rough_fault kind text level h (whole_rough f b.x b.check w b.is_region)) [
      | inl a ↦ no_past f a.frame b.x a.body.x b.check a.body.check w a.region true
          (true ∷ []) b.is_region a.body.is_region a.whole
      | inr a ↦ no_past f a.frame b.x a.body.x b.check a.body.check w a.region true
          (a.ack ∷ true ∷ []) b.is_region a.body.is_region a.whole
    ]

tail_no_fault : (kind : FaultKind) (text : List Bool) (level : Bool) → FaultAnswers kind text level →
    IsBehindBody (text ++ level ∷ []) → ⊥
tail_no_fault kind text level h b =
    elim (no_rough_fault kind text level h b.begins) [ inl a ↦ b.no_ack_fault a | inr a ↦ b.no_crc_fault a ]

front_no_fault : (kind : FaultKind) (f : FrameValue) (text : List Bool) (level : Bool) → FaultAnswers kind text level →
    IsFront f (text ++ level ∷ []) → ⊥
front_no_fault kind f text level h b =
    let w = text ++ level ∷ [] in
    let long : IsFront f (w ++ []) = subst (IsFront f) (sym (append-nil w)) b in
    elim (no_rough_fault kind text level h (front_rough f w b)) [
      | inl a ↦ front_no_ack f w [] long a
      | inr a ↦ front_no_crc f w [] long a
    ]

part_no_body : (f : FrameValue) (right : Bool) (w : List Bool) → BeginsRegion w → IsBody f right w → ⊥
part_no_body f right w h b = part_region f b.x b.check w [] w h b.is_region (sym (append-nil w))

part_no_tail : (w : List Bool) → BeginsRegion w → IsBehindBody w → ⊥
part_no_tail w h b = part_region b.frame b.x b.check b.region (b.first ∷ b.others) w h b.is_region b.whole

part_no_front : (f : FrameValue) (w : List Bool) → BeginsRegion w → IsFront f w → ⊥
part_no_front f w h b = let p =
    parts f w b in part_region f p.x p.check p.region (front_tail false) w h p.is_region p.whole

body_no_tail : (f : FrameValue) (right : Bool) (w : List Bool) → IsBody f right w → IsBehindBody w → ⊥
body_no_tail f right w h b =
    no_past f b.frame h.x b.x h.check b.check w b.region b.first b.others h.is_region b.is_region b.whole

body_no_front : (f g : FrameValue) (right : Bool) (w : List Bool) → IsBody f right w → IsFront g w → ⊥
body_no_front f g right w h b = let p = parts g w b in
    no_past f g h.x p.x h.check p.check w p.region true (false ∷ true ∷ replicate 6 true) h.is_region p.is_region
    p.whole

five_tells : (b : Bool) → b ≡ false → b ≡ true → ⊥
five_tells b h k = cc

one_fault : (a b : FaultKind) (text : List Bool) (level : Bool) → FaultAnswers a text level →
    FaultAnswers b text level → a ≡ b
one_fault Stuff Stuff text level h k = refl
one_fault Stuff Form text level h k = absurd (k.1 h.0 h.1)
one_fault Stuff Ack text level h k = absurd (h.3 (ack_rough (text ++ level ∷ []) k))
one_fault Stuff Crc text level h k = absurd (h.3 (crc_rough (text ++ level ∷ []) k))
one_fault Form Stuff text level h k = absurd (h.1 k.0 k.1)
one_fault Form Form text level h k = refl
one_fault Form Ack text level h k = absurd (h.0 (ack_rough (text ++ level ∷ []) k))
one_fault Form Crc text level h k = absurd (h.0 (crc_rough (text ++ level ∷ []) k))
one_fault Ack Stuff text level h k = absurd (k.3 (ack_rough (text ++ level ∷ []) h))
one_fault Ack Form text level h k = absurd (k.0 (ack_rough (text ++ level ∷ []) h))
one_fault Ack Ack text level h k = refl
one_fault Ack Crc text level h k = absurd (ack_no_crc (text ++ level ∷ []) h k)
one_fault Crc Stuff text level h k = absurd (k.3 (crc_rough (text ++ level ∷ []) h))
one_fault Crc Form text level h k = absurd (k.0 (crc_rough (text ++ level ∷ []) h))
one_fault Crc Ack text level h k = absurd (ack_no_crc (text ++ level ∷ []) k h)
one_fault Crc Crc text level h k = refl

two_fronts : (f g : FrameValue) (w : List Bool) → IsFront f w → IsFront g w → f ≡ g
two_fronts f g w h k = (no_front_begins f g w [] h (subst (IsFront g) (sym (append-nil w)) k)).1

pub one_answer : OneAnswer
one_answer More More text level h k = refl
one_answer More StuffBit text level h k = absurd (five_tells _ h.1 k.1)
one_answer More (Body g q) text level h k = absurd (part_no_body g q _ h.0 k)
one_answer More Tail text level h k = absurd (part_no_tail _ h.0 k)
one_answer More (Taken g) text level h k = absurd (part_no_front g _ h.0 k)
one_answer More (Fault b) text level h k = absurd (part_no_fault b text level k h.0)
one_answer StuffBit More text level h k = absurd (five_tells _ k.1 h.1)
one_answer StuffBit StuffBit text level h k = refl
one_answer StuffBit (Body g q) text level h k = absurd (part_no_body g q _ h.0 k)
one_answer StuffBit Tail text level h k = absurd (part_no_tail _ h.0 k)
one_answer StuffBit (Taken g) text level h k = absurd (part_no_front g _ h.0 k)
one_answer StuffBit (Fault b) text level h k = absurd (part_no_fault b text level k h.0)
one_answer (Body f p) More text level h k = absurd (part_no_body f p _ k.0 h)
one_answer (Body f p) StuffBit text level h k = absurd (part_no_body f p _ k.0 h)
one_answer (Body f p) (Body g q) text level h k =
    let both = two_bodies f g p q (text ++ level ∷ []) h k in ap (λ s. Body s p) both.0 ∙ ap (Body g) both.1
one_answer (Body f p) Tail text level h k = absurd (body_no_tail f p _ h k)
one_answer (Body f p) (Taken g) text level h k = absurd (body_no_front f g p _ h k)
one_answer (Body f p) (Fault b) text level h k = absurd (body_no_fault b f p text level k h)
one_answer Tail More text level h k = absurd (part_no_tail _ k.0 h)
one_answer Tail StuffBit text level h k = absurd (part_no_tail _ k.0 h)
one_answer Tail (Body g q) text level h k = absurd (body_no_tail g q _ k h)
one_answer Tail Tail text level h k = refl
one_answer Tail (Taken g) text level h k = absurd (h.no_front g k)
one_answer Tail (Fault b) text level h k = absurd (tail_no_fault b text level k h)
one_answer (Taken f) More text level h k = absurd (part_no_front f _ k.0 h)
one_answer (Taken f) StuffBit text level h k = absurd (part_no_front f _ k.0 h)
one_answer (Taken f) (Body g q) text level h k = absurd (body_no_front g f q _ k h)
one_answer (Taken f) Tail text level h k = absurd (k.no_front f h)
one_answer (Taken f) (Taken g) text level h k = ap Taken (two_fronts f g (text ++ level ∷ []) h k)
one_answer (Taken f) (Fault b) text level h k = absurd (front_no_fault b f text level k h)
one_answer (Fault a) More text level h k = absurd (part_no_fault a text level h k.0)
one_answer (Fault a) StuffBit text level h k = absurd (part_no_fault a text level h k.0)
one_answer (Fault a) (Body g q) text level h k = absurd (body_no_fault a g q text level h k)
one_answer (Fault a) Tail text level h k = absurd (tail_no_fault a text level h k)
one_answer (Fault a) (Taken g) text level h k = absurd (front_no_fault a g text level h k)
one_answer (Fault a) (Fault b) text level h k = ap Fault (one_fault a b text level h k)
