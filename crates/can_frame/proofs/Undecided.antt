-- A receiver that is still reading has read no front and no fault.
use Rattle.std.proofs.Common.{◌≡◌, inl, inr, ℕ, Bool, true, false, List, [], ◌∷◌, ◌++◌, sym, ap, subst, ◌∙◌}
use Rattle.std.proofs.Common.{append_assoc}
use Rattle.can_frame.specs.Frames.{FrameValue}
use Rattle.can_frame.specs.Fields.{Unchecked}
use Rattle.can_frame.specs.Fronts.{IsRegion, front_tail, IsRoughFront, BeginsRough, BeginsRegion}
use Rattle.can_frame.specs.Answers.{IsAckFault, IsCrcFault, IsFaulty, IsUndecided}
use Rattle.can_frame.specs.Reading.{Inside, InTail}
use Rattle.can_frame.proofs.Regions.{one_region, completes}
use Rattle.can_frame.proofs.FrontLaws.{parts}
use Rattle.can_frame.proofs.Tails.{begins_rough, no_front_before, no_ack_before, no_crc_before}

pub part_rough : (w : List Bool) → BeginsRegion w → BeginsRough w
part_rough w h = record {
  rest = h.more ++ front_tail false;
  frame = h.frame;
  is_rough = record {
    x = h.x;
    check = h.check;
    ack = false;
    region = w ++ h.more;
    is_region = h.is_region;
    whole = sym (append_assoc w h.more (front_tail false));
  };
}

-- the part of a region that goes on holds no region
pub part_region : (f : FrameValue) (x : Unchecked) (c v t w : List Bool) → BeginsRegion w → IsRegion f x c v → w ≡ v
    ++ t → ⊥
part_region f x c v t w h k e =
    let long : w ++ h.more ≡ v ++ (t ++ h.more) = ap (λ s. s ++ h.more) e ∙ append_assoc v t h.more in
    let none = one_region f h.frame x h.x c h.check v (t ++ h.more) k
    (subst (IsRegion h.frame h.x h.check) long h.is_region) in
    h.not_whole (second_none t h.more none)
  where
    second_none : (a b : List Bool) → a ++ b ≡ [] → b ≡ []
    second_none [] b e = e
    second_none (y ∷ a) b e = cc

-- the beginnings of a rough front
pub rough_before : (text w more : List Bool) → text ≡ w ++ more → BeginsRough text → BeginsRough w
rough_before text w more e h = record {
  rest = more ++ h.rest;
  frame = h.frame;
  is_rough = subst (IsRoughFront h.frame) (ap (λ s. s ++ h.rest) e ∙ append_assoc w more h.rest) h.is_rough;
}

no_fault_by : (w : List Bool) → BeginsRough w → (IsAckFault w → ⊥) → (IsCrcFault w → ⊥) → IsFaulty w → ⊥
no_fault_by w b a c (inl h) = h b
no_fault_by w b a c (inr (inl h)) = a h
no_fault_by w b a c (inr (inr h)) = c h

-- a text that goes past a region is no part of one
past_region : (f : FrameValue) (x : Unchecked) (c v t text w more : List Bool) → BeginsRegion text → text ≡ w ++ more →
    w ≡ v ++ t → IsRegion f x c v → ⊥
past_region f x c v t text w more b e whole h =
    part_region f x c v (t ++ more) text b h (e ∙ ap (λ s. s ++ more) whole ∙ append_assoc v t more)

pub region_undecided : (text u : List Bool) → Inside text u → IsUndecided text
region_undecided text u h =
    let b = completes text u h in
    record {
      no_front = λ f w more e k. let p =
          parts f w k in past_region f p.x p.check p.region (front_tail false) text w more b e p.whole p.is_region;
      no_fault = λ w more e.
          no_fault_by w (rough_before text w more e (part_rough text b))
          (λ k. past_region k.frame k.body.x k.body.check k.region (true ∷ true ∷ []) text w more b e k.whole
          k.body.is_region)
          (λ k. past_region k.frame k.body.x k.body.check k.region (true ∷ k.ack ∷ true ∷ []) text w more b e k.whole
          k.body.is_region);
    }

pub tail_undecided : (f : FrameValue) (right : Bool) (seen : ℕ) (text : List Bool) → InTail f right seen text →
    IsUndecided text
tail_undecided f right seen text h = record {
  no_front = λ g w more e k. no_front_before f g right seen text w more h e k;
  no_fault = λ w more e.
      no_fault_by w (rough_before text w more e (begins_rough f right seen text h))
      (no_ack_before f right seen text w more h e) (no_crc_before f right seen text w more h e);
}
