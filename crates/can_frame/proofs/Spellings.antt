-- Spellings are unique.
use Rattle.std.proofs.Common.{◌≡◌, ◌≤◌, Bool, List, ◌++◌, sym, ap, subst, ◌∙◌, true, [], ◌∷◌, replicate, append_assoc}
use Rattle.can_frame.specs.Frames.{FrameValue, IsFrameValue}
use Rattle.can_frame.specs.Fields.{Unchecked, fields}
use Rattle.can_frame.specs.Stuffing.{Stuffs}
use Rattle.can_frame.specs.Spelling.{Spells, tail_levels}
use Rattle.can_frame.specs.Fronts.{IsRegion}
use Rattle.can_frame.specs.FrontLaws.{OneSpelling, OneFrame, SlotStandsAlone}
use Rattle.can_frame.proofs.OneCheck.{one_crc}
use Rattle.can_frame.proofs.OneStuffing.{one_stuffed}
use Rattle.can_frame.proofs.Regions.{region_frame}
use Rattle.can_frame.proofs.Tails.{tails_same}

pub one_spelling : OneSpelling
one_spelling f x ack v w h k =
    let check = one_crc (fields f x) h.check k.check h.is_crc k.is_crc in
    let stuffs : Stuffs h.stuffed (fields f x ++ k.check) =
    subst (λ c. Stuffs h.stuffed (fields f x ++ c)) check h.is_stuffed in
    h.whole ∙ ap (λ s. s ++ tail_levels ack)
    (one_stuffed h.stuffed k.stuffed (fields f x ++ k.check) stuffs k.is_stuffed) ∙ sym k.whole

-- the stuffed region of a spelling
pub spelled_region : (f : FrameValue) (x : Unchecked) (a : Bool) (w : List Bool) → IsFrameValue f → x.over ≤ 7 →
    (h : Spells f x a w) → IsRegion f x h.check h.stuffed
spelled_region f x a w frame over h = record { frame = frame; over = over; fifteen = h.is_crc.0; stuffs = h.is_stuffed }

slot_is : (a b : Bool) → tail_levels a ≡ tail_levels b → a ≡ b
slot_is a b e = cc

pub one_frame : OneFrame
one_frame f g x y a b w hf hg hx hy h k =
    let p = spelled_region f x a w hf hx h in
    let q = spelled_region g y b w hg hy k in
    let both = tails_same f g x y h.check k.check h.stuffed k.stuffed (tail_levels a) (tail_levels b) p q
    (sym h.whole ∙ k.whole) in
    (region_frame f g x y h.check k.check k.stuffed (subst (IsRegion f x h.check) both.0 p) q, slot_is a b both.1)

pub slot_stands_alone : SlotStandsAlone
slot_stands_alone f x a b w h =
    let before = h.stuffed ++ true ∷ [] in
    let split : (c : Bool) → h.stuffed ++ tail_levels c ≡ before ++ c ∷ replicate 8 true =
    λ c. sym (append_assoc h.stuffed (true ∷ []) (c ∷ replicate 8 true)) in (
      before,
      h.whole ∙ split a,
      record {
        check = h.check;
        is_crc = h.is_crc;
        stuffed = h.stuffed;
        is_stuffed = h.is_stuffed;
        whole = sym (split b);
      },
    )
