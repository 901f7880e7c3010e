-- Fronts: what a receiver has read of a frame when it takes it. A frame is valid for a receiver if there is
-- no error until the last but one bit of EOF: Bosch CAN Specification 2.0, part B, 5 MESSAGE VALIDATION.
use Rattle.std.specs.Prelude.{◌≡◌, ◌≤◌, Bool, true, false, List, [], ◌∷◌, ◌++◌, length, replicate}
use Rattle.can_frame.specs.Frames.{FrameValue, IsFrameValue}
use Rattle.can_frame.specs.Fields.{Unchecked, fields}
use Rattle.can_frame.specs.Stuffing.{Stuffs}
use Rattle.can_frame.specs.Spelling.{Spells}

-- w is the stuffed region of the frame f with these fifteen levels in the place of its CRC
pub record IsRegion (f : FrameValue) (x : Unchecked) (check : List Bool) (w : List Bool) : Type 0 where
  pub frame : IsFrameValue f
  pub over : x.over ≤ 7
  pub fifteen : length check ≡ 15
  pub stuffs : Stuffs w (fields f x ++ check)

-- CRC delimiter, ACK slot, ACK delimiter and the first six bits of EOF
abbrev pub front_tail : Bool → List Bool
front_tail ack = true ∷ ack ∷ true ∷ replicate 6 true

-- w is a front of f: a spelling with a dominant ACK slot, without the last bit of EOF
pub record IsFront (f : FrameValue) (w : List Bool) : Type 0 where
  pub frame : IsFrameValue f
  pub x : Unchecked
  pub over : x.over ≤ 7
  pub spells : Spells f x false (w ++ true ∷ [])

-- w is a rough front of f: the same with any fifteen levels for the CRC, and any level in the ACK slot
pub record IsRoughFront (f : FrameValue) (w : List Bool) : Type 0 where
  pub x : Unchecked
  pub check : List Bool
  pub ack : Bool
  pub region : List Bool
  pub is_region : IsRegion f x check region
  pub whole : w ≡ region ++ front_tail ack

-- w is the beginning of a rough front
pub record BeginsRough (w : List Bool) : Type 0 where
  pub rest : List Bool
  pub frame : FrameValue
  pub is_rough : IsRoughFront frame (w ++ rest)

-- w is the beginning of a stuffed region, and not the whole of it
pub record BeginsRegion (w : List Bool) : Type 0 where
  pub frame : FrameValue
  pub x : Unchecked
  pub check : List Bool
  pub more : List Bool
  pub not_whole : more ≡ [] → ⊥
  pub is_region : IsRegion frame x check (w ++ more)
