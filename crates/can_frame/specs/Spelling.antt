-- A frame on the bus, from SOF to the last bit of EOF: Bosch CAN Specification 2.0, part B, 3.2.1 DATA FRAME
-- and 6 CODING. Stuffed are the fields and the CRC sequence; the rest is of fixed form.
use Rattle.std.specs.Prelude.{◌≡◌, Bool, true, List, ◌∷◌, ◌++◌, replicate}
use Rattle.can_frame.specs.Frames.{FrameValue}
use Rattle.can_frame.specs.Fields.{Unchecked, fields}
use Rattle.can_frame.specs.Crc.{IsCrc}
use Rattle.can_frame.specs.Stuffing.{Stuffs}

-- CRC delimiter, ACK slot, ACK delimiter and the seven bits of EOF
abbrev pub tail_levels : Bool → List Bool
tail_levels ack = true ∷ ack ∷ true ∷ replicate 7 true

-- w spells the frame f: a stuffing of its fields and their CRC sequence, and then the rest, with x where a
-- receiver does not check and this level in the ACK slot
pub record Spells (f : FrameValue) (x : Unchecked) (ack : Bool) (w : List Bool) : Type 0 where
  pub check : List Bool
  pub is_crc : IsCrc (fields f x) check
  pub stuffed : List Bool
  pub is_stuffed : Stuffs stuffed (fields f x ++ check)
  pub whole : w ≡ stuffed ++ tail_levels ack
