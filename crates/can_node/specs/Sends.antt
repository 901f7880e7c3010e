-- A sender's frame on the bus, and where in it arbitration takes place. Bosch CAN Specification 2.0, part B,
-- 3.2.1 DATA FRAME, ARBITRATION FIELD and ACK FIELD, and 6 CODING.
use Rattle.std.specs.Prelude.{◌≡◌, ◌≤◌, Bool, true, false, List, ◌∷◌, ◌++◌, length, reverse}
use Rattle.can_frame.specs.Frames.{FrameValue}
use Rattle.can_frame.specs.Fields.{senders_choice}
use Rattle.can_frame.specs.Stuffing.{five_equal, unstuffed}
use Rattle.can_frame.specs.Spelling.{Spells}
use Rattle.can_frame.specs.Sending.{rtr_place}

-- A sender of this frame, of which the levels `given` stood on the bus before it began to drive: it drives
-- the rest of the spelling, with a recessive ACK slot, and if nothing goes wrong it samples the same levels,
-- with a dominant ACK slot.
pub record IsSend (frame : FrameValue) (given driven sampled : List Bool) : Type 0 where
  pub drives : Spells frame senders_choice true (given ++ driven)
  pub samples : Spells frame senders_choice false (given ++ sampled)

-- A bit of such a sender: it has driven `before` and sampled `seen`, drives `driven` now and samples
-- `expected` if nothing goes wrong.
pub record IsSendBit (frame : FrameValue) (given before seen : List Bool) (driven expected : Bool) : Type 0 where
  pub later : List Bool
  pub later_seen : List Bool
  pub send : IsSend frame given (before ++ driven ∷ later) (seen ++ expected ∷ later_seen)
  pub same_place : length before ≡ length seen

-- The bit behind this text is one of the arbitration field, from the first identifier bit to RTR, and no
-- stuff bit. SOF is none of them.
pub record IsArbitration (frame : FrameValue) (text : List Bool) : Type 0 where
  pub no_stuff_bit : five_equal (reverse text) ≡ false
  pub after_sof : 1 ≤ length (unstuffed (reverse text))
  pub up_to_rtr : length (unstuffed (reverse text)) ≤ rtr_place frame.id

-- the bit behind this text is a stuff bit that stands before RTR
pub record IsArbitrationStuffBit (frame : FrameValue) (text : List Bool) : Type 0 where
  pub stuff_bit : five_equal (reverse text) ≡ true
  pub before_rtr : length (unstuffed (reverse text)) ≤ rtr_place frame.id
