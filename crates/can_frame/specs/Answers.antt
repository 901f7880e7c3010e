-- What a reader answers, by the text that it stood after and the level that was pushed. Bosch CAN
-- Specification 2.0, part B, 7.1 Error Detection.
use Rattle.std.specs.Prelude.{◌≡◌, ◌⊎◌, Bool, true, false, List, [], ◌∷◌, ◌++◌, reverse}
use Rattle.can_frame.specs.Frames.{FrameValue}
use Rattle.can_frame.specs.Fields.{Unchecked, fields}
use Rattle.can_frame.specs.Crc.{IsCrc}
use Rattle.can_frame.specs.Stuffing.{five_equal, newest}
use Rattle.can_frame.specs.Fronts.{IsRegion, IsFront, BeginsRough, BeginsRegion}
use Rattle.can_frame.specs.declared.step.FaultKind.{FaultKind}
use Rattle.can_frame.specs.declared.step.FaultKind.TheVariants.{Stuff, Form, Ack, Crc}
use Rattle.can_frame.specs.declared.step.Step.{Step}
use Rattle.can_frame.specs.declared.step.Step.TheVariants.{More, StuffBit, Body, Tail, Taken, Fault}

-- w is a stuffed region of f, and its fifteen levels are the CRC just where `right` is true
pub record IsBody (f : FrameValue) (right : Bool) (w : List Bool) : Type 0 where
  pub x : Unchecked
  pub check : List Bool
  pub is_region : IsRegion f x check w
  pub is_right : right ≡ true → IsCrc (fields f x) check
  pub is_wrong : right ≡ false → IsCrc (fields f x) check → ⊥

-- a recessive ACK slot after a right CRC
pub record IsAckFault (w : List Bool) : Type 0 where
  pub frame : FrameValue
  pub region : List Bool
  pub body : IsBody frame true region
  pub whole : w ≡ region ++ true ∷ true ∷ []

-- a recessive ACK delimiter after a wrong CRC
pub record IsCrcFault (w : List Bool) : Type 0 where
  pub frame : FrameValue
  pub region : List Bool
  pub body : IsBody frame false region
  pub ack : Bool
  pub whole : w ≡ region ++ true ∷ ack ∷ true ∷ []

-- w is no text that a receiver goes on with: it begins no rough front, or ends in a recessive ACK slot
-- after a right CRC, or in a recessive ACK delimiter after a wrong one
abbrev pub IsFaulty : List Bool → Type 0
IsFaulty w = (BeginsRough w → ⊥) ⊎ (IsAckFault w ⊎ IsCrcFault w)

-- no beginning of the text is a front or faulty, so a receiver is still reading
pub record IsUndecided (text : List Bool) : Type 0 where
  pub no_front : (f : FrameValue) (w more : List Bool) → text ≡ w ++ more → IsFront f w → ⊥
  pub no_fault : (w more : List Bool) → text ≡ w ++ more → IsFaulty w → ⊥

-- w goes past a stuffed region and begins a rough front, and it is no front and none of those faults
pub record IsBehindBody (w : List Bool) : Type 0 where
  pub frame : FrameValue
  pub x : Unchecked
  pub check : List Bool
  pub region : List Bool
  pub first : Bool
  pub others : List Bool
  pub is_region : IsRegion frame x check region
  pub whole : w ≡ region ++ first ∷ others
  pub begins : BeginsRough w
  pub no_front : (g : FrameValue) → IsFront g w → ⊥
  pub no_ack_fault : IsAckFault w → ⊥
  pub no_crc_fault : IsCrcFault w → ⊥

-- Where each fault comes. Stuff: a sixth equal level in the stuffed region. Form: no rough front goes on with
-- the level, and it is not in the place of a stuff bit. Ack and Crc: as above.
abbrev pub FaultAnswers : FaultKind → List Bool → Bool → Type 0
FaultAnswers Stuff text level = BeginsRegion text × (five_equal (reverse text) ≡ true)
    × (level ≡ newest (reverse text)) × (BeginsRough (text ++ level ∷ []) → ⊥)
FaultAnswers Form text level = (BeginsRough (text ++ level ∷ []) → ⊥)
    × (BeginsRegion text → five_equal (reverse text) ≡ true → ⊥)
FaultAnswers Ack text level = IsAckFault (text ++ level ∷ [])
FaultAnswers Crc text level = IsCrcFault (text ++ level ∷ [])

-- Where each answer comes. More and StuffBit: in the stuffed region, before its last level, which a stuff bit
-- is not and is. Body: at its last level. Tail: behind it. Taken: at the end of a front.
abbrev pub Answers : Step → List Bool → Bool → Type 0
Answers More text level = BeginsRegion (text ++ level ∷ []) × (five_equal (reverse text) ≡ false)
Answers StuffBit text level = BeginsRegion (text ++ level ∷ []) × (five_equal (reverse text) ≡ true)
Answers (Body frame right) text level = IsBody frame right (text ++ level ∷ [])
Answers Tail text level = IsBehindBody (text ++ level ∷ [])
Answers (Taken frame) text level = IsFront frame (text ++ level ∷ [])
Answers (Fault kind) text level = FaultAnswers kind text level

-- Taken and Fault are last answers
abbrev pub IsLast : Step → Type 0
IsLast More = ⊥
IsLast StuffBit = ⊥
IsLast (Body frame right) = ⊥
IsLast Tail = ⊥
IsLast (Taken frame) = Unit {0}
IsLast (Fault kind) = Unit {0}
