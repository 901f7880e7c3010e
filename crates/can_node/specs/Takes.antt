-- A receiver's reading of a frame: what it drives and counts meanwhile, and where it meets an error. Bosch
-- CAN Specification 2.0, part B, 3.2.1 DATA FRAME, ACK FIELD, 5 MESSAGE VALIDATION and 7 ERROR HANDLING.
use Rattle.std.specs.Prelude.{◌≡◌, Bool, true, false, List, [], ◌∷◌, ◌++◌}
use Rattle.can_frame.specs.Frames.{FrameValue}
use Rattle.can_frame.specs.Fronts.{BeginsRough}
use Rattle.can_frame.specs.Answers.{IsBody, IsUndecided, FaultAnswers}
use Rattle.can_frame.specs.declared.step.FaultKind.{FaultKind}
use Rattle.can_frame.specs.declared.step.FaultKind.TheVariants as fault
use Rattle.can_node.specs.Pairs.{Pair, listening, dominating}
use Rattle.can_node.specs.declared.outcome.ErrorKind.{ErrorKind}
use Rattle.can_node.specs.declared.outcome.ErrorKind.TheVariants.{Bit, Stuff, Form, Crc}
use Rattle.can_confinement.specs.declared.confinement.ErrorEvent.{ErrorEvent}
use Rattle.can_confinement.specs.declared.confinement.ErrorEvent.TheVariants.{Received}

-- a receiver reads on behind this text: frames begin with it, and it is neither a front, whose frame is
-- taken, nor an error
pub record IsReadOn (text : List Bool) : Type 0 where
  pub begins : BeginsRough text
  pub undecided : IsUndecided text

-- the bit behind this text is the ACK slot of a frame whose CRC is right
pub record IsBeforeSlot (text : List Bool) : Type 0 where
  pub frame : FrameValue
  pub region : List Bool
  pub body : IsBody frame true region
  pub whole : text ≡ region ++ true ∷ []

-- a dominant ACK slot counts as a frame received
abbrev pub acknowledged : Bool → List ErrorEvent
acknowledged false = Received ∷ []
acknowledged true = []

-- What a receiver drives while it samples these levels of a frame, of which the levels `given` were sampled
-- before, and what it counts: it drives recessive, and dominant in the ACK slot where the CRC is right.
pub data Reads (given : List Bool) : List Bool → List Pair → List ErrorEvent → Type 0 where
  no_slot : (levels : List Bool) → ((before more : List Bool) (slot : Bool) → levels ≡ before ++ slot ∷ more →
      IsBeforeSlot (given ++ before) → ⊥) →
      Reads given levels (listening levels) []
  with_slot : (before more : List Bool) (slot : Bool) → IsBeforeSlot (given ++ before) →
      Reads given (before ++ slot ∷ more) (listening before ++ dominating (slot ∷ []) ++ listening more)
      (acknowledged slot)

-- The name of a receiver's error. A recessive sample in the ACK slot that the receiver itself drives
-- dominant is a bit error.
abbrev pub name_of : FaultKind → ErrorKind
name_of fault.Stuff = Stuff
name_of fault.Form = Form
name_of fault.Ack = Bit
name_of fault.Crc = Crc

-- A receiver read on up to this text, and at the next level it meets its first error.
pub record IsFirstFault (kind : FaultKind) (text : List Bool) (level : Bool) : Type 0 where
  pub read_on : IsReadOn text
  pub fault_is : FaultAnswers kind text level
