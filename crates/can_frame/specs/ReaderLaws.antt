-- Laws of the answers and of what a reader stands after.
use Rattle.std.specs.Prelude.{◌≡◌, Bool, List, [], ◌∷◌, ◌++◌}
use Rattle.can_frame.specs.Frames.{FrameValue}
use Rattle.can_frame.specs.Fronts.{IsFront}
use Rattle.can_frame.specs.Answers.{Answers, FaultAnswers, IsFaulty, IsUndecided}
use Rattle.can_frame.specs.Reading.{StandsAfter, IsReading, HasAnswered, HasTaken}
use Rattle.can_frame.specs.declared.step.FaultKind.{FaultKind}
use Rattle.can_frame.specs.declared.step.Step.{Step}
use Rattle.can_frame.specs.declared.step.Step.TheVariants.{Fault}
use Rattle.can_frame.specs.declared.reader.Reader.{Reader}

-- at most one answer fits a text and a level, so an answer that fits comes just where it fits
abbrev pub OneAnswer : Type 0
OneAnswer = (a b : Step) (text : List Bool) (level : Bool) → Answers a text level → Answers b text level → a ≡ b

-- a reader that is still reading stands after no front and no fault
abbrev pub ReadingIsUndecided : Type 0
ReadingIsUndecided = (reader : Reader) (text : List Bool) → StandsAfter reader text → IsReading reader →
    IsUndecided text

-- a reader that stands after a front has taken its frame
abbrev pub FrontsAreTaken : Type 0
FrontsAreTaken = (reader : Reader) (text : List Bool) (f : FrameValue) → StandsAfter reader text → IsFront f text →
    HasTaken reader f

-- one that has taken a frame stands after a front of it and what came since
abbrev pub TakenAreFronts : Type 0
TakenAreFronts = (reader : Reader) (text : List Bool) (f : FrameValue) → StandsAfter reader text → HasTaken reader f
    → (front : List Bool) × (more : List Bool) × IsFront f front × (text ≡ front ++ more)

-- a reader that stands after the first fault of a text has answered with a fault that fits there
abbrev pub FirstFaultsAreAnswered : Type 0
FirstFaultsAreAnswered = (reader : Reader) (before : List Bool) (level : Bool) (more : List Bool) →
    StandsAfter reader ((before ++ level ∷ []) ++ more) →
    IsUndecided before → IsFaulty (before ++ level ∷ []) → (kind : FaultKind) × FaultAnswers kind before level
    × HasAnswered reader (Fault kind)

-- one that has answered with a fault stands after the first fault and what came since
abbrev pub AnsweredFaultsAreFirst : Type 0
AnsweredFaultsAreFirst = (reader : Reader) (text : List Bool) (kind : FaultKind) → StandsAfter reader text →
    HasAnswered reader (Fault kind) →
    (before : List Bool) × (level : Bool) × (more : List Bool) × (text ≡ (before ++ level ∷ []) ++ more)
    × IsUndecided before × FaultAnswers kind before level
