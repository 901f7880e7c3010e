-- A reader that is pushed one level after another.
use Rattle.std.specs.Prelude.{◌≡◌, ◌≤◌, All, Bool, true, false, List, [], ◌∷◌, ◌++◌}
use Rattle.can_frame.specs.Frames.{FrameValue, IsFrameValue}
use Rattle.can_frame.specs.Fields.{Unchecked}
use Rattle.can_frame.specs.Spelling.{Spells}
use Rattle.can_frame.specs.Reading.{StandsAfter, IsReading, HasTaken, IsPush}
use Rattle.can_frame.specs.declared.step.Step.{Step}
use Rattle.can_frame.specs.declared.step.Step.TheVariants.{More, StuffBit, Body, Tail, Taken, Fault}
use Rattle.can_frame.specs.declared.reader.Reader.{Reader}

-- the levels of the text are pushed in turn, each with the answer at its place
abbrev pub IsRun : Reader → List Bool → List Step → Reader → Type 0
IsRun old [] [] new = old ≡ new
IsRun old (level ∷ text) (step ∷ steps) new = (between : Reader) × IsPush old level step between
    × IsRun between text steps new
IsRun old [] (step ∷ steps) new = ⊥
IsRun old (level ∷ text) [] new = ⊥

-- an answer on the way to a frame that is taken
abbrev pub LeadsTo : FrameValue → Step → Type 0
LeadsTo f More = Unit {0}
LeadsTo f StuffBit = Unit {0}
LeadsTo f (Body g right) = (g ≡ f) × (right ≡ true)
LeadsTo f Tail = Unit {0}
LeadsTo f (Taken g) = ⊥
LeadsTo f (Fault kind) = ⊥

-- The way back: a new reader that is pushed a spelling of a frame, its ACK slot dominant, takes that
-- frame at the last but one level, and the last one changes nothing.
abbrev pub SpellingsAreTaken : Type 0
SpellingsAreTaken = (old new : Reader) (f : FrameValue) (x : Unchecked) (w : List Bool) (steps : List Step) →
    StandsAfter old [] → IsReading old →
    IsFrameValue f → x.over ≤ 7 → Spells f x false w → IsRun old w steps new →
    (before : List Step) × All (LeadsTo f) before × (steps ≡ before ++ Taken f ∷ Taken f ∷ []) × HasTaken new f
