-- Laws of the definitions alone.
use Rattle.std.specs.Prelude.{◌≡◌, ◌≤◌, Bool, true, false, List, [], ◌∷◌, ◌++◌, replicate}
use Rattle.can_frame.specs.Frames.{FrameValue, IsFrameValue}
use Rattle.can_frame.specs.Fields.{Unchecked}
use Rattle.can_frame.specs.Crc.{IsCrc}
use Rattle.can_frame.specs.Stuffing.{Stuffs}
use Rattle.can_frame.specs.Spelling.{Spells}
use Rattle.can_frame.specs.Fronts.{IsFront}

-- no front begins another, and a front is of one frame
abbrev pub NoFrontBeginsAnother : Type 0
NoFrontBeginsAnother = (f g : FrameValue) (w more : List Bool) → IsFront f w → IsFront g (w ++ more) → (more ≡ [])
    × (f ≡ g)

-- no front has six dominant levels in a row
abbrev pub NoFrontHasSixDominant : Type 0
NoFrontHasSixDominant = (f : FrameValue) (before after : List Bool) →
    IsFront f (before ++ replicate 6 false ++ after) → ⊥

-- no front ends in a dominant level
abbrev pub NoFrontEndsDominant : Type 0
NoFrontEndsDominant = (f : FrameValue) (w : List Bool) → IsFront f (w ++ false ∷ []) → ⊥

-- a text has one CRC, and stuffing goes one way and back
abbrev pub OneCheck : Type 0
OneCheck = (text c d : List Bool) → IsCrc text c → IsCrc text d → c ≡ d

abbrev pub OneStuffing : Type 0
OneStuffing = (v w u : List Bool) → Stuffs v u → Stuffs w u → v ≡ w

abbrev pub OneText : Type 0
OneText = (w u v : List Bool) → Stuffs w u → Stuffs w v → u ≡ v

-- a frame has one spelling, for the levels that a receiver does not check and the level of the ACK slot
abbrev pub OneSpelling : Type 0
OneSpelling = (f : FrameValue) (x : Unchecked) (ack : Bool) (v w : List Bool) → Spells f x ack v → Spells f x ack w →
    v ≡ w

-- a text spells one frame, with one level in the ACK slot
abbrev pub OneFrame : Type 0
OneFrame = (f g : FrameValue) (x y : Unchecked) (a b : Bool) (w : List Bool) → IsFrameValue f → IsFrameValue g →
    x.over ≤ 7 → y.over ≤ 7 →
    Spells f x a w → Spells g y b w → (f ≡ g) × (a ≡ b)

-- the ACK slot is the ninth level from the end, and with another level there a spelling is the one with that level
abbrev pub SlotStandsAlone : Type 0
SlotStandsAlone = (f : FrameValue) (x : Unchecked) (a b : Bool) (w : List Bool) → Spells f x a w →
    (before : List Bool) × (w ≡ before ++ a ∷ replicate 8 true) × Spells f x b (before ++ b ∷ replicate 8 true)
