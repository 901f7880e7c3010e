-- A frame as its sender drives it, and what a bit of it is. Bosch CAN Specification 2.0, part B, 3.2.1 DATA FRAME,
-- ARBITRATION FIELD and ACK FIELD.
use Rattle.std.specs.Prelude.{◌≡◌, ◌≢◌, ℕ, ◌+◌, ◌-◌, ◌≤◌, ◌<◌, min, Bool, true, false, List, [], ◌∷◌, length, reverse}
use Rattle.std.specs.Prelude.{get_or, if◌then◌else◌, nat_le, take}
use Rattle.can_frame.specs.Frames.{FrameValue, IsFrameValue, Identifier, standard, extended}
use Rattle.can_frame.specs.Fields.{senders_choice}
use Rattle.can_frame.specs.Stuffing.{five_equal, unstuffed}
use Rattle.can_frame.specs.LevelRuns.{EndsIn}
use Rattle.can_frame.specs.Spelling.{Spells}
use Rattle.can_frame.specs.declared.spelling.Spelling.{Spelling}
use Rattle.can_frame.specs.declared.spelling.SendBit.{SendBit}
use Rattle.can_frame.specs.declared.spelling.SendBit.TheVariants.{Arbitration, ArbitrationStuffBit, Other}
use Rattle.can_frame.specs.declared.spelling.Tally.{Tally}

-- The place of RTR among the bits of a frame without stuff bits, where SOF is at 0. It is the last bit of
-- the arbitration field: behind 11 identifier bits, or behind 11, SRR, IDE and 18.
abbrev pub rtr_place : Identifier → ℕ
rtr_place (standard n) = 12
rtr_place (extended n) = 32

-- the levels are those of this frame, and RTR has this place among them, stuff bits left out
pub record IsSpelling (frame : FrameValue) (spelling : Spelling) : Type 0 where
  pub is_frame : IsFrameValue frame
  pub few : length spelling.levels.items ≤ 160
  pub spells : Spells frame senders_choice true spelling.levels.items
  pub rtr_is : spelling.rtr ≡ rtr_place frame.id

-- the level in this place; behind the frame the bus is recessive
abbrev pub level_at : Spelling → ℕ → Bool
level_at spelling place = get_or spelling.levels.items place true

-- these levels stand from this place on, none of them in the ACK slot, and all before the last bit of EOF
abbrev pub StandAhead : Spelling → ℕ → List Bool → Type 0
StandAhead spelling place [] = Unit {0}
StandAhead spelling place (level ∷ levels) = (place + 9 ≢ length spelling.levels.items)
    × (place + 1 < length spelling.levels.items) × (level ≡ level_at spelling place)
    × StandAhead spelling (place + 1) levels

-- how many do at most: those before the ACK slot, or those behind it but the last bit of EOF
abbrev pub left_ahead : Spelling → ℕ → ℕ
left_ahead spelling place = if nat_le (place + 9) (length spelling.levels.items)
    then length spelling.levels.items - (place + 9) else length spelling.levels.items - (place + 1)

-- The sender goes on where the bit in this place has this level: in the ACK slot a dominant one, elsewhere the one that
-- it drives, but in the last bit of EOF, behind which the frame is sent.
pub data SendsOn (level : Bool) (spelling : Spelling) (place : ℕ) : Type 0 where
  acknowledged : place + 9 ≡ length spelling.levels.items → level ≡ false → SendsOn level spelling place
  echoed : (place + 9 ≡ length spelling.levels.items → ⊥) → (place + 1 ≡ length spelling.levels.items → ⊥) →
      level ≡ level_at spelling place → SendsOn level spelling place

-- how a text ends, which is given with its newest level first, and how many of its levels are no stuff bits, 255 or
-- more counting as 255
pub record Tallies (tally : Tally) (newest_first : List Bool) : Type 0 where
  pub ends : EndsIn newest_first tally.run
  pub data_is : tally.data ≡ min (length (unstuffed newest_first)) 255

-- what the bit behind a text is, which is given with its newest level first, where RTR has this place
abbrev pub SaysBit : SendBit → List Bool → ℕ → Type 0
SaysBit Arbitration text rtr = (five_equal text ≡ false) × (1 ≤ length (unstuffed text))
    × (length (unstuffed text) ≤ rtr)
SaysBit ArbitrationStuffBit text rtr = (five_equal text ≡ true) × (length (unstuffed text) ≤ rtr)
SaysBit Other text rtr = (five_equal text ≡ false → 1 ≤ length (unstuffed text) → length (unstuffed text) ≤ rtr → ⊥)
    × (five_equal text ≡ true → length (unstuffed text) ≤ rtr → ⊥)

-- what the bit in this place of a spelling is
abbrev pub IsBitAt : SendBit → Spelling → ℕ → Type 0
IsBitAt bit spelling place = place ≤ length spelling.levels.items → spelling.rtr ≤ 32 →
    SaysBit bit (reverse (take place spelling.levels.items)) spelling.rtr
