-- Bit stuffing: Bosch CAN Specification 2.0, part B, 6 CODING. A text that is read is kept here with its
-- newest level first, so that the five levels before a level are the head of the list.
use Rattle.std.specs.Prelude.{◌≡◌, Bool, true, false, not, ◌&&◌, List, [], ◌∷◌, reverse, if◌then◌else◌}
use Rattle.can_frame.specs.Crc.{add_level}

-- whether two levels are equal
abbrev pub same : Bool → Bool → Bool
same x y = not (add_level x y)

-- whether the five newest levels are there and equal
abbrev pub five_equal : List Bool → Bool
five_equal (a ∷ b ∷ c ∷ d ∷ e ∷ older) = same a b && same b c && same c d && same d e
five_equal _ = false

-- the newest level; of no text, recessive, as an idle bus is
abbrev pub newest : List Bool → Bool
newest [] = true
newest (x ∷ older) = x

-- each level after five equal ones, stuff bits counted, is their opposite: there is no stuff error
unfoldable pub IsStuffed : List Bool → Type 0
IsStuffed [] = Unit {0}
IsStuffed (x ∷ older) = (five_equal older ≡ true → x ≡ not (newest older)) × IsStuffed older

-- the text without its stuff bits, which are the levels that come after five equal ones
unfoldable pub unstuffed : List Bool → List Bool
unstuffed [] = []
unstuffed (x ∷ older) = if five_equal older then unstuffed older else (x ∷ unstuffed older)

-- w is u with its stuff bits, both in the order of the bus: each stuff bit is the opposite of the five
-- levels before it, none is missing at the end, and without them w is u
pub record Stuffs (w u : List Bool) : Type 0 where
  pub opposite : IsStuffed (reverse w)
  pub ended : five_equal (reverse w) ≡ false
  pub rest : unstuffed (reverse w) ≡ reverse u
