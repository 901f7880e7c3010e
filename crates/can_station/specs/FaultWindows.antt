-- Which faults of a list may stand at a bit: those of a part of the list.
use Rattle.std.specs.Prelude.{◌≡◌, ℕ, ◌<◌, ◌≤◌, Some, List, length, slice_get}
use Rattle.can_station.specs.declared.fault_window.BitRange.{BitRange}
use Rattle.can_station.specs.declared.fault_window.FaultWindow.{FaultWindow}

-- no range from a place on begins before the bit that is noted there
pub record IsEarliest (ranges : List BitRange) (earliest : List ℕ) : Type 0 where
  pub size : length earliest ≡ length ranges
  pub at : (k j least : ℕ) (range : BitRange) → k ≤ j → slice_get earliest k ≡ Some least →
      slice_get ranges j ≡ Some range → least ≤ range.bit

-- the window is a part of its list, and each fault before it is over at this bit
pub record IsWindow (bit : ℕ) (window : FaultWindow) : Type 0 where
  pub earliest : IsEarliest window.ranges.items window.earliest.items
  pub order : window.first ≤ window.next
  pub within : window.next ≤ length window.ranges.items
  pub over : (k : ℕ) (range : BitRange) → k < window.first → slice_get window.ranges.items k ≡ Some range →
      range.until ≤ bit

-- no fault after the window begins before this bit
abbrev pub AreBehind : ℕ → FaultWindow → Type 0
AreBehind limit window = (k : ℕ) (range : BitRange) → window.next ≤ k → slice_get window.ranges.items k ≡ Some range →
    limit ≤ range.bit
