-- What the faults of a plan do from a bit on.
use Rattle.std.specs.Prelude.{◌≡◌, ℕ, ◌<◌, ◌≤◌, Bool, Option, None, Some, List, length, map, vec_capacity}
use Rattle.can_station.specs.Faults.{line_level, is_inverted, sampled_level}
use Rattle.can_station.specs.declared.current_faults.CurrentFaults.{CurrentFaults}
use Rattle.can_station.specs.FaultWindows.{IsWindow}
use Rattle.can_station.specs.declared.fault_window.BitRange.{BitRange}
use Rattle.can_station.specs.declared.plan.LineFault.{LineFault}
use Rattle.can_station.specs.declared.plan.NodeFault.{NodeFault}
use Rattle.can_station.specs.declared.plan.SegmentPlan.{SegmentPlan}

-- the greatest number of a bit, which no run reaches
abbrev pub last_bit : ℕ
last_bit = 18446744073709551615

-- the level of a line that the nodes drive to this one, and that a fault may set
abbrev pub level_by : Option Bool → Bool → Bool
level_by None driven = driven
level_by (Some level) driven = level

-- at the bits from one on and before another these faults set the line to this level, or none
abbrev pub SetsLine : List LineFault → ℕ → ℕ → Option Bool → Type 0
SetsLine faults from until level = (bit : ℕ) (driven : Bool) → from ≤ bit → bit < until →
    line_level faults bit driven ≡ level_by level driven

-- there those faults invert the samples of the same nodes as these
abbrev pub InvertsSame : List NodeFault → ℕ → ℕ → List NodeFault → Type 0
InvertsSame faults from until here = (bit node : ℕ) → from ≤ bit → bit < until →
    is_inverted here node bit ≡ is_inverted faults node bit

-- the ranges of bits at which faults stand
abbrev pub line_range : LineFault → BitRange
line_range fault = record { bit = fault.bit; until = fault.until }

abbrev pub node_range : NodeFault → BitRange
node_range fault = record { bit = fault.bit; until = fault.until }

-- there is room for a fault of each node, and the windows are those of the lists at this bit
pub record IsReady (bit : ℕ) (faults : CurrentFaults) : Type 0 where
  pub room : length faults.nodes.items ≤ vec_capacity faults.here
  pub line : IsWindow bit faults.line_window
  pub nodes : IsWindow bit faults.node_window
  pub line_ranges : faults.line_window.ranges.items ≡ map line_range faults.line.items
  pub node_ranges : faults.node_window.ranges.items ≡ map node_range faults.nodes.items

-- they are the faults of this plan, and this is the current bit
pub record IsCurrent (plan : SegmentPlan) (bit : ℕ) (faults : CurrentFaults) : Type 0 where
  pub ready : IsReady bit faults
  pub line_is : faults.line.items ≡ plan.line_faults.items
  pub nodes_are : faults.nodes.items ≡ plan.node_faults.items
  pub level : SetsLine plan.line_faults.items bit faults.until faults.level
  pub here : InvertsSame plan.node_faults.items bit faults.until faults.here.items
  pub later : bit < last_bit → bit < faults.until

-- no fault of a plan stands at this bit
pub record IsFaultless (plan : SegmentPlan) (bit : ℕ) : Type 0 where
  pub line : (driven : Bool) → line_level plan.line_faults.items bit driven ≡ driven
  pub nodes : (node : ℕ) (level : Bool) → sampled_level plan.node_faults.items node bit level ≡ level
