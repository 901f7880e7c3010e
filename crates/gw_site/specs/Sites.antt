-- A segment of a run and the controllers on it, whatever their ports are: what a port may have done, what is on the
-- bus, what its sink may have been offered, and what no call of a segment changes are given by these words.
use Rattle.std.specs.Prelude.{◌≡◌, ℕ, ◌+◌, ◌≤◌, Option, Some, List, [], length, slice_get}
use Rattle.can_frame.specs.Frames.{FrameValue}
use Rattle.bx_core.specs.TxBus.{Item, BusPast, BusCall, no_bus_past}
use Rattle.can_segment.specs.Brought.{kinds_of, all_in, taken_in, grown, StartsUndone}
use Rattle.can_segment.specs.UneventfulBits.{MakeUneventfulBits}
use Rattle.can_segment.specs.Segments.{SegmentValue, Fit, MakesBit}
use Rattle.gw_site.specs.declared.site.Site.{Site}

-- the controller of this node did what the record tells of it, and was offered what the record tells that it took; it
-- began nothing that was over
pub record PortHolds {P : Type 0} (after : P → BusPast → Type 0) (sink : P → List FrameValue → Type 0) (node : ℕ)
    (segment : SegmentValue) (port : P) : Type 0 where
  pub bus : after port (grown no_bus_past (kinds_of node segment.events))
  pub taken : sink port (all_in taken_in (kinds_of node segment.events))
  pub once : StartsUndone no_bus_past (kinds_of node segment.events)
  pub few : length (all_in taken_in (kinds_of node segment.events)) ≤ length segment.levels

-- so did each controller of the segment
pub record SiteHolds {P : Type 0} (after : P → BusPast → Type 0) (transmitting : P → Option Item)
    (sink : P → List FrameValue → Type 0) (segment : SegmentValue) (ports : List P) : Type 0 where
  pub fit : Fit transmitting segment ports
  pub each : (k : ℕ) (port : P) → slice_get ports k ≡ Some port →
      PortHolds after sink (length segment.plan.talkers.items + k) segment port

-- of each port there is left what no call of a segment changes
pub record PortsLeave {P : Type 0} (stays : P → P → Type 0) (old new : List P) : Type 0 where
  pub at : (k : ℕ) (a b : P) → slice_get old k ≡ Some a → slice_get new k ≡ Some b → stays a b
  pub size : length new ≡ length old

-- A segment made one bit, at which each port was asked and reported what the bit asks for and tells, and after it bits that
-- need no port, or none.
pub record MakesOneAndQuiet {P : Type 0} (after : P → BusPast → Type 0) (asked : P → List BusCall → Type 0)
    (transmitting : P → Option Item) (sink : P → List FrameValue → Type 0) (stays : P → P → Type 0)
    (old new : SegmentValue) (from to : List P) : Type 0 where
  pub after_one : SegmentValue
  pub one : MakesBit after asked transmitting sink stays old after_one from to
  pub quiet : MakeUneventfulBits after_one new

-- before the first of so many bits
pub record IsNewSegment {P : Type 0} (after : P → BusPast → Type 0) (transmitting : P → Option Item)
    (sink : P → List FrameValue → Type 0) (bits : ℕ) (segment : SegmentValue) (ports : List P) : Type 0 where
  pub holds : SiteHolds after transmitting sink segment ports
  pub no_levels : segment.levels ≡ []
  pub bits_is : segment.plan.bits ≡ bits

abbrev pub IsNewSite : {P : Type 0} (after : P → BusPast → Type 0) (transmitting : P → Option Item)
    (sink : P → List FrameValue → Type 0) (bits : ℕ) → Site P → Type 0
IsNewSite after transmitting sink bits site = IsNewSegment after transmitting sink bits site.segment site.ports.items

-- a segment made all its bits
pub record SegmentRuns {P : Type 0} (after : P → BusPast → Type 0) (transmitting : P → Option Item)
    (sink : P → List FrameValue → Type 0) (stays : P → P → Type 0)
    (old new : SegmentValue) (from to : List P) : Type 0 where
  pub holds : SiteHolds after transmitting sink new to
  pub plan_is : new.plan ≡ old.plan
  pub made : length new.levels ≡ old.plan.bits
  pub ports : PortsLeave stays from to

abbrev pub SiteRuns : {P : Type 0} (after : P → BusPast → Type 0) (transmitting : P → Option Item)
    (sink : P → List FrameValue → Type 0) (stays : P → P → Type 0) → Site P → Site P → Type 0
SiteRuns after transmitting sink stays old new =
    SegmentRuns after transmitting sink stays old.segment new.segment old.ports.items new.ports.items
