-- A segment, as contracts see it.
use Rattle.std.specs.Prelude.{◌≡◌, ℕ, ◌+◌, ◌<◌, ◌≤◌, Bool, true, false, Option}
use Rattle.std.specs.Prelude.{Some, None, List, [], ◌∷◌, ◌++◌, length, map, slice_get}
use Rattle.std.specs.List.{slice_index_or}
use Rattle.can_frame.specs.Frames.{FrameValue}
use Rattle.bx_core.specs.TxBus.{Item, BusPast, BusCall}
use Rattle.can_node.specs.Histories.{Past}
use Rattle.can_node.specs.Node.{IsWanting}
use Rattle.can_confinement.specs.declared.counters.Counters.{Counters}
use Rattle.can_station.specs.declared.event.Event.{Event}
use Rattle.can_station.specs.declared.member.Member.{Member}
use Rattle.can_station.specs.declared.plan.Controller.{Controller}
use Rattle.can_station.specs.declared.plan.SegmentPlan.{SegmentPlan}
use Rattle.can_segment.specs.declared.record.Record.{Record}
use Rattle.can_segment.specs.Brought.{kinds_of, IsBrought}
use Rattle.can_segment.specs.Kept.{SegmentKept}
use Rattle.can_station.specs.Members.{wants_at, AreOf}
use Rattle.can_station.specs.Ports.{item_of}
use Rattle.can_segment.specs.Runs.{Run, Shows, firsts}
use Rattle.can_segment.specs.Traces.{Bit, past_of}

-- its plan, what it recorded so far, what each controller has on the bus, and whether it is on and wants to start at
-- the next bit; and a bit up to which its bus idles as long as no controller is given a request, if it is still to come
pub record SegmentValue : Type 0 where
  pub plan : SegmentPlan
  pub levels : List Bool
  pub events : List Event
  pub counters : List Counters
  pub sending : List (Option Item)
  pub wanting : List Bool
  pub idle_until : ℕ

-- whether this controller is on and wants to start at the next bit
abbrev pub wants_next : SegmentValue → ℕ → Bool
wants_next segment k = slice_index_or segment.wanting k false

-- whether a node that is on from a bit on wants to start at the next bit: one that is not on yet doesn't
pub record WantsBy (on made : ℕ) (past : Past) (wants : Bool) : Type 0 where
  pub off : made < on → wants ≡ false
  pub is_wanting : on ≤ made → IsWanting past wants

-- what a segment recorded is that of a run, behind which its controllers want to start so
pub record IsSoFar (segment : SegmentValue) : Type 0 where
  pub trace : List Bit
  pub run : Run segment.plan trace segment.levels segment.events
  pub size : length segment.counters ≡ length (firsts segment.plan)
  pub shows : Shows segment.plan trace segment.counters
  pub wanting : (k : ℕ) (controller : Controller) → slice_get segment.plan.controllers.items k ≡ Some controller →
      WantsBy controller.on (length trace) (past_of controller.on (length segment.plan.talkers.items + k) trace)
      (wants_next segment k)

-- a record of this plan shows what the segment recorded
pub record IsRecordOf (segment : SegmentValue) (record_of : Record) : Type 0 where
  pub levels_is : record_of.levels.items ≡ segment.levels
  pub events_is : record_of.events.items ≡ segment.events
  pub counters_is : record_of.counters.items ≡ segment.counters

-- there is a port for each controller, and it transmits what the segment has sending there
pub record Fit {P : Type 0} (transmitting : P → Option Item) (segment : SegmentValue) (ports : List P) : Type 0 where
  pub size : length ports ≡ length segment.sending
  pub transmits : (k : ℕ) (sends : Option Item) (p : P) → slice_get segment.sending k ≡ Some sends →
      slice_get ports k ≡ Some p → transmitting p ≡ sends

-- it makes one more bit: each port was brought what the new lines tell of its node
pub record MakesBit {P : Type 0} (after : P → BusPast → Type 0) (asked : P → List BusCall → Type 0)
    (transmitting : P → Option Item) (sink : P → List FrameValue → Type 0) (stays : P → P → Type 0)
    (old new : SegmentValue) (from to : List P) : Type 0 where
  pub level : Bool
  pub lines : List Event
  pub plan_is : new.plan ≡ old.plan
  pub levels_is : new.levels ≡ old.levels ++ level ∷ []
  pub events_is : new.events ≡ old.events ++ lines
  pub size : length to ≡ length from
  pub ports : (k : ℕ) (sends : Option Item) (p q : P) → slice_get new.sending k ≡ Some sends →
      slice_get from k ≡ Some p → slice_get to k ≡ Some q →
      IsBrought after asked transmitting sink stays (kinds_of (length old.plan.talkers.items + k) lines)
      (wants_next old k) sends p q

-- a segment of this plan before its first bit
pub record IsOpening (plan : SegmentPlan) (segment : SegmentValue) : Type 0 where
  pub plan_is : segment.plan ≡ plan
  pub no_levels : segment.levels ≡ []
  pub no_events : segment.events ≡ []
  pub one_each : length segment.sending ≡ length plan.controllers.items
  pub idle : (k : ℕ) (sends : Option Item) → slice_get segment.sending k ≡ Some sends → sends ≡ None

-- from this place on, counters show those of these nodes
abbrev pub AreFrom : ℕ → List Member → List Counters → Type 0
AreFrom first members counters = (k : ℕ) (member : Member) (shown : Counters) → slice_get members k ≡ Some member →
    slice_get counters (first + k) ≡ Some shown → AreOf member shown

-- the same of the deferred ones alone
abbrev pub AreFromDeferred : ℕ → List Member → List Counters → Type 0
AreFromDeferred first members counters =
    (k : ℕ) (member : Member) (shown : Counters) → member.is_deferred ≡ true → slice_get members k ≡ Some member →
    slice_get counters (first + k) ≡ Some shown → AreOf member shown

-- what stands in a segment between two bits, where these are recorded
pub record ListsHold (plan : SegmentPlan) (levels : List Bool) (events : List Event) (counters : List Counters)
    (talkers controllers : List Member) : Type 0 where
  pub kept : SegmentKept plan levels events talkers controllers
  pub few : length talkers + length controllers ≤ 64
  pub size : length counters ≡ length talkers + length controllers
  pub talkers_shown : AreFrom 0 talkers counters
  pub controllers_shown : AreFrom (length talkers) controllers counters

-- so with this record
abbrev pub SegmentHolds : SegmentPlan → Record → List Member → List Member → Type 0
SegmentHolds plan made = ListsHold plan made.levels.items made.events.items made.counters.items

-- the requests that these nodes have on the bus
abbrev pub sending_of_all : List Member → List (Option Item)
sending_of_all = map (λ member. item_of member.station.sending)

-- which of them are on and want to start at this bit
abbrev pub wanting_of_all : ℕ → List Member → List Bool
wanting_of_all bit = map (wants_at bit)

-- the record grows by a bit, and each port was brought what its lines tell
pub record Grows {P : Type 0} (after : P → BusPast → Type 0) (asked : P → List BusCall → Type 0)
    (transmitting : P → Option Item) (sink : P → List FrameValue → Type 0) (stays : P → P → Type 0)
    (plan : SegmentPlan) (old new : Record) (before behind : List Member) (from to : List P) : Type 0 where
  pub level : Bool
  pub lines : List Event
  pub levels_is : new.levels.items ≡ old.levels.items ++ level ∷ []
  pub events_is : new.events.items ≡ old.events.items ++ lines
  pub ports : (k : ℕ) (a m : Member) (p q : P) → slice_get before k ≡ Some a → slice_get behind k ≡ Some m →
      slice_get from k ≡ Some p → slice_get to k ≡ Some q →
      IsBrought after asked transmitting sink stays (kinds_of (length plan.talkers.items + k) lines)
      (wants_at (length old.levels.items) a) (item_of m.station.sending) p q
  pub size : length to ≡ length from
