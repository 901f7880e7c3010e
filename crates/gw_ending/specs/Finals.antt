-- A run after its last bit, whose mailboxes are closed.
use Rattle.std.specs.Prelude.{◌≡◌, ℕ, ◌+◌, ◌≤◌, Some, List, length, map, slice_get}
use Rattle.bx_core.specs.RouteTx.{RoutePast}
use Rattle.bx_core.specs.Stands.{entries_of}
use Rattle.bx_core.specs.Ties.{RouteTied, NothingOf, left_of}
use Rattle.bx_core.specs.TxBus.{no_bus_past}
use Rattle.can_segment.specs.Brought.{StartsUndone, kinds_of, all_in, sent_in, taken_in, grown}
use Rattle.can_segment.specs.Copies.{Copies}
use Rattle.can_segment.specs.Queues.{KeepsQueues}
use Rattle.can_segment.specs.Runs.{IsRun}
use Rattle.can_segment.specs.Segments.{IsRecordOf}
use Rattle.can_station.specs.declared.event.Event.{Event}
use Rattle.can_station.specs.declared.event.EventKind.{EventKind}
use Rattle.can_segment.specs.declared.record.Record.{Record}
use Rattle.bx_controller.specs.Intakes.{IntakeStands}
use Rattle.bx_controller.specs.Ports.{SinkStands}
use Rattle.bx_controller.specs.declared.intake.Intake.{Intake}
use Rattle.gw_route.specs.RouteHand.{hand_value, LogMatches, LogsReleased}
use Rattle.gw_config.specs.Controllers.{ControllerValue}
use Rattle.gw_config.specs.Nodes.{controller_places, route_places}
use Rattle.gw_config.specs.Routes.{RouteValue}
use Rattle.gw_config.specs.Scripts.{ScriptValue}
use Rattle.gw_script.specs.declared.route_report.RouteReport.{RouteReport}
use Rattle.gw_site.specs.Pairs.{Pairs}
use Rattle.gw_opening.specs.Openings.{IsLaneOf, Takes, priority_of}
use Rattle.gw_opening.specs.Places.{IsAt, TakesFrom, slot_of}
use Rattle.gw_opening.specs.Plans.{IsPlanOf}
use Rattle.gw_opening.specs.declared.lane.Lane.{Lane}
use Rattle.gw_opening.specs.declared.place.Place.{Place}
use Rattle.gw_ending.specs.Ends.{IsEndOf}
use Rattle.gw_ending.specs.Ports.{Port, Site}

-- the port of a controller with these events over `bits` bits: its banks are the script's, its FIFOs were offered
-- what it took, it began nothing that was over, and nothing is reported or left of a number that no route has there
pub record IsDonePort (s : ScriptValue) (controller : ℕ) (tells : List EventKind) (bits : ℕ) (port : Port) : Type 0 where
  pub value : ControllerValue
  pub value_is : slice_get s.controllers controller ≡ Some value
  pub banks_is : port.banks ≡ value.banks
  pub taken : SinkStands port (all_in taken_in tells)
  pub once : StartsUndone no_bus_past tells
  pub few : length (all_in taken_in tells) ≤ bits
  pub unasked : (n : ℕ) → length (route_places s controller) ≤ n →
      NothingOf n (grown no_bus_past tells) port.mail.left.items

-- what is reported of the controller at a place of a segment
abbrev pub reported_at : Site → ℕ → List EventKind
reported_at site k = kinds_of (length site.segment.plan.talkers.items + k) site.segment.events

-- the segment at a place of the script, which made all its bits
pub record IsDoneSite (s : ScriptValue) (segment : ℕ) (site : Site) : Type 0 where
  pub plan_is : IsPlanOf s segment site.segment.plan
  pub made : length site.segment.levels ≡ s.bits
  pub ports : Pairs (λ k controller. IsDonePort s controller (reported_at site k) (length site.segment.levels))
      (controller_places s segment) site.ports.items

abbrev pub AreDoneSites : ScriptValue → List Site → Type 0
AreDoneSites s sites = Pairs (λ i segment. IsDoneSite s i) s.segments sites

-- What a route did of the mailboxes that it leads into: its hand matches it, and it is tied to what is reported of their
-- controller and to what is left in them.
pub record ClosesInto (s : ScriptValue) (sites : List Site) (route : RouteValue) (lane : Lane) : Type 0 where
  pub to : Port
  pub to_is : IsAt sites lane.target to
  pub value : ControllerValue
  pub value_is : slice_get s.controllers route.target ≡ Some value
  pub past : RoutePast
  pub matches : LogMatches (hand_value lane.hand) past
  pub tied : RouteTied (priority_of value) lane.number (grown no_bus_past (reported_at to_is.site lane.target.port)) past
      (left_of lane.number to.mail.left.items)

-- a route at the end
pub record IsDoneLane (s : ScriptValue) (sites : List Site) (k : ℕ) (route : RouteValue) (lane : Lane) : Type 0 where
  pub lane_is : IsLaneOf s k route lane
  pub log : LogsReleased (hand_value lane.hand)
  pub takes : Takes sites lane
  pub closes : ClosesInto s sites route lane

-- all of them
pub record IsOver (s : ScriptValue) (sites : List Site) (lanes : List Lane) : Type 0 where
  pub each_site : AreDoneSites s sites
  pub each_lane : Pairs (λ k route. IsDoneLane s sites k route) s.routes lanes

-- in no mailboxes more than so many requests wait
abbrev pub WaitAtMost : ℕ → List Site → Type 0
WaitAtMost room sites = (place : Place) (port : Port) → IsAt sites place port → length port.mail.left.items ≤ room

-- in front of the controllers on the segment of a place there are so many talkers
abbrev pub HasTalkers : List Site → Place → ℕ → Type 0
HasTalkers sites place talkers = (site : Site) → slice_get sites place.site ≡ Some site →
    length site.segment.plan.talkers.items ≡ talkers

-- the lines of all segments
abbrev pub lines_at : List Site → List (List Event)
lines_at sites = map (λ (site : Site). site.segment.events) sites

-- the FIFO that a route takes from was offered some frames
abbrev pub WasOffered : List Site → Lane → Type 0
WasOffered sites lane = (port : Port) (intake : Intake) → IsAt sites lane.source port →
    slot_of port lane.fifo ≡ Some intake → (offered : _) × IntakeStands intake offered

-- what a route left behind
pub record EndsLane (sites : List Site) (lane : Lane) (r : RouteReport) : Type 0 where
  pub from : Port
  pub from_is : IsAt sites lane.source from
  pub takes : TakesFrom lane from
  pub end_is : (to : Port) → IsAt sites lane.target to →
      IsEndOf r takes.intake (hand_value lane.hand) (left_of lane.number to.mail.left.items)
  pub completed_is : (to : Port) → (to_is : IsAt sites lane.target to) →
      r.completed.items ≡ entries_of lane.number (all_in sent_in (reported_at to_is.site lane.target.port))

-- how many turns each of these routes made
abbrev pub turns_made : List Lane → List ℕ
turns_made lanes = map (λ (lane : Lane). lane.hand.turns) lanes

-- how many turns each of these reports has
abbrev pub turns_reported : List RouteReport → List ℕ
turns_reported reports = map (λ (r : RouteReport). r.turns) reports

-- the record of a segment
pub record IsRecordAt (site : Site) (record_of : Record) : Type 0 where
  pub value : IsRecordOf site.segment record_of
  pub run : IsRun site.segment.plan record_of
  pub copies : Copies site.segment.plan record_of.levels.items record_of.events.items
  pub queues : KeepsQueues site.segment.plan record_of.events.items
