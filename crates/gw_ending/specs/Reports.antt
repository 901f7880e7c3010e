-- What a report says of a run of its script: of each segment what it did, and of each route what became of its frames.
use Rattle.std.specs.Prelude.{◌≡◌, ◌≢◌, ℕ, ◌+◌, ◌<◌, Some, List, length, map, slice_get, AllPairs}
use Rattle.can_frame.specs.Frames.{FrameValue}
use Rattle.bx_core.specs.declared.entry.Entry.{Entry}
use Rattle.bx_core.specs.Lists.{Each, Has}
use Rattle.bx_core.specs.TxBus.{no_bus_past}
use Rattle.bx_core.specs.States.{numbers}
use Rattle.bx_core.specs.Stands.{entries_of, numbers_of}
use Rattle.can_station.specs.declared.event.Event.{Event}
use Rattle.can_station.specs.declared.event.EventKind.{EventKind}
use Rattle.can_station.specs.declared.plan.SegmentPlan.{SegmentPlan}
use Rattle.can_segment.specs.declared.record.Record.{Record}
use Rattle.can_segment.specs.Brought.{StartsUndone, kinds_of, all_in, start_in, sent_in, reaped_in, taken_in}
use Rattle.can_segment.specs.Attempts.{RequestsTryFailures}
use Rattle.can_segment.specs.Copies.{Copies}
use Rattle.can_segment.specs.Queues.{KeepsQueues}
use Rattle.can_segment.specs.Runs.{IsRun, Run}
use Rattle.can_segment.specs.Traces.{Bit}
use Rattle.gw_script.specs.declared.report.Report.{Report}
use Rattle.gw_script.specs.declared.route_report.RouteReport.{RouteReport}
use Rattle.gw_config.specs.Controllers.{ControllerValue}
use Rattle.gw_config.specs.Routes.{RouteValue}
use Rattle.gw_config.specs.Scripts.{ScriptValue}
use Rattle.gw_config.specs.Nodes.{controller_at, route_at}
use Rattle.gw_ending.specs.Ends.{TellsFifo}
use Rattle.gw_ending.specs.Headline.{OrderBy, Headline, released}
use Rattle.bx_controller.specs.Intakes.{GoTo}
use Rattle.gw_route.specs.Plans.{numbers_in}
use Rattle.gw_route.specs.RouteHand.{room_in}
use Rattle.gw_opening.specs.Openings.{priority_of}
use Rattle.gw_site.specs.Pairs.{Pairs}
use Rattle.gw_opening.specs.Plans.{IsPlanOf, aborts_of}
use Rattle.gw_route.specs.Sublists.{IsSublist}

-- no controller of a segment begins a request that is over: one that it had completed, or that was reaped
abbrev pub NeverAgain : SegmentPlan → List Event → Type 0
NeverAgain plan events = (k : ℕ) → k < length plan.controllers.items →
    StartsUndone no_bus_past (kinds_of (length plan.talkers.items + k) events)

-- of two attempts of one request of a controller the earlier one failed, and the request did not end by it
abbrev pub TriesFailures : SegmentPlan → Record → Type 0
TriesFailures plan record_of =
    (trace : List Bit) → Run plan trace record_of.levels.items record_of.events.items → (k : ℕ) →
    k < length plan.controllers.items →
    RequestsTryFailures plan trace (length plan.talkers.items + k)

-- the record of a segment is that of a run of it over all the script's bits, whatever its faults are
pub record IsSegmentRun (s : ScriptValue) (segment : ℕ) (record_of : Record) : Type 0 where
  pub plan : SegmentPlan
  pub plan_is : IsPlanOf s segment plan
  pub run : IsRun plan record_of
  pub whole : length record_of.levels.items ≡ s.bits
  pub copies : Copies plan record_of.levels.items record_of.events.items
  pub queues : KeepsQueues plan record_of.events.items
  pub once : NeverAgain plan record_of.events.items
  pub requests : TriesFailures plan record_of

-- the record of each segment is that of a run of it
abbrev pub RunsSegments : ScriptValue → Report → Type 0
RunsSegments s report = Pairs (λ segment said. IsSegmentRun s segment) s.segments report.segments.items

-- the lines of each segment
abbrev pub lines_of : Report → List (List Event)
lines_of report = map (λ (record_of : Record). record_of.events.items) report.segments.items

-- these lines tell this of a controller, which is a node of its segment
pub record AreReportedOf (s : ScriptValue) (lines : List (List Event)) (controller : ℕ) (tells : List EventKind) : Type 0 where
  pub value : ControllerValue
  pub value_is : slice_get s.controllers controller ≡ Some value
  pub node : ℕ
  pub node_is : controller_at s value.segment node ≡ Some controller
  pub events : List Event
  pub events_is : slice_get lines value.segment ≡ Some events
  pub tells_is : tells ≡ kinds_of node events

-- the numbers that the script's aborts of a route name
abbrev pub aborted_in : ScriptValue → ℕ → List ℕ
aborted_in s route = numbers_in (aborts_of s route)

-- What became of the frames of a route, by what the lines of the segments tell of its two controllers, whose mailboxes
-- have room for `room` requests.
pub record IsRouteRun (room : ℕ) (s : ScriptValue) (lines : List (List Event)) (place : ℕ) (route : RouteValue)
    (r : RouteReport) : Type 0 where
  -- what is reported of the controller that it takes from, and of the one that it leads into
  pub from : List EventKind
  pub from_is : AreReportedOf s lines route.source from
  pub to : List EventKind
  pub to_is : AreReportedOf s lines route.target to
  -- its number at the controller that it leads into
  pub number : ℕ
  pub number_is : route_at s route.target number ≡ Some place
  -- it was offered the frames which its source took and whose filter has its FIFO
  pub offered : List FrameValue
  pub offers : GoTo from_is.value.banks route.fifo (all_in taken_in from) offered
  pub fifo : TellsFifo r offered
  -- it completed what its target completed of its requests
  pub completed_is : r.completed.items ≡ entries_of number (all_in sent_in to)
  -- the claims, given what its target started of its requests
  pub claims : Headline room (room_in route.queue) (priority_of to_is.value) route.rewrites r
      (entries_of number (all_in start_in to))
  -- the aborted numbers differ; aborts of the script name them, in this order; each is one of the released frames; and
  -- each request that a line calls reaped is among them
  pub apart : AllPairs (λ number later. number ≢ later) r.aborted.items
  pub named : IsSublist r.aborted.items (aborted_in s place)
  pub released_too : Each (Has (numbers (released route.rewrites r))) r.aborted.items
  pub reaped_too : Each (Has r.aborted.items) (numbers_of number (all_in reaped_in to))

-- What is claimed of the order of a route's completed frames: by the priority of the controller that it leads into.
pub record OrderInto (s : ScriptValue) (route : RouteValue) (r : RouteReport) : Type 0 where
  pub target : ControllerValue
  pub target_is : slice_get s.controllers route.target ≡ Some target
  pub order : OrderBy (priority_of target) route.rewrites r

-- so it is for each route
abbrev pub AreOrdered : ScriptValue → Report → Type 0
AreOrdered s report = Pairs (λ place route. OrderInto s route) s.routes report.routes.items

-- what became of the frames of each route
abbrev pub RunsRoutes : ℕ → ScriptValue → Report → Type 0
RunsRoutes room s report = Pairs (λ place route. IsRouteRun room s (lines_of report) place route) s.routes
    report.routes.items

-- what was started of a route's requests, as the lines of its target show it
pub record AreStartsOf (s : ScriptValue) (lines : List (List Event)) (place : ℕ) (started : List Entry) : Type 0 where
  pub route : RouteValue
  pub route_is : slice_get s.routes place ≡ Some route
  pub to : List EventKind
  pub to_is : AreReportedOf s lines route.target to
  pub number : ℕ
  pub number_is : route_at s route.target number ≡ Some place
  pub started_is : started ≡ entries_of number (all_in start_in to)
