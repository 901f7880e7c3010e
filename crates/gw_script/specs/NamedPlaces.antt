-- What a report names by place.
use Rattle.std.specs.Prelude.{◌≡◌, ◌<◌, ℕ, length, slice_get, Option, Some, None, IfSome, IsSomeAnd}
use Rattle.bx_core.specs.Lists.{Each}
use Rattle.can_station.specs.declared.event.Event.{Event}
use Rattle.can_station.specs.declared.event.Label.{Label}
use Rattle.can_station.specs.declared.event.EventKind.{EventKind}
use Rattle.can_station.specs.declared.event.EventKind.TheVariants.{Started, Completed, Reaped}
use Rattle.can_segment.specs.declared.record.Record.{Record}
use Rattle.gw_script.specs.declared.report.Report.{Report}
use Rattle.gw_config.specs.Scripts.{ScriptValue}
use Rattle.gw_config.specs.Nodes.{names_of_nodes, controller_at, route_places}

-- the request that a line names
abbrev pub label_of : EventKind → Option Label
label_of (Started frame label) = label
label_of (Completed start frame label) = label
label_of (Reaped label) = Some label
label_of _ = None

-- the node is a controller, and the request one of a route into it
abbrev pub NamesRequest : ScriptValue → ℕ → ℕ → Label → Type 0
NamesRequest s segment node label = IsSomeAnd (controller_at s segment node)
    (λ controller. label.route < length (route_places s controller))

-- the node is one of the segment's, and its request, if one is named, stands at it
pub record NamesEvent (s : ScriptValue) (segment : ℕ) (event : Event) : Type 0 where
  pub node : event.node < length (names_of_nodes s segment)
  pub request : IfSome (label_of event.kind) (NamesRequest s segment event.node)

-- the record of the segment at this place, with counters for each of its nodes
pub record NamesNodes (s : ScriptValue) (segment : ℕ) (of : Record) : Type 0 where
  pub events : Each (NamesEvent s segment) of.events.items
  pub counters : length of.counters.items ≡ length (names_of_nodes s segment)

-- Each segment, node and route that the report names by its place stands in the script.
pub record Names (s : ScriptValue) (report : Report) : Type 0 where
  pub segments : length report.segments.items ≡ length s.segments
  pub records : (place : ℕ) (of : Record) → slice_get report.segments.items place ≡ Some of → NamesNodes s place of
  pub routes : length report.routes.items ≡ length s.routes
