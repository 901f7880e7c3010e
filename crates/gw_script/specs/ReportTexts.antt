-- The report on a run: of each segment its events, the counters of its nodes and its end, and then a line for each
-- route.
use Rattle.std.specs.Prelude.{ℕ, List, [], ◌∷◌, ◌++◌, vec_len, codes}
use Rattle.std.specs.Prelude.{slice_get, Option, Some, None, option_and_then, unwrap_or}
use Rattle.std.specs.List.{flat_map}
use Rattle.std.specs.Fmt.{decimal}
use Rattle.can_confinement.specs.declared.confinement.ErrorState.{ErrorState}
use Rattle.can_confinement.specs.declared.confinement.ErrorState.TheVariants.{Active, Passive, Off}
use Rattle.can_node.specs.declared.outcome.ErrorKind.{ErrorKind}
use Rattle.can_node.specs.declared.outcome.ErrorKind.TheVariants.{Bit, Stuff, Form, Ack, Crc}
use Rattle.can_confinement.specs.Confinement.{Counts, state_of}
use Rattle.can_confinement.specs.Counters.{counts_of}
use Rattle.can_confinement.specs.declared.counters.Counters.{Counters}
use Rattle.can_station.specs.declared.event.Event.{Event}
use Rattle.can_station.specs.declared.event.Label.{Label}
use Rattle.can_station.specs.declared.event.EventKind.{EventKind}
use Rattle.can_station.specs.declared.event.EventKind.TheVariants as kinds
use Rattle.can_segment.specs.declared.record.Record.{Record}
use Rattle.gw_script.specs.declared.report.Report.{Report}
use Rattle.gw_script.specs.declared.route_report.RouteReport.{RouteReport}
use Rattle.gw_script.specs.FrameTexts.{frame_text}
use Rattle.gw_script.specs.Lines.{line, lines_from}
use Rattle.gw_config.specs.Segments.{segment_names}
use Rattle.gw_config.specs.Routes.{route_names}
use Rattle.gw_config.specs.Scripts.{ScriptValue}
use Rattle.gw_config.specs.Nodes.{names_of_nodes, controller_at, route_at}
use Rattle.gw_script.specs.NamedPlaces.{label_of}

-- the name at a place
abbrev pub name_at : List (List ℕ) → ℕ → List ℕ
name_at names place = unwrap_or (slice_get names place) []

abbrev pub segment_name : ScriptValue → ℕ → List ℕ
segment_name s segment = name_at (segment_names s.segments) segment

abbrev pub node_name : ScriptValue → ℕ → ℕ → List ℕ
node_name s segment node = name_at (names_of_nodes s segment) node

abbrev pub route_name : ScriptValue → ℕ → List ℕ
route_name s route = name_at (route_names s.routes) route

abbrev pub kind_text : ErrorKind → List ℕ
kind_text Bit = codes "bit"
kind_text Stuff = codes "stuff"
kind_text Form = codes "form"
kind_text Ack = codes "ack"
kind_text Crc = codes "crc"

abbrev pub state_text : ErrorState → List ℕ
state_text Active = codes "active"
state_text Passive = codes "passive"
state_text Off = codes "off"

-- what happened at a node
abbrev pub reported_text : EventKind → List ℕ
reported_text (kinds.Started frame label) = codes "started " ++ frame_text frame
reported_text (kinds.Took start frame) = codes "took " ++ decimal start ++ codes " " ++ frame_text frame
reported_text (kinds.Completed start frame label) = codes "completed " ++ decimal start ++ codes " " ++ frame_text frame
reported_text (kinds.Lost start) = codes "lost " ++ decimal start
reported_text (kinds.Error kind) = codes "error " ++ kind_text kind
reported_text kinds.Off = codes "off"
reported_text kinds.Back = codes "back"
reported_text (kinds.Reaped label) = codes "reaped"

-- the route that a request at a node comes from, by its place in the script
abbrev pub route_of : ScriptValue → ℕ → ℕ → Label → Option ℕ
route_of s segment node label = option_and_then (λ controller. route_at s controller label.route)
    (controller_at s segment node)

-- the end of a line that names a request: the name of its route, and its number
abbrev pub request_text : ScriptValue → Option ℕ → ℕ → List ℕ
request_text s None number = []
request_text s (Some route) number = codes " " ++ route_name s route ++ codes " " ++ decimal number

abbrev pub label_text : ScriptValue → ℕ → ℕ → Option Label → List ℕ
label_text s segment node None = []
label_text s segment node (Some label) = request_text s (route_of s segment node label) label.number

-- the line of an event of the segment at this place
abbrev pub event_line : ScriptValue → ℕ → Event → List ℕ
event_line s segment e = line (segment_name s segment ∷ codes " " ∷ decimal e.bit ∷ codes " "
    ∷ node_name s segment e.node ∷ codes " "
    ∷ reported_text e.kind ∷ label_text s segment e.node (label_of e.kind) ∷ [])

-- the line of a node with these counts
abbrev pub node_line : ScriptValue → ℕ → ℕ → Counts → List ℕ
node_line s segment node counts = line (segment_name s segment ∷ codes " node " ∷ node_name s segment node
    ∷ codes " tec " ∷ decimal counts.tec ∷ codes " rec " ∷ decimal counts.rec ∷ codes " "
    ∷ state_text (state_of counts) ∷ [])

-- what is reported behind its events of the segment at this place: its nodes, with these counters, and its end
abbrev pub segment_end : ScriptValue → ℕ → List Counters → List ℕ
segment_end s segment counters = lines_from (λ node one. node_line s segment node (counts_of one)) 0 counters
    ++ line (segment_name s segment ∷ codes " end " ∷ decimal s.bits ∷ [])

-- what is reported of it
abbrev pub segment_text : ScriptValue → ℕ → Record → List ℕ
segment_text s segment of =
    flat_map (event_line s segment) of.events.items ++ segment_end s segment of.counters.items

abbrev pub route_line : ScriptValue → ℕ → RouteReport → List ℕ
route_line s route r = line (codes "route " ∷ route_name s route
    ∷ codes " accepted " ∷ decimal r.accepted ∷ codes " overrun " ∷ decimal r.overrun
    ∷ codes " released " ∷ decimal (vec_len r.released) ∷ codes " completed " ∷ decimal (vec_len r.completed)
    ∷ codes " aborted " ∷ decimal (vec_len r.aborted) ∷ codes " held " ∷ decimal r.held ∷ [])

-- the whole text
abbrev pub report_text : ScriptValue → Report → List ℕ
report_text s report = lines_from (segment_text s) 0 report.segments.items
    ++ lines_from (route_line s) 0 report.routes.items
