-- Parts of the line of an event.
use Rattle.std.specs.Prelude.{◌≡◌, ℕ, ◌+◌, ◌≤◌, List, [], ◌∷◌, ◌++◌, All, None, length, map, vec_len}
use Rattle.std.specs.Prelude.{vec_capacity, codes}
use Rattle.std.specs.Fmt.{decimal}
use Rattle.can_station.specs.declared.event.Event.{Event}
use Rattle.can_station.specs.declared.event.EventKind.{EventKind}
use Rattle.gw_config.specs.Scripts.{ScriptValue}
use Rattle.gw_script.specs.NamedPlaces.{label_of}
use Rattle.gw_script.specs.declared.event_lines.EventLines.{EventLines}
use Rattle.gw_script.specs.declared.repeats.Front.{Front}
use Rattle.gw_script.specs.declared.repeats.End.{End}
use Rattle.gw_script.specs.declared.repeats.Ends.{Ends}
use Rattle.gw_config.specs.Nodes.{names_of_nodes}
use Rattle.gw_script.specs.ReportTexts.{reported_text, label_text, node_name, route_name, segment_name}

-- the beginning of the lines at a bit of the segment with this name
abbrev pub front_text : List ℕ → ℕ → List ℕ
front_text name bit = name ++ (codes " " ++ (decimal bit ++ codes " "))

-- the end of a line that names no request
abbrev pub end_text : EventKind → List ℕ
end_text reported = codes " " ++ (reported_text reported ++ (10 ∷ []))

-- what stands behind the node's name in the line of an event of the segment at this place
abbrev pub rest_text : ScriptValue → ℕ → Event → List ℕ
rest_text s segment e = codes " " ++ (reported_text e.kind ++ (label_text s segment e.node (label_of e.kind) ++ (10 ∷ [])))

-- it has the text of its bit, and room for that of any other: behind the name a space, 20 digits and a space
pub record IsFront (name : List ℕ) (front : Front) : Type 0 where
  pub text_is : front.text.items ≡ front_text name front.bit
  pub short : vec_len front.text ≤ length name + 22
  pub room : length name + 22 ≤ vec_capacity front.text

-- It has the text of what it tells, and room for that of any other thing. The longest is that a frame was completed: 11
-- bytes, 20 digits and a space, 32 bytes of the frame, and a line feed.
pub record IsEnd (end : End) : Type 0 where
  pub text_is : end.text.items ≡ end_text end.event.kind
  pub names_none : label_of end.event.kind ≡ None
  pub short : vec_len end.text ≤ 65
  pub room : 65 ≤ vec_capacity end.text

-- those of so many nodes
abbrev pub AreEnds : ℕ → Ends → Type 0
AreEnds nodes ends = (vec_len ends.started ≡ nodes) × All IsEnd ends.started.items × IsEnd ends.last

-- the names of the routes have at most so many bytes
abbrev pub AreRoutesWithin : ℕ → ScriptValue → Type 0
AreRoutesWithin longest s = (route : ℕ) → length (route_name s route) ≤ longest

-- so do those of the segment's nodes
abbrev pub AreNodesWithin : ℕ → ScriptValue → ℕ → Type 0
AreNodesWithin longest s segment = (node : ℕ) → length (node_name s segment node) ≤ longest

-- No line of an event of this segment has more bytes: besides the names 22 at its beginning, 65 of what happened, and
-- 22 around the name of a request's route.
pub record IsLongest (s : ScriptValue) (segment longest : ℕ) : Type 0 where
  pub node : ℕ
  pub nodes_within : AreNodesWithin node s segment
  pub route : ℕ
  pub routes_within : AreRoutesWithin route s
  pub longest_is : length (segment_name s segment) + node + route + 109 ≤ longest

-- so the lines of the segment at this place are made of these parts
pub record AreLines (s : ScriptValue) (segment : ℕ) (lines : EventLines) : Type 0 where
  pub name_is : lines.name.now ≡ segment_name s segment
  pub names_are : map (λ name. name.now) lines.names.items ≡ names_of_nodes s segment
  pub front_is : IsFront (segment_name s segment) lines.front
  pub ends_are : AreEnds (length (names_of_nodes s segment)) lines.ends
  pub longest_is : IsLongest s segment lines.longest
