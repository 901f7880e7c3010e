-- A fault that a script plans: a sample that a node gets wrong, or a level that is forced on a segment.
use Rattle.std.specs.Prelude.{ℕ, ◌+◌, ◌==◌, List, [], ◌∷◌, codes, Option, Some, None, unwrap_or, Result, Ok}
use Rattle.std.specs.List.{position_from}
use Rattle.std.specs.Str.{bytes_eq}
use Rattle.serde_json.specs.Data.{Data}
use Rattle.serde_json.specs.Find.{get}
use Rattle.gw_config.specs.declared.version.Version.{Version}
use Rattle.gw_config.specs.declared.version.Version.TheVariants.{One, Two, Three}
use Rattle.gw_config.specs.declared.format.Format.{Format}
use Rattle.gw_config.specs.declared.node_place.NodePlace.{NodePlace}
use Rattle.gw_config.specs.declared.planned_fault.PlannedFault.{PlannedFault}
use Rattle.gw_config.specs.declared.planned_fault.PlannedFault.TheVariants.{AtNode, OnLine}
use Rattle.gw_fields.specs.Faults.{Fault, unknown_name}
use Rattle.gw_fields.specs.Fields.{◌>>=◌, or_fault, whole, text_of, optional_list, each}
use Rattle.gw_fields.specs.Durations.{optional_duration}
use Rattle.gw_fields.specs.Names.{place_named}
use Rattle.gw_config.specs.Objects.{element_of}
use Rattle.gw_config.specs.Formats.{bit_of}
use Rattle.gw_config.specs.Segments.{SegmentValue, segment_names}
use Rattle.gw_config.specs.Controllers.{ControllerValue, node_names}

-- a node of the segment at this place, where it has one, else what is found later
abbrev pub or_later : ℕ → Option ℕ → Option NodePlace → Option NodePlace
or_later place (Some node) later = Some (record { segment = place; place = node })
or_later place None later = later

-- the node of this name, in the segments from this place on
abbrev pub node_from : List ControllerValue → List ℕ → ℕ → List SegmentValue → Option NodePlace
node_from controllers name place [] = None
node_from controllers name place (s ∷ ss) =
    or_later place (position_from (bytes_eq name) 0 (node_names controllers place s))
    (node_from controllers name (place + 1) ss)

-- the bit before which a fault ends that begins at this bit; the next bit where the field is absent
unfoldable pub listed_until : Format → ℕ → Data → Result ℕ Fault
listed_until format bit from = do
  until ← optional_duration (codes "until") (bit + 1) format.bits format.rate from
  Ok (unwrap_or until (bit + 1))

-- in versions 1 and 2 a fault lasts one bit
abbrev pub until_of : Version → Format → ℕ → Data → Result ℕ Fault
until_of One format bit from = Ok (bit + 1)
until_of Two format bit from = Ok (bit + 1)
until_of Three format bit from = listed_until format bit from

unfoldable pub node_fault : Format → List SegmentValue → List ControllerValue → Data → Data → Result PlannedFault Fault
node_fault format segments controllers value from = do
  name ← text_of (codes "node") value
  place ← or_fault (unknown_name (codes "node")) (node_from controllers name 0 segments)
  bit ← bit_of format (codes "bit") from
  until ← until_of format.version format bit from
  Ok (AtNode place bit until)

unfoldable pub line_fault : Format → List SegmentValue → Data → Result PlannedFault Fault
line_fault format segments from = do
  segment ← place_named (codes "segment") (segment_names segments) from
  bit ← bit_of format (codes "bit") from
  until ← until_of format.version format bit from
  level ← whole (codes "level") 0 1 from
  Ok (OnLine segment bit until (level == 1))

-- a fault at a node where `node` is given, else one on the line
abbrev pub fault_with : Format → List SegmentValue → List ControllerValue → Data → Option Data →
    Result PlannedFault Fault
fault_with format segments controllers from (Some value) = node_fault format segments controllers value from
fault_with format segments controllers from None = line_fault format segments from

abbrev pub fault_fields : List (List ℕ)
fault_fields = codes "node" ∷ codes "segment" ∷ codes "bit" ∷ codes "until" ∷ codes "level" ∷ []

unfoldable pub planned_fault_of : Format → List SegmentValue → List ControllerValue → Data → Result PlannedFault Fault
planned_fault_of format segments controllers value = do
  from ← element_of format.version (codes "faults") fault_fields value
  fault_with format segments controllers from (get (codes "node") from)

-- at most 10,000 of them, and none where the field is not there
unfoldable pub planned_faults_of : Format → List SegmentValue → List ControllerValue → Data →
    Result (List PlannedFault) Fault
planned_faults_of format segments controllers from = do
  items ← optional_list (codes "faults") 10000 from
  each (planned_fault_of format segments controllers) items
