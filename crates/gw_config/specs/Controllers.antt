-- A controller: a node that routes send and receive through.
use Rattle.std.specs.Prelude.{ℕ, ◌+◌, ◌==◌, nat_lt, Bool, true, List, [], ◌∷◌, ◌++◌, length, map, filter}
use Rattle.std.specs.Prelude.{count_by, codes, Option, Some, None, slice_get, Result, Ok, Err, if◌then◌else◌}
use Rattle.serde_json.specs.Data.{Data}
use Rattle.bx_rx.specs.Bank.{BankValue}
use Rattle.gw_config.specs.declared.version.Version.{Version}
use Rattle.gw_config.specs.declared.format.Format.{Format}
use Rattle.gw_config.specs.Versions.{most_nodes}
use Rattle.gw_config.specs.Objects.{element_of}
use Rattle.gw_config.specs.Formats.{bit_of}
use Rattle.gw_fields.specs.Faults.{Fault, too_many}
use Rattle.gw_fields.specs.Fields.{◌>>=◌, optional_truth, list, each_after}
use Rattle.gw_fields.specs.Names.{new_name, place_named}
use Rattle.gw_config.specs.Talkers.{talker_names}
use Rattle.gw_config.specs.Segments.{SegmentValue, segment_names, all_talker_names}
use Rattle.gw_config.specs.BankLists.{banks_of}

-- its name, the place of its segment, the bit at which it is switched on, whether it sends by order of requests
-- (RM0008, bxCAN, TXFP), and its filter banks
pub record ControllerValue : Type 0 where
  pub name : List ℕ
  pub segment : ℕ
  pub on : ℕ
  pub txfp : Bool
  pub banks : List BankValue

abbrev pub controller_names : List ControllerValue → List (List ℕ)
controller_names controllers = map (λ (c : ControllerValue). c.name) controllers

-- the controllers on the segment at this place
abbrev pub controllers_on : ℕ → List ControllerValue → List ControllerValue
controllers_on place controllers = filter (λ (c : ControllerValue). c.segment == place) controllers

-- The names of a segment's nodes, in node order: its talkers, then the controllers on it.
abbrev pub node_names : List ControllerValue → ℕ → SegmentValue → List (List ℕ)
node_names controllers place segment = talker_names segment.talkers
    ++ controller_names (controllers_on place controllers)

-- how many nodes the segment at this place has
abbrev pub node_count : List ControllerValue → ℕ → Option SegmentValue → ℕ
node_count controllers place None = 0
node_count controllers place (Some segment) =
    length segment.talkers + count_by (λ (c : ControllerValue). c.segment == place) controllers

-- a controller for which its segment has room
abbrev pub with_room : Version → List SegmentValue → List ControllerValue → ControllerValue →
    Result ControllerValue Fault
with_room version segments front c =
    if nat_lt (node_count front c.segment (slice_get segments c.segment)) (most_nodes version) then Ok c
    else Err (too_many (codes "controllers"))

-- `on`, `txfp`, `filters` and `banks` of a controller with this name and segment, and the room for it
unfoldable pub controller_with : Format → List SegmentValue → List ControllerValue → List ℕ → ℕ → Data →
    Result ControllerValue Fault
controller_with format segments front name segment from = do
  on ← bit_of format (codes "on") from
  txfp ← optional_truth (codes "txfp") true from
  banks ← banks_of format.version from
  with_room format.version segments front
      (record { name = name; segment = segment; on = on; txfp = txfp; banks = banks })

abbrev pub controller_fields : List (List ℕ)
controller_fields =
    codes "name" ∷ codes "segment" ∷ codes "on" ∷ codes "txfp" ∷ codes "filters" ∷ codes "banks" ∷ []

-- A controller behind those in front of it. Its name is none of a talker either.
unfoldable pub controller_of : Format → List SegmentValue → List ControllerValue → Data → Result ControllerValue Fault
controller_of format segments front value = do
  from ← element_of format.version (codes "controllers") controller_fields value
  name ← new_name (codes "controllers") (all_talker_names segments ++ controller_names front) from
  segment ← place_named (codes "segment") (segment_names segments) from
  controller_with format segments front name segment from

-- at most 16 of them
unfoldable pub controllers_of : Format → List SegmentValue → Data → Result (List ControllerValue) Fault
controllers_of format segments from = do
  items ← list (codes "controllers") 16 from
  each_after (controller_of format segments) [] items
