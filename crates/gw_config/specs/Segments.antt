-- A segment: nodes on one pair of wires.
use Rattle.std.specs.Prelude.{ℕ, ◌-◌, sum_by, List, [], ◌∷◌, map, codes, Result, Ok}
use Rattle.std.specs.List.{flat_map}
use Rattle.serde_json.specs.Data.{Data}
use Rattle.gw_fields.specs.Faults.{Fault}
use Rattle.gw_fields.specs.Fields.{◌>>=◌, some_list, filled_list, each_after}
use Rattle.gw_fields.specs.Names.{new_name}
use Rattle.gw_config.specs.declared.format.Format.{Format}
use Rattle.gw_config.specs.Objects.{element_of}
use Rattle.gw_config.specs.Talkers.{TalkerValue, talker_names, talker_instances, talker_of}

pub record SegmentValue : Type 0 where
  pub name : List ℕ
  pub talkers : List TalkerValue

abbrev pub segment_names : List SegmentValue → List (List ℕ)
segment_names segments = map (λ (s : SegmentValue). s.name) segments

-- the names of all talkers, segment by segment
abbrev pub all_talker_names : List SegmentValue → List (List ℕ)
all_talker_names segments = flat_map (λ (s : SegmentValue). talker_names s.talkers) segments

-- how many instances of messages a script of version 3 may have
abbrev pub most_instances : ℕ
most_instances = 1000000

-- how many instances these segments leave to the segments behind them
abbrev pub instances_left : List SegmentValue → ℕ
instances_left segments = most_instances - sum_by (λ (s : SegmentValue). talker_instances s.talkers) segments

abbrev pub segment_fields : List (List ℕ)
segment_fields = codes "name" ∷ codes "talkers" ∷ []

-- a segment behind those in front of it
unfoldable pub segment_of : Format → List SegmentValue → Data → Result SegmentValue Fault
segment_of format front value = do
  from ← element_of format.version (codes "segments") segment_fields value
  name ← new_name (codes "segments") (segment_names front) from
  items ← some_list (codes "talkers") from
  talkers ← each_after (talker_of format (all_talker_names front) (instances_left front)) [] items
  Ok (record { name = name; talkers = talkers })

-- 1 to 8 of them
unfoldable pub segments_of : Format → Data → Result (List SegmentValue) Fault
segments_of format from = do
  items ← filled_list (codes "segments") 8 from
  each_after (segment_of format) [] items
