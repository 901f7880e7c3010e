-- A talker: a node that sends frames of its own.
use Rattle.std.specs.Prelude.{ℕ, ◌-◌, nat_lt, sum_by, List, ◌++◌, length, map, codes}
use Rattle.std.specs.Prelude.{[], ◌∷◌, Result, Ok, Err, if◌then◌else◌}
use Rattle.serde_json.specs.Data.{Data}
use Rattle.gw_config.specs.declared.format.Format.{Format}
use Rattle.gw_config.specs.Versions.{most_nodes}
use Rattle.gw_config.specs.Objects.{element_of}
use Rattle.gw_config.specs.Formats.{bit_of}
use Rattle.gw_config.specs.Messages.{MessageValue, instances_of, messages_of}
use Rattle.gw_fields.specs.Faults.{Fault, too_many}
use Rattle.gw_fields.specs.Fields.{◌>>=◌, list}
use Rattle.gw_fields.specs.Names.{new_name}

-- its name, the bit at which it is switched on, and its messages in the order of the script
pub record TalkerValue : Type 0 where
  pub name : List ℕ
  pub on : ℕ
  pub messages : List MessageValue

abbrev pub talker_names : List TalkerValue → List (List ℕ)
talker_names talkers = map (λ (t : TalkerValue). t.name) talkers

-- how many instances the messages of these talkers have
abbrev pub talker_instances : List TalkerValue → ℕ
talker_instances talkers = sum_by (λ (t : TalkerValue). instances_of t.messages) talkers

abbrev pub talker_fields : List (List ℕ)
talker_fields = codes "name" ∷ codes "on" ∷ codes "frames" ∷ []

-- A talker behind those in front of it in its segment. `taken` are the names of the talkers of the segments before this
-- one, and `left` is the number of instances that those segments leave to this one.
unfoldable pub talker_of : Format → List (List ℕ) → ℕ → List TalkerValue → Data → Result TalkerValue Fault
talker_of format taken left front value = do
  from ← element_of format.version (codes "talkers") talker_fields value
  name ← new_name (codes "talkers") (taken ++ talker_names front) from
  on ← bit_of format (codes "on") from
  items ← list (codes "frames") 10000 from
  messages ← messages_of format (left - talker_instances front) items
  if nat_lt (length front) (most_nodes format.version) then Ok (record { name = name; on = on; messages = messages })
      else Err (too_many (codes "talkers"))
