-- Objects of a script.
use Rattle.std.specs.Prelude.{ℕ, List, Result, Ok}
use Rattle.serde_json.specs.Data.{Data}
use Rattle.gw_config.specs.declared.version.Version.{Version}
use Rattle.gw_config.specs.declared.version.Version.TheVariants.{One, Two, Three}
use Rattle.gw_fields.specs.Faults.{Fault}
use Rattle.gw_fields.specs.Fields.{◌>>=◌, object_of}
use Rattle.gw_fields.specs.Known.{known_fields}

-- in version 3 the object has no fields except these; in versions 1 and 2 other fields are ignored
abbrev pub known : Version → List ℕ → List (List ℕ) → Data → Result (Unit {0}) Fault
known One object fields from = Ok tt
known Two object fields from = Ok tt
known Three object fields from = known_fields object fields from

-- an element of the list with this name: an object without unknown fields
unfoldable pub element_of : Version → List ℕ → List (List ℕ) → Data → Result Data Fault
element_of version list fields value = do
  from ← object_of list value
  all_known ← known version list fields from
  Ok from
