-- Fields that no object of a kind has, which are refused before any field of the object is read.
use Rattle.std.specs.Prelude.{ℕ, ◌||◌, Bool, List, [], ◌∷◌, codes, Option, Some, None, Result, Ok, Err, if◌then◌else◌}
use Rattle.std.specs.List.{list_all}
use Rattle.std.specs.Str.{bytes_eq}
use Rattle.serde_json.specs.Data.{Data, Members, no_members, member}
use Rattle.serde_json.specs.Find.{as_object}
use Rattle.gw_fields.specs.Faults.{Fault, unknown_field}
use Rattle.gw_fields.specs.Names.{is_among}

-- the names of these members
abbrev pub member_names : Members → List (List ℕ)
member_names no_members = []
member_names (member name value rest) = name ∷ member_names rest

-- the names of a value's fields; a value that is no object has none
abbrev pub field_names : Option Members → List (List ℕ)
field_names None = []
field_names (Some members) = member_names members

-- whether the name is one of these, or `comment`, which every object may have
abbrev pub is_known : List (List ℕ) → List ℕ → Bool
is_known known name = bytes_eq name (codes "comment") || is_among name known

-- every field of the value has a known name
unfoldable pub known_fields : List ℕ → List (List ℕ) → Data → Result (Unit {0}) Fault
known_fields object known from =
    if list_all (is_known known) (field_names (as_object from)) then Ok tt else Err (unknown_field object)
