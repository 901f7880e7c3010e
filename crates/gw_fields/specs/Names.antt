-- Names in a script: how they are formed, where one is taken, and what a field refers to.
use Rattle.std.specs.Prelude.{ℕ, ◌&&◌, ◌||◌, ◌==◌, nat_le, Bool, List, length, codes, Result, Ok, Err, if◌then◌else◌}
use Rattle.std.specs.Char.{is_ascii_alphanumeric}
use Rattle.std.specs.List.{list_all, list_any, position_from}
use Rattle.std.specs.Str.{bytes_eq}
use Rattle.serde_json.specs.Data.{Data}
use Rattle.gw_fields.specs.Faults.{Fault, out_of_range, unknown_name, double_name}
use Rattle.gw_fields.specs.Fields.{◌>>=◌, or_fault, text}

-- an ASCII letter or digit, or `_`
abbrev pub is_name_byte : ℕ → Bool
is_name_byte b = is_ascii_alphanumeric b || (b == 95)

-- 1 to 32 of these
abbrev pub is_name : List ℕ → Bool
is_name bytes = (nat_le 1 (length bytes) && nat_le (length bytes) 32) && list_all is_name_byte bytes

-- whether one of these is the name
abbrev pub is_among : List ℕ → List (List ℕ) → Bool
is_among name names = list_any (bytes_eq name) names

-- the field `name`, where it is well formed
unfoldable pub formed_name : Data → Result (List ℕ) Fault
formed_name from = do
  name ← text (codes "name") from
  if is_name name then Ok name else Err (out_of_range (codes "name"))

-- the same, where the name is not among those that are taken; a double one is reported with its list
unfoldable pub new_name : List ℕ → List (List ℕ) → Data → Result (List ℕ) Fault
new_name list taken from = do
  name ← formed_name from
  if is_among name taken then Err (double_name list) else Ok name

-- the place of the first of these names that a field gives
unfoldable pub place_named : List ℕ → List (List ℕ) → Data → Result ℕ Fault
place_named name names from = do
  word ← text name from
  or_fault (unknown_name name) (position_from (bytes_eq word) 0 names)
