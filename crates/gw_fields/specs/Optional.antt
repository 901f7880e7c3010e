-- Fields of a JSON object that may be absent.
use Rattle.std.specs.Prelude.{ℕ, Bool, List, Option, Some, None, Result, Ok}
use Rattle.serde_json.specs.Data.{Data}
use Rattle.serde_json.specs.Find.{get, as_bool}
use Rattle.gw_fields.specs.Faults.{Fault, wrong_kind}
use Rattle.gw_fields.specs.Fields.{◌>>=◌, or_fault, whole_of, text_of}

-- what is read of a field, and `None` where the field is absent
abbrev pub where_given : {A : Type 0} → (Data → Result A Fault) → Option Data → Result (Option A) Fault
where_given read None = Ok None
where_given read (Some value) = do
  x ← read value
  Ok (Some x)

unfoldable pub optional_whole : List ℕ → ℕ → ℕ → Data → Result (Option ℕ) Fault
optional_whole name low high from = where_given (whole_of name low high) (get name from)

unfoldable pub optional_text : List ℕ → Data → Result (Option (List ℕ)) Fault
optional_text name from = where_given (text_of name) (get name from)

unfoldable pub maybe_truth : List ℕ → Data → Result (Option Bool) Fault
maybe_truth name from = where_given (λ value. or_fault (wrong_kind name) (as_bool value)) (get name from)
