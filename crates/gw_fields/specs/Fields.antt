-- What a field of a JSON object says, or its first fault: missing, of a wrong kind, out of its range.
use Rattle.std.specs.Prelude.{ℕ, suc, ◌&&◌, nat_le, Bool, List, [], ◌∷◌, ◌++◌}
use Rattle.std.specs.Prelude.{Option, Some, None, option_and_then, Result, Ok, Err, if◌then◌else◌}
use Rattle.serde_json.specs.Data.{Data, Items, no_items, item}
use Rattle.serde_json.specs.Find.{get, as_number, as_u64, as_str, as_array, as_object, as_bool}
use Rattle.gw_fields.specs.Faults.{Fault, missing, wrong_kind, out_of_range, too_many}

-- what f reads after x, unless x is a fault
infixl 10 ◌>>=◌
abbrev pub ◌>>=◌ : {A B : Type 0} → Result A Fault → (A → Result B Fault) → Result B Fault
(Ok x) >>= f = f x
(Err e) >>= f = Err e

abbrev pub or_fault : {A : Type 0} → Fault → Option A → Result A Fault
or_fault fault None = Err fault
or_fault fault (Some x) = Ok x

-- a value that is an object
unfoldable pub object_of : List ℕ → Data → Result Data Fault
object_of name value = do
  members ← or_fault (wrong_kind name) (as_object value)
  Ok value

-- a field of an object
unfoldable pub field : List ℕ → Data → Result Data Fault
field name from = or_fault (missing name) (get name from)

-- a whole number, which is a JSON number that reads as 64 bits without a sign
unfoldable pub natural_of : List ℕ → Data → Result ℕ Fault
natural_of name value = or_fault (wrong_kind name) (option_and_then as_u64 (as_number value))

-- a whole number from low to high
unfoldable pub whole_of : List ℕ → ℕ → ℕ → Data → Result ℕ Fault
whole_of name low high value = do
  n ← natural_of name value
  if nat_le low n && nat_le n high then Ok n else Err (out_of_range name)

unfoldable pub natural : List ℕ → Data → Result ℕ Fault
natural name from = do
  value ← field name from
  natural_of name value

unfoldable pub whole : List ℕ → ℕ → ℕ → Data → Result ℕ Fault
whole name low high from = do
  value ← field name from
  whole_of name low high value

unfoldable pub truth : List ℕ → Data → Result Bool Fault
truth name from = do
  value ← field name from
  or_fault (wrong_kind name) (as_bool value)

-- a truth value, and this one where the field is not there
abbrev pub given_truth : List ℕ → Bool → Option Data → Result Bool Fault
given_truth name absent None = Ok absent
given_truth name absent (Some value) = or_fault (wrong_kind name) (as_bool value)

unfoldable pub optional_truth : List ℕ → Bool → Data → Result Bool Fault
optional_truth name absent from = given_truth name absent (get name from)

unfoldable pub text_of : List ℕ → Data → Result (List ℕ) Fault
text_of name value = or_fault (wrong_kind name) (as_str value)

unfoldable pub text : List ℕ → Data → Result (List ℕ) Fault
text name from = do
  value ← field name from
  text_of name value

abbrev pub items_count : Items → ℕ
items_count no_items = 0
items_count (item d ds) = suc (items_count ds)

-- a list of at most `most` elements
unfoldable pub list_of : List ℕ → ℕ → Data → Result Items Fault
list_of name most value = do
  items ← or_fault (wrong_kind name) (as_array value)
  if nat_le (items_count items) most then Ok items else Err (too_many name)

unfoldable pub list : List ℕ → ℕ → Data → Result Items Fault
list name most from = do
  value ← field name from
  list_of name most value

-- a list of any length
unfoldable pub some_list : List ℕ → Data → Result Items Fault
some_list name from = do
  value ← field name from
  or_fault (wrong_kind name) (as_array value)

-- a list of at most `most` elements, and not an empty one
abbrev pub filled : List ℕ → Items → Result Items Fault
filled name no_items = Err (out_of_range name)
filled name (item d ds) = Ok (item d ds)

unfoldable pub filled_list : List ℕ → ℕ → Data → Result Items Fault
filled_list name most from = do
  items ← list name most from
  filled name items

-- a list that is empty where the field is not there
abbrev pub given_list : List ℕ → ℕ → Option Data → Result Items Fault
given_list name most None = Ok no_items
given_list name most (Some value) = list_of name most value

unfoldable pub optional_list : List ℕ → ℕ → Data → Result Items Fault
optional_list name most from = given_list name most (get name from)

-- what is read of a list's elements, front to back, each in the light of those before it, up to the first fault
abbrev pub each_after : {A : Type 0} → (List A → Data → Result A Fault) → List A → Items → Result (List A) Fault
each_after read front no_items = Ok front
each_after read front (item d ds) = do
  x ← read front d
  each_after read (front ++ x ∷ []) ds

-- the same, where no element looks at those before it
abbrev pub each : {A : Type 0} → (Data → Result A Fault) → Items → Result (List A) Fault
each read ds = each_after (λ front. read) [] ds
