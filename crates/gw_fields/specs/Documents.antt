-- An input: its greatest length, its JSON value (RFC 8259, as `serde_json` reads it), and its first fault.
use Rattle.std.specs.Prelude.{◌≡◌, ◌<◌, ◌≤◌, ℕ, List, length, codes, Some, None, Result, Ok, Err}
use Rattle.std.specs.Str.{IsUtf8}
use Rattle.serde_json.specs.Data.{Data, depth as nesting}
use Rattle.serde_json.specs.Read.{read, max_depth}
use Rattle.gw_fields.specs.Faults.{Fault, not_json, too_many}

-- the greatest length, in bytes
abbrev pub greatest_length : ℕ
greatest_length = 16777216

-- the bytes are not too long, and are the JSON text of this value, which is nested at most 127 deep
pub record IsDocument (bytes : List ℕ) (d : Data) : Type 0 where
  pub short : length bytes ≤ greatest_length
  pub utf8 : IsUtf8 bytes
  pub reads : read bytes ≡ Some d
  pub nests : nesting d ≤ max_depth

-- why the bytes are not a document: the length is checked before the JSON text
pub data IsNoDocument (bytes : List ℕ) : Fault → Type 0 where
  too_long : greatest_length < length bytes → IsNoDocument bytes (too_many (codes "input"))
  no_text : length bytes ≤ greatest_length → (IsUtf8 bytes → read bytes ≡ None) → IsNoDocument bytes not_json

-- the bytes are the JSON text of a value that reads as x
pub record IsTextOf {A : Type 0} (reading : Data → Result A Fault) (bytes : List ℕ) (x : A) : Type 0 where
  pub value : Data
  pub document : IsDocument bytes value
  pub reads : reading value ≡ Ok x

-- the first fault of an input: the whole text is read before any of its fields
pub data FirstFault {A : Type 0} (reading : Data → Result A Fault) (bytes : List ℕ) (f : Fault) : Type 0 where
  in_text : IsNoDocument bytes f → FirstFault reading bytes f
  in_fields : (d : Data) → IsDocument bytes d → reading d ≡ Err f → FirstFault reading bytes f
