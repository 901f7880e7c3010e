-- A frame as a JSON object.
use Rattle.std.specs.Prelude.{ℕ, ◌^◌, nat_lt, Bool, true, false, List, codes}
use Rattle.std.specs.Prelude.{Option, Some, None, Result, Ok, Err, if◌then◌else◌}
use Rattle.serde_json.specs.Data.{Data}
use Rattle.serde_json.specs.Find.{get}
use Rattle.can_frame.specs.Frames.{Identifier, standard, extended, data_bytes, remote_code, FrameValue}
use Rattle.gw_fields.specs.Faults.{Fault, missing, out_of_range}
use Rattle.gw_fields.specs.Fields.{◌>>=◌, natural, truth, whole_of, list_of, each}

-- a number as an identifier of 29 bits, or of 11
abbrev pub identifier_with : List ℕ → Bool → ℕ → Result Identifier Fault
identifier_with name true n = if nat_lt n (2 ^ 29) then Ok (extended n) else Err (out_of_range name)
identifier_with name false n = if nat_lt n (2 ^ 11) then Ok (standard n) else Err (out_of_range name)

-- `id`, then `ext`, then the identifier's range
unfoldable pub identifier_of : Data → Result Identifier Fault
identifier_of from = do
  n ← natural (codes "id") from
  is_extended ← truth (codes "ext") from
  identifier_with (codes "id") is_extended n

-- a data frame of at most eight bytes
unfoldable pub data_frame : Identifier → Data → Result FrameValue Fault
data_frame id value = do
  items ← list_of (codes "data") 8 value
  bytes ← each (whole_of (codes "data") 0 255) items
  Ok (record { id = id; content = data_bytes bytes })

-- a remote frame with its data length code
unfoldable pub remote_frame : Identifier → Data → Result FrameValue Fault
remote_frame id value = do
  code ← whole_of (codes "remote") 0 8 value
  Ok (record { id = id; content = remote_code code })

-- `data` where it is given, else `remote`
abbrev pub frame_with : Identifier → Option Data → Option Data → Result FrameValue Fault
frame_with id (Some bytes) remote = data_frame id bytes
frame_with id None (Some code) = remote_frame id code
frame_with id None None = Err (missing (codes "data"))

unfoldable pub frame_of : Data → Result FrameValue Fault
frame_of from = do
  id ← identifier_of from
  frame_with id (get (codes "data") from) (get (codes "remote") from)
