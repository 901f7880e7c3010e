-- A frame as a text: an identifier, `#`, and its bytes or, of a remote frame, `R` and its data length code.
use Rattle.std.specs.Prelude.{ℕ, ◌==◌, ◌-◌, nat_le, List, [], ◌∷◌, length, codes}
use Rattle.std.specs.Prelude.{Option, Some, None, Result, Ok, Err, if◌then◌else◌}
use Rattle.std.specs.Int.{is_in_range}
use Rattle.std.specs.Result.{result_ok}
use Rattle.hex.specs.Hex.{decode_of}
use Rattle.can_frame.specs.Frames.{Identifier, data_bytes, remote_code, FrameValue}
use Rattle.gw_fields.specs.Faults.{Fault, out_of_range}
use Rattle.gw_fields.specs.Fields.{◌>>=◌, or_fault}
use Rattle.gw_fields.specs.Digits.{parts_around}
use Rattle.gw_fields.specs.IdentifierTexts.{identifier_text}

-- at most eight bytes of two hexadecimal digits each, with nothing between
abbrev pub data_text : Identifier → List ℕ → Result FrameValue Fault
data_text id digits = do
  bytes ← or_fault (out_of_range (codes "frame")) (result_ok (decode_of digits))
  if nat_le (length bytes) 8 then Ok (record { id = id; content = data_bytes bytes })
      else Err (out_of_range (codes "frame"))

-- a data length code is one digit from `0` (48) to `8` (56); no digit is the code 0
abbrev pub code_text : List ℕ → Option ℕ
code_text [] = Some 0
code_text (digit ∷ []) = if is_in_range 48 56 digit then Some (digit - 48) else None
code_text (digit ∷ more ∷ rest) = None

abbrev pub remote_text : Identifier → List ℕ → Result FrameValue Fault
remote_text id text = do
  code ← or_fault (out_of_range (codes "frame")) (code_text text)
  Ok (record { id = id; content = remote_code code })

-- a frame with this identifier: a remote frame where the text begins with `R` (82), else a data frame
abbrev pub content_text : Identifier → List ℕ → Result FrameValue Fault
content_text id [] = data_text id []
content_text id (first ∷ rest) = if first == 82 then remote_text id rest else data_text id (first ∷ rest)

-- the identifier is before the first `#` (35), the content is after it
unfoldable pub frame_text : List ℕ → Result FrameValue Fault
frame_text text = do
  parts ← or_fault (out_of_range (codes "frame")) (parts_around 35 text)
  id ← identifier_text (codes "frame") parts.0
  content_text id parts.1
