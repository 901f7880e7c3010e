-- Identifiers as texts, and identifiers with a mask, as a filter accepts them.
use Rattle.std.specs.Prelude.{ℕ, ◌==◌, ◌^◌, ◌-◌, true, false, List, length, codes}
use Rattle.std.specs.Prelude.{Option, Some, None, Result, Ok, Err, if◌then◌else◌}
use Rattle.can_frame.specs.Frames.{Identifier, standard, extended}
use Rattle.gw_fields.specs.declared.accept.Accept.{Accept}
use Rattle.gw_fields.specs.Faults.{Fault, out_of_range}
use Rattle.gw_fields.specs.Fields.{◌>>=◌, or_fault}
use Rattle.gw_fields.specs.Frames.{identifier_with}
use Rattle.gw_fields.specs.Digits.{number_in, parts_around}

-- three hexadecimal digits are a standard identifier, eight are an extended one, each with its range
unfoldable pub identifier_text : List ℕ → List ℕ → Result Identifier Fault
identifier_text name text = do
  n ← or_fault (out_of_range name) (number_in 16 text)
  if length text == 3 then identifier_with name false n
      else (if length text == 8 then identifier_with name true n else Err (out_of_range name))

-- the mask in which all bits of an identifier of this format are set
abbrev pub all_bits : Identifier → ℕ
all_bits (standard n) = 2 ^ 11 - 1
all_bits (extended n) = 2 ^ 29 - 1

-- an identifier, and a mask that is written as an identifier of the same format
abbrev pub masked : Identifier → Identifier → Result Accept Fault
masked (standard n) (standard mask) = Ok (record { id = standard n; mask = mask })
masked (extended n) (extended mask) = Ok (record { id = extended n; mask = mask })
masked (standard n) (extended mask) = Err (out_of_range (codes "accept"))
masked (extended n) (standard mask) = Err (out_of_range (codes "accept"))

-- one identifier, all bits of which must match; or an identifier and a mask, before and after a colon
abbrev pub accept_parts : List ℕ → Option (List ℕ × List ℕ) → Result Accept Fault
accept_parts text None = do
  id ← identifier_text (codes "accept") text
  Ok (record { id = id; mask = all_bits id })
accept_parts text (Some parts) = do
  id ← identifier_text (codes "accept") parts.0
  mask ← identifier_text (codes "accept") parts.1
  masked id mask

-- the colon (58) is the first one of the text
unfoldable pub accept_text : List ℕ → Result Accept Fault
accept_text text = accept_parts text (parts_around 58 text)
