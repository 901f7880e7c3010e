-- Durations: a number of bits, or a text of digits and a unit of time where bits have a rate.
use Rattle.std.specs.Prelude.{ℕ, ◌*◌, ◌/◌, ◌&&◌, nat_le, List, length, drop, codes}
use Rattle.std.specs.Prelude.{Option, Some, None, option_map, option_and_then, Result, Ok, Err, if◌then◌else◌}
use Rattle.std.specs.Char.{is_ascii_digit}
use Rattle.std.specs.List.{take_while, prefix_len}
use Rattle.std.specs.Str.{bytes_eq}
use Rattle.serde_json.specs.Data.{Data}
use Rattle.serde_json.specs.Find.{get, as_str}
use Rattle.gw_fields.specs.Faults.{Fault, wrong_kind, out_of_range}
use Rattle.gw_fields.specs.Fields.{◌>>=◌, or_fault, field, natural_of}
use Rattle.gw_fields.specs.Digits.{number_in}
use Rattle.gw_fields.specs.Optional.{where_given}

-- how many of the unit make a second
abbrev pub in_second : List ℕ → Option ℕ
in_second unit =
    if bytes_eq unit (codes "us") then Some 1000000
    else (if bytes_eq unit (codes "ms") then Some 1000
    else (if bytes_eq unit (codes "s") then Some 1
    else None))

-- the bits of a duration of `digits` units at `rate` bits a second, rounded down
abbrev pub bits_of : ℕ → List ℕ → List ℕ → Option ℕ
bits_of rate digits unit =
    option_and_then (λ number. option_map (λ parts. number * rate / parts) (in_second unit)) (number_in 10 digits)

-- a number of 1 to 9 digits, and a unit of time
abbrev pub duration_parts : ℕ → List ℕ → List ℕ → Option ℕ
duration_parts rate digits unit =
    if nat_le 1 (length digits) && nat_le (length digits) 9 then bits_of rate digits unit else None

-- the decimal digits that the text begins with are the number, and the rest of the text is the unit
unfoldable pub duration_text : ℕ → List ℕ → Option ℕ
duration_text rate text =
    duration_parts rate (take_while is_ascii_digit text) (drop (prefix_len is_ascii_digit text) text)

-- a text where there is a rate, or a whole number of bits
abbrev pub duration_with : List ℕ → Option ℕ → Data → Option (List ℕ) → Result ℕ Fault
duration_with name rate value (Some text) =
    or_fault (wrong_kind name) (option_and_then (λ r. duration_text r text) rate)
duration_with name rate value None = natural_of name value

-- a duration from low to high bits
unfoldable pub duration_of : List ℕ → ℕ → ℕ → Option ℕ → Data → Result ℕ Fault
duration_of name low high rate value = do
  bits ← duration_with name rate value (as_str value)
  if nat_le low bits && nat_le bits high then Ok bits else Err (out_of_range name)

unfoldable pub duration : List ℕ → ℕ → ℕ → Option ℕ → Data → Result ℕ Fault
duration name low high rate from = do
  value ← field name from
  duration_of name low high rate value

unfoldable pub optional_duration : List ℕ → ℕ → ℕ → Option ℕ → Data → Result (Option ℕ) Fault
optional_duration name low high rate from = where_given (duration_of name low high rate) (get name from)
