-- Numbers that are written in digits, and texts of two parts.
use Rattle.std.specs.Prelude.{ℕ, ◌==◌, List, Option, Some, None, if◌then◌else◌}
use Rattle.std.specs.Char.{is_digit}
use Rattle.std.specs.List.{list_all, list_any, before_first, after_first}
use Rattle.std.specs.Str.Parse.{digits_value}

-- the number that these digits write in this radix, letters in either case, and `None` where one of them is no digit
abbrev pub number_in : ℕ → List ℕ → Option ℕ
number_in radix digits = if list_all (λ c. is_digit c radix) digits then Some (digits_value radix digits) else None

-- the parts of a text before and after the first such byte, and `None` where the text doesn't have the byte
abbrev pub parts_around : ℕ → List ℕ → Option (List ℕ × List ℕ)
parts_around byte text = if list_any (λ b. b == byte) text
    then Some (before_first (λ b. b == byte) text, after_first (λ b. b == byte) text) else None
