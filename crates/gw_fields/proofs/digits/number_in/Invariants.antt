use Rattle.std.proofs.Common.{◌≡◌, true, take}
use Rattle.std.specs.Char.{is_digit}
use Rattle.std.specs.List.{list_all}
use Rattle.std.specs.Str.Parse.{digits_value}
use Rattle.gw_fields.proofs.digits.number_in.Given as goal

abbrev pub invariant-loop-digit : goal.invariant-loop-digit
invariant-loop-digit l = record {
  digits : list_all (λ c. is_digit c l.fn.radix) (take l.digit-index l.digits) ≡ true;
  number : l.number ≡ digits_value l.fn.radix (take l.digit-index l.digits);
}
