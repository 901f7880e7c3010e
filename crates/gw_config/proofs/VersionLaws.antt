-- What the fields of versions 1 and 2 are: without a bit rate a duration is a whole number.
use Rattle.std.proofs.Common.{◌≡◌, refl, ℕ, ◌&&◌, nat_le, List, None, Ok, Err, ap, if◌then◌else◌}
use Rattle.serde_json.specs.Data.{Data, null, boolean, number, string, array, object}
use Rattle.serde_json.specs.Find.{as_str}
use Rattle.gw_fields.specs.Faults.{out_of_range}
use Rattle.gw_fields.specs.Fields.{◌>>=◌, field, natural_of, whole_of, whole}
use Rattle.gw_fields.specs.Durations.{duration_with, duration_of, duration}

bits_alone : (name : List ℕ) (value : Data) → duration_with name None value (as_str value) ≡ natural_of name value
unfolding natural_of
bits_alone name null = refl
bits_alone name (boolean b) = refl
bits_alone name (number n) = refl
bits_alone name (string s) = refl
bits_alone name (array ds) = refl
bits_alone name (object ms) = refl

bits_between : (name : List ℕ) (low high : ℕ) (value : Data) →
    duration_of name low high None value ≡ whole_of name low high value
unfolding duration_of whole_of
bits_between name low high value =
    ap (λ r. r >>= λ n. if nat_le low n && nat_le n high then Ok n else Err (out_of_range name)) (bits_alone name value)

-- a field that is a duration without a rate
pub duration-None : (name : List ℕ) (low high : ℕ) (from : Data) →
    duration name low high None from ≡ whole name low high from
unfolding duration whole
duration-None name low high from =
    elim (field name from) as (λ r. (r >>= duration_of name low high None) ≡ (r >>= whole_of name low high)) [
      | Ok value ↦ bits_between name low high value
      | Err fault ↦ refl
    ]
