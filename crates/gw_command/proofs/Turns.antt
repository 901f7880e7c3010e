-- The number of `--turn`, as it is read.
use Rattle.std.proofs.Common.{◌≡◌, ℕ, ◌≤◌, List, Option, Some, None, Result, Ok, Err, refl, arith}
use Rattle.std.specs.Fmt.{decimal}
use Rattle.std.specs.Str.Parse.{ParsesUnsigned}
use Rattle.std.proofs.lemmas.Fmt.{parse-decimal}
use Rattle.clap.specs.Words.{ReadsOne}

-- a number of at most 1,000,000 that is written in digits is read as itself
pub reads_decimal : {E : Type 0} (gives : List ℕ → Result ℕ E → Type 0) (n : ℕ) (o : Option ℕ) → n ≤ 1000000 →
    ((r : Result ℕ E) → gives (decimal n) r → ParsesUnsigned 32 10 (decimal n) r) → ReadsOne gives (decimal n) o →
    o ≡ Some n
reads_decimal {E} gives n (Some v) few parses read =
    let r : Result ℕ E = Ok v in
    let is : r ≡ Ok n = parse-decimal 32 n (decimal n) r (omega arith) (omega arith) refl (parses r read) in cc
reads_decimal {E} gives n None few parses (e, read) =
    let r : Result ℕ E = Err e in
    let is : r ≡ Ok n = parse-decimal 32 n (decimal n) r (omega arith) (omega arith) refl (parses r read) in cc
