-- What clap makes of the words that ask for a command.
use Rattle.std.proofs.Common.{◌≡◌, ◌∙◌, ◌<◌, ◌≤◌, ◌^◌, ℕ, List, [], ◌∷◌, ◌++◌, ap, codes, Bool, true, false, option_map}
use Rattle.std.proofs.Common.{Option, Some, None, refl, subst, arith, get_or}
use Rattle.std.specs.Prelude.{pos, ◌≤ℤ◌, FitsSigned, zero, suc, ◌+◌, ◌-◌}
use Rattle.std.specs.Int.{w64}
use Rattle.std.specs.Str.Parse.{IsNumeral, digits_value, signed_digits_value, without_leading_sign}
use Rattle.std.proofs.lemmas.Fmt.{decimal_is_IsNumeral, decimal_digit, decimal_step, first_decimal}
use Rattle.std.proofs.lemmas.Int.{ints}
use Rattle.std.proofs.lemmas.Str.Parse.{digit_from_value}
use Rattle.std.specs.Fmt.{decimal}
use Rattle.clap.specs.Words.{Row, Text, is_simple, one_of, subcommand_name_of, subcommand_of, subcommand_rows_of, takes}
use Rattle.clap.specs.ValueTests.{accepts}
use Rattle.clap.specs.declared.parser.matches.ArgMatches.{ArgMatches}
use Rattle.clap.specs.declared.parser.matches.ValueSource.TheVariants.{DefaultValue, CommandLine}
use Rattle.clap.specs.declared.builder.value_parser.Reading.TheVariants.{WithoutMinus}
use Rattle.clap.specs.declared.builder.value_parser.ValueParser.{ValueParser}
use Rattle.clap.specs.declared.builder.value_parser.ValueParser.TheVariants.{Signed}
use Rattle.clap.proofs.ValueTestLemmas.{Accepts-accepts}
use Rattle.clap.proofs.OnLiterals.{clap_on_literals}
use Rattle.gw_command.specs.Words.{bxgate_app, IsTurn, IsThreads}

pub is_simple_app : is_simple bxgate_app ≡ true
unfolding clap_on_literals
is_simple_app = refl

composed : {A B C : Type 0} (f : A → B) (g : B → C) (o : Option A) →
    option_map (λ x. g (f x)) o ≡ option_map g (option_map f o)
composed f g None = refl
composed f g (Some x) = refl

-- the name of the subcommand that was met is the first of what was met of it
pub name_from_rows : (m : ArgMatches) → subcommand_name_of m ≡ option_map (λ p. p.0) (subcommand_rows_of m)
name_from_rows m = composed _ (λ p. p.0) _

-- `core`
pub core_is_met : (name : Text) → subcommand_of bxgate_app (name ∷ codes "core" ∷ []) ≡ Some (codes "core", [])
unfolding clap_on_literals
core_is_met name = refl

pub core_is_taken : (name : Text) → takes bxgate_app (name ∷ codes "core" ∷ []) ≡ true
unfolding clap_on_literals
core_is_taken name = refl

-- no word at all
pub nothing_is_met : (name : Text) → option_map (λ p. p.0) (subcommand_of bxgate_app (name ∷ [])) ≡ None
unfolding clap_on_literals
nothing_is_met name = refl

pub nothing_is_taken : (name : Text) → takes bxgate_app (name ∷ []) ≡ true
unfolding clap_on_literals
nothing_is_taken name = refl

-- the row of the slack where it isn't given
abbrev pub slack_row : Row
slack_row = record {
  id = codes "slack";
  values = codes "64" ∷ [];
  count = None;
  source = Some DefaultValue;
  reading = WithoutMinus;
}

-- the rows of `run` with this number
abbrev pub rows_of_run : Bool → Text → List Row
rows_of_run given text = record {
  id = codes "turn";
  values = text ∷ [];
  count = None;
  source = Some (elim given [ true ↦ CommandLine | false ↦ DefaultValue ]);
  reading = WithoutMinus;
} ∷ slack_row ∷ []

-- `run`
pub run_is_met : (name : Text) → subcommand_of bxgate_app (name ∷ codes "run" ∷ [])
    ≡ Some (codes "run", rows_of_run false (codes "1"))
unfolding clap_on_literals
run_is_met name = refl

pub alone_at_first : one_of (codes "threads") (rows_of_run false (codes "1")) ≡ None
unfolding clap_on_literals
alone_at_first = refl

pub run_is_taken : (name : Text) → takes bxgate_app (name ∷ codes "run" ∷ []) ≡ true
unfolding clap_on_literals
run_is_taken name = refl

-- `run --turn` with this text
abbrev pub turns : Text → Text → List Text
turns name text = name ∷ codes "run" ∷ codes "--turn" ∷ text ∷ []

pub record IsMet (name text : Text) : Type 0 where
  pub met : subcommand_of bxgate_app (turns name text) ≡ Some (codes "run", rows_of_run true text)
  pub one : one_of (codes "turn") (rows_of_run true text) ≡ Some text
  pub alone : one_of (codes "threads") (rows_of_run true text) ≡ None
  pub taken : takes bxgate_app (turns name text) ≡ true

-- it is a number from 1 to this one, and has no sign
abbrev IsUpTo : ℕ → Text → Type 0
IsUpTo most text = IsNumeral 10 text × (0 < digits_value 10 text) × (digits_value 10 text ≤ most)

-- a number that `--turn` takes
abbrev IsNumber : Text → Type 0
IsNumber text = IsUpTo 1000000 text

abbrev one_to : ℕ → ValueParser
one_to most = Signed (pos 1) (pos most)

accepted_to : (most : ℕ) (text : Text) (v : ℕ) → most ≤ 1000000 → without_leading_sign text ≡ text →
    signed_digits_value 10 text ≡ pos v → v ≡ digits_value 10 text → IsUpTo most text →
    accepts false (one_to most) text ≡ true
accepted_to most text v limit plain value value_is (numeral, some, few) =
    let low : pos 1 ≤ℤ pos v = omega (arith, ints) in
    let high : pos v ≤ℤ pos most = omega (arith, ints) in
    let fits : FitsSigned w64 (pos v) = record { sfits = omega arith } in
    Accepts-accepts false (one_to most) text
    (rw plain numeral, rw value fits, rw value low, rw value high)

accepted : (text : Text) (v : ℕ) → without_leading_sign text ≡ text → signed_digits_value 10 text ≡ pos v →
    v ≡ digits_value 10 text → IsNumber text →
    accepts false (one_to 1000000) text ≡ true
accepted text v plain value value_is h = accepted_to 1000000 text v (omega arith) plain value value_is h

first_digit : (name ds : Text) (k : ℕ) → k < 9 → IsNumber ((49 + k) ∷ ds) → IsMet name ((49 + k) ∷ ds)
unfolding clap_on_literals
first_digit name ds zero lt h =
    record { met = refl; one = refl; alone = refl; taken = rw (accepted (49 ∷ ds) _ refl refl refl h) refl }
first_digit name ds (suc zero) lt h =
    record { met = refl; one = refl; alone = refl; taken = rw (accepted (50 ∷ ds) _ refl refl refl h) refl }
first_digit name ds (suc (suc zero)) lt h =
    record { met = refl; one = refl; alone = refl; taken = rw (accepted (51 ∷ ds) _ refl refl refl h) refl }
first_digit name ds (suc (suc (suc zero))) lt h =
    record { met = refl; one = refl; alone = refl; taken = rw (accepted (52 ∷ ds) _ refl refl refl h) refl }
first_digit name ds (suc (suc (suc (suc zero)))) lt h =
    record { met = refl; one = refl; alone = refl; taken = rw (accepted (53 ∷ ds) _ refl refl refl h) refl }
first_digit name ds (suc (suc (suc (suc (suc zero))))) lt h =
    record { met = refl; one = refl; alone = refl; taken = rw (accepted (54 ∷ ds) _ refl refl refl h) refl }
first_digit name ds (suc (suc (suc (suc (suc (suc zero)))))) lt h =
    record { met = refl; one = refl; alone = refl; taken = rw (accepted (55 ∷ ds) _ refl refl refl h) refl }
first_digit name ds (suc (suc (suc (suc (suc (suc (suc zero))))))) lt h =
    record { met = refl; one = refl; alone = refl; taken = rw (accepted (56 ∷ ds) _ refl refl refl h) refl }
first_digit name ds (suc (suc (suc (suc (suc (suc (suc (suc zero)))))))) lt h =
    record { met = refl; one = refl; alone = refl; taken = rw (accepted (57 ∷ ds) _ refl refl refl h) refl }
first_digit name ds (suc (suc (suc (suc (suc (suc (suc (suc (suc k))))))))) lt h = absurd (omega arith)

in_digits : (name text : Text) → IsNumber text → 48 < get_or text 0 0 → IsMet name text
in_digits name [] h some = absurd (omega arith)
in_digits name (d ∷ ds) h some =
    let range = digit_from_value d h.0.1.0 in
    let d_is : 49 + (d - 49) ≡ d = omega arith in
    let P : ℕ → Type 0 = λ e. IsNumber (e ∷ ds) → IsMet name (e ∷ ds) in
    subst P d_is (first_digit name ds (d - 49) (omega arith)) h

-- `run --turn` with a number from 1 to 1,000,000
pub turns_are_met : (name : Text) (n : ℕ) → IsTurn n → IsMet name (decimal n)
turns_are_met name n (some, few) =
    let small : n < 2 ^ 64 = omega arith in
    let is = decimal_is_IsNumeral n small in
    let number : IsNumber (decimal n) = (is.0, rw is.1 some, rw is.1 few) in
    in_digits name (decimal n) number (first_decimal n some small)

-- the rows of `run` in threads: this many, and the defaults
abbrev pub rows_of_threads : Text → List Row
rows_of_threads text = record {
  id = codes "threads";
  values = text ∷ [];
  count = None;
  source = Some CommandLine;
  reading = WithoutMinus;
} ∷ rows_of_run false (codes "1")

-- `run --threads` with this text
abbrev pub threads : Text → Text → List Text
threads name text = name ∷ codes "run" ∷ codes "--threads" ∷ text ∷ []

pub record IsMetInThreads (name text : Text) : Type 0 where
  pub met : subcommand_of bxgate_app (threads name text) ≡ Some (codes "run", rows_of_threads text)
  pub slack : one_of (codes "slack") (rows_of_threads text) ≡ Some (codes "64")
  pub one : one_of (codes "threads") (rows_of_threads text) ≡ Some text
  pub taken : takes bxgate_app (threads name text) ≡ true

first_of_threads : (name ds : Text) (k : ℕ) → k < 9 → IsUpTo 16 ((49 + k) ∷ ds) → IsMetInThreads name ((49 + k) ∷ ds)
unfolding clap_on_literals
first_of_threads name ds zero lt h = record {
  met = refl;
  slack = refl;
  one = refl;
  taken = rw (accepted_to 16 (49 ∷ ds) _ (omega arith) refl refl refl h) refl;
}
first_of_threads name ds (suc zero) lt h = record {
  met = refl;
  slack = refl;
  one = refl;
  taken = rw (accepted_to 16 (50 ∷ ds) _ (omega arith) refl refl refl h) refl;
}
first_of_threads name ds (suc (suc zero)) lt h = record {
  met = refl;
  slack = refl;
  one = refl;
  taken = rw (accepted_to 16 (51 ∷ ds) _ (omega arith) refl refl refl h) refl;
}
first_of_threads name ds (suc (suc (suc zero))) lt h = record {
  met = refl;
  slack = refl;
  one = refl;
  taken = rw (accepted_to 16 (52 ∷ ds) _ (omega arith) refl refl refl h) refl;
}
first_of_threads name ds (suc (suc (suc (suc zero)))) lt h = record {
  met = refl;
  slack = refl;
  one = refl;
  taken = rw (accepted_to 16 (53 ∷ ds) _ (omega arith) refl refl refl h) refl;
}
first_of_threads name ds (suc (suc (suc (suc (suc zero))))) lt h =
    record {
      met = refl;
      slack = refl;
      one = refl;
      taken =
          rw (accepted_to 16 (54 ∷ ds) _ (omega arith) refl refl refl h) refl;
    }
first_of_threads name ds (suc (suc (suc (suc (suc (suc zero)))))) lt h =
    record {
      met = refl;
      slack = refl;
      one = refl;
      taken =
          rw (accepted_to 16 (55 ∷ ds) _ (omega arith) refl refl refl h) refl;
    }
first_of_threads name ds (suc (suc (suc (suc (suc (suc (suc zero))))))) lt h =
    record {
      met = refl;
      slack = refl;
      one = refl;
      taken =
          rw (accepted_to 16 (56 ∷ ds) _ (omega arith) refl refl refl h) refl;
    }
first_of_threads name ds (suc (suc (suc (suc (suc (suc (suc (suc zero)))))))) lt h =
    record {
      met = refl;
      slack = refl;
      one = refl;
      taken =
          rw (accepted_to 16 (57 ∷ ds) _ (omega arith) refl refl refl h) refl;
    }
first_of_threads name ds (suc (suc (suc (suc (suc (suc (suc (suc (suc k))))))))) lt h = absurd (omega arith)

digits_of_threads : (name text : Text) → IsUpTo 16 text → 48 < get_or text 0 0 → IsMetInThreads name text
digits_of_threads name [] h some = absurd (omega arith)
digits_of_threads name (d ∷ ds) h some =
    let range = digit_from_value d h.0.1.0 in
    let d_is : 49 + (d - 49) ≡ d = omega arith in
    let P : ℕ → Type 0 = λ e. IsUpTo 16 (e ∷ ds) → IsMetInThreads name (e ∷ ds) in
    subst P d_is (first_of_threads name ds (d - 49) (omega arith)) h

-- `run --threads` with a number from 1 to 16
pub threads_are_met : (name : Text) (n : ℕ) → IsThreads n → IsMetInThreads name (decimal n)
threads_are_met name n (some, few) =
    let small : n < 2 ^ 64 = omega arith in
    let is = decimal_is_IsNumeral n small in
    let number : IsUpTo 16 (decimal n) = (is.0, rw is.1 some, rw is.1 few) in
    digits_of_threads name (decimal n) number (first_decimal n some small)

-- the slack where none is given
pub sixty_four : decimal 64 ≡ codes "64"
sixty_four = decimal_step 64 (omega arith) (omega arith) ∙ ap (λ ds. ds ++ 52 ∷ []) (decimal_digit 6 (omega arith))
