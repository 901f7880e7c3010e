-- What clap makes of a word that names a file.
use Rattle.std.proofs.Common.{◌≡◌, ℕ, List, [], ◌∷◌, codes, Bool, true, false, Option, Some, None, refl, sym, ap, ◌∙◌}
use Rattle.std.specs.Prelude.{◌≢◌, ◌&&◌, if◌then◌else◌}
use Rattle.std.specs.List.{list_all}
use Rattle.std.specs.Str.{bytes_eq}
use Rattle.std.proofs.lemmas.Bool.{ne_eqb}
use Rattle.clap.specs.Lexer.{long_of, short_of}
use Rattle.clap.specs.Simple.{Shape, built_leaf, inherited, marked_built, on_top, with_leaf_noted}
use Rattle.clap.specs.Takes.{default_passes, is_valid, level_passes, settle_passes, step_passes}
use Rattle.clap.specs.Walk.{Held, Walk, after_step, arg_by_index, finished, idle, nothing_held, to_positional, value}
use Rattle.clap.specs.Walk.{walk, walk_from, word_met}
use Rattle.clap.specs.Words.{Row, Rule, Text, one_of, subcommand_of, takes}
use Rattle.clap.specs.declared.parser.matches.ValueSource.TheVariants.{CommandLine}
use Rattle.clap.specs.declared.builder.value_parser.Reading.TheVariants.{AsWritten}
use Rattle.clap.proofs.OnLiterals.{clap_on_literals}
use Rattle.gw_command.specs.Words.{IsFileName, bxgate_app, core_app, file_named, run_app}
use Rattle.gw_command.proofs.CommandLine.{rows_of_run}

-- a word that doesn't begin with a hyphen is no `--`, and has no option's long or short name
no_dashes : (c : ℕ) (cs : Text) → c ≢ 45 → bytes_eq (c ∷ cs) (codes "--") ≡ false
no_dashes c cs is = rw (ne_eqb c 45 is) refl

no_long : (c : ℕ) (cs : Text) → c ≢ 45 → long_of (c ∷ cs) ≡ None
no_long c cs is = rw (ne_eqb c 45 is) refl

no_short : (c : ℕ) (cs : Text) → c ≢ 45 → short_of (c ∷ cs) ≡ None
no_short c cs is = rw (ne_eqb c 45 is) refl

-- so it is a value
is_value : (rules : List Rule) (c : ℕ) (cs : Text) (h : Held) → c ≢ 45 →
    word_met rules [] false idle 1 (c ∷ cs) h ≡ (h, value)
unfolding clap_on_literals
is_value rules c cs h is = rw (no_dashes c cs is, no_long c cs is, no_short c cs is) refl

-- the walk over one value
abbrev walk_over : List Rule → Text → Walk
walk_over rules word = to_positional rules (arg_by_index rules 1) word (walk_from nothing_held) nothing_held

walk_is : (rules : List Rule) (c : ℕ) (cs : Text) → c ≢ 45 → walk rules [] nothing_held ((c ∷ cs) ∷ [])
    ≡ walk_over rules (c ∷ cs)
unfolding clap_on_literals
walk_is rules c cs is =
    ap (λ m. after_step rules (c ∷ cs) (walk_from nothing_held) m.0 m.1) (is_value rules c cs nothing_held is)

-- whether a command takes one value
abbrev takes_value : Shape → Walk → Bool
takes_value s end = (step_passes s 1 nothing_held value && true)
    && (settle_passes s.rules s.args_override_self end.held
    && (list_all default_passes s.rules && is_valid s (finished s.rules end.held) false))

level_is : (s : Shape) (c : ℕ) (cs : Text) → c ≢ 45 → level_passes s [] nothing_held ((c ∷ cs) ∷ []) false
    ≡ takes_value s (walk_over s.rules (c ∷ cs))
unfolding clap_on_literals
level_is s c cs is = rw (no_dashes c cs is, no_long c cs is, no_short c cs is) refl

-- a command as it stands below the program
abbrev below : Shape → Shape
below s = built_leaf (inherited (on_top with_leaf_noted (on_top marked_built bxgate_app)).top s)

-- the row of a file
abbrev pub file_row : Text → Row
file_row file = record {
  id = codes "file";
  values = file ∷ [];
  count = None;
  source = Some CommandLine;
  reading = AsWritten;
}

-- the command is met with this file, and with these defaults
pub record IsMetWithFile (name command file : Text) (defaults : List Row) : Type 0 where
  pub met : subcommand_of bxgate_app (name ∷ command ∷ file ∷ []) ≡ Some (command, file_row file ∷ defaults)
  pub taken : takes bxgate_app (name ∷ command ∷ file ∷ []) ≡ true

-- `core -`
pub core_hyphen_is_met : (name : Text) → IsMetWithFile name (codes "core") (codes "-") []
unfolding clap_on_literals
core_hyphen_is_met name = record { met = refl; taken = refl }

-- `core` with a file
pub core_file_is_met : (name file : Text) → IsFileName file → IsMetWithFile name (codes "core") file []
unfolding clap_on_literals
core_file_is_met name [] is = record { met = refl; taken = refl }
core_file_is_met name (c ∷ cs) is = record {
  met = ap (λ (w : Walk). Some (codes "core", finished (below core_app.top).rules w.held))
      (walk_is (below core_app.top).rules c cs is);
  taken = ap (λ b. b && true) (level_is (below core_app.top) c cs is);
}

-- `run -`
pub run_hyphen_is_met : (name : Text) → IsMetWithFile name (codes "run") (codes "-") (rows_of_run false (codes "1"))
unfolding clap_on_literals
run_hyphen_is_met name = record { met = refl; taken = refl }

-- `run` with a file
pub run_file_is_met : (name file : Text) → IsFileName file →
    IsMetWithFile name (codes "run") file (rows_of_run false (codes "1"))
unfolding clap_on_literals
run_file_is_met name [] is = record { met = refl; taken = refl }
run_file_is_met name (c ∷ cs) is = record {
  met = ap (λ (w : Walk). Some (codes "run", finished (below run_app.top).rules w.held))
      (walk_is (below run_app.top).rules c cs is);
  taken = ap (λ b. b && true) (level_is (below run_app.top) c cs is);
}

pub alone_with_file : (file : Text) → one_of (codes "threads") (file_row file ∷ rows_of_run false (codes "1")) ≡ None
alone_with_file file = refl

-- the name of a file is no `-`
pub is_named : (file : Text) → IsFileName file → file_named (Some file) ≡ Some file
is_named [] is = refl
is_named (c ∷ cs) is = rw (ne_eqb c 45 is) refl

-- the file by what a test for `-` tells of the word
pub named_by : (word : Text) (first : Option Text) (test answer : Bool) → Some word ≡ first →
    test ≡ bytes_eq word (codes "-") → test ≡ answer
    → file_named first ≡ (if answer then None else Some word)
named_by word first test answer is tests told =
    ap file_named (sym is) ∙ ap (λ t. if t then None else Some word) (sym tests ∙ told)
