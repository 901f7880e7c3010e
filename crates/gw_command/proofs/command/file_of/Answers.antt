-- The file is that of the subcommand's rows, and `-` is none.
use Rattle.std.proofs.Common.{◌≡◌, ◌∙◌, ap, sym, codes, option_map, Some, List, []}
use Rattle.std.specs.Prelude.{unwrap_or}
use Rattle.clap.specs.Words.{Row, Text, first_of, first_value, found_of, rows_of, subcommand_rows_of}
use Rattle.clap.specs.declared.parser.matches.ArgMatches.{ArgMatches}
use Rattle.clap.proofs.WalkLemmas.{first_value-rows}
use Rattle.gw_command.specs.Words.{file_named}
use Rattle.gw_command.proofs.FileWords.{named_by}
use Rattle.gw_command.proofs.command.file_of.Goals as goal

-- the first value of the subcommand's matches is that of its rows
first_is : (m options : ArgMatches) (name : Text) (rows : List Row) → subcommand_rows_of m ≡ Some (name, rows)
    → Some (rows_of (found_of options)) ≡ option_map (λ p. p.1) (subcommand_rows_of m) →
    first_value (found_of options) (codes "file") ≡ first_of (codes "file") rows
first_is m options name rows met are =
    let same : rows_of (found_of options) ≡ rows = ap (λ o. unwrap_or o []) (are ∙ ap (option_map (λ p. p.1)) met) in
    first_value-rows (found_of options) (codes "file") ∙ ap (first_of (codes "file")) same

pub returns-in_err-name : goal.returns-in_err-name
returns-in_err-name c name rows met =
    let first = first_is c.args.matches.now c.in_ok-options.options.now name rows met c.in_ok-options.ensures.rows in
    ap (option_map (λ file. file.now)) c.from_residual-in_err-name.ensures
    ∙ ap file_named (c.in_err-name.ensures ∙ first)

pub returns-then-eq : goal.returns-then-eq
returns-then-eq c name rows met =
    let first = first_is c.args.matches.now c.in_ok-options.options.now name rows met c.in_ok-options.ensures.rows in
    sym (named_by _ _ _ _ (c.in_ok-name.ensures ∙ first) c.eq.ensures c.if-eq.true)

pub returns-else-eq : goal.returns-else-eq
returns-else-eq c name rows met =
    let first = first_is c.args.matches.now c.in_ok-options.options.now name rows met c.in_ok-options.ensures.rows in
    sym (named_by _ _ _ _ (c.in_ok-name.ensures ∙ first) c.eq.ensures c.if-eq.false)
