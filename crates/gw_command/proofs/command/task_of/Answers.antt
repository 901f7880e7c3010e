-- The words are those that clap takes.
use Rattle.std.proofs.Common.{ap, sym, codes, option_map, arith, ◌∙◌, Some, refl}
use Rattle.std.proofs.lemmas.Fmt.{decimal_digit}
use Rattle.clap.specs.Words.{subcommand_of, takes}
use Rattle.gw_command.specs.Words.{bxgate_app, IsSlack, IsTurn}
use Rattle.gw_command.proofs.CommandLine.{is_simple_app, name_from_rows, core_is_met, core_is_taken, nothing_is_met}
use Rattle.gw_command.proofs.CommandLine.{nothing_is_taken, run_is_met, run_is_taken, turns_are_met, threads_are_met}
use Rattle.gw_command.proofs.CommandLine.{alone_at_first, sixty_four}
use Rattle.gw_command.proofs.FileWords.{core_hyphen_is_met, core_file_is_met, run_hyphen_is_met, run_file_is_met}
use Rattle.gw_command.proofs.FileWords.{alone_with_file, is_named}
use Rattle.gw_command.specs.declared.task.Task.TheVariants.{Core, Run}
use Rattle.gw_command.proofs.command.task_of.Goals as goal

pub returns-in-Ok-clause-core : goal.returns-in-Ok-clause-core
returns-in-Ok-clause-core g c name words_are =
    let met = (c.in-Ok.ensures.matches is_simple_app).1 ∙ ap (subcommand_of bxgate_app) words_are in
    c.order_of.ensures.core _ (met ∙ core_is_met name)

pub returns-in-Err-clause-core : goal.returns-in-Err-clause-core
returns-in-Err-clause-core g c name words_are =
    c.in-Err.ensures.fails (ap (takes bxgate_app) words_are ∙ core_is_taken name)

pub returns-in-Ok-clause-run : goal.returns-in-Ok-clause-run
returns-in-Ok-clause-run g c name words_are =
    let met = (c.in-Ok.ensures.matches is_simple_app).1 ∙ ap (subcommand_of bxgate_app) words_are in
    let turn : IsTurn 1 = (omega arith, omega arith) in
    c.order_of.ensures.run _ 1 (met ∙ run_is_met name) turn (sym (ap Some (decimal_digit 1 (omega arith))))
    alone_at_first

pub returns-in-Err-clause-run : goal.returns-in-Err-clause-run
returns-in-Err-clause-run g c name words_are =
    c.in-Err.ensures.fails (ap (takes bxgate_app) words_are ∙ run_is_taken name)

pub returns-in-Ok-clause-turns : goal.returns-in-Ok-clause-turns
returns-in-Ok-clause-turns g c name n turn words_are =
    let met = (c.in-Ok.ensures.matches is_simple_app).1 ∙ ap (subcommand_of bxgate_app) words_are in
    let given = turns_are_met name n turn in
    c.order_of.ensures.run _ n (met ∙ given.met) turn given.one given.alone

pub returns-in-Err-clause-turns : goal.returns-in-Err-clause-turns
returns-in-Err-clause-turns g c name n turn words_are =
    c.in-Err.ensures.fails (ap (takes bxgate_app) words_are ∙ (turns_are_met name n turn).taken)

pub returns-in-Ok-clause-threads : goal.returns-in-Ok-clause-threads
returns-in-Ok-clause-threads g c name n some words_are =
    let met = (c.in-Ok.ensures.matches is_simple_app).1 ∙ ap (subcommand_of bxgate_app) words_are in
    let slack : IsSlack 64 = (omega arith, omega arith) in
    let given = threads_are_met name n some in
    c.order_of.ensures.threads _ n 64 (met ∙ given.met) some given.one slack (given.slack ∙ sym (ap Some sixty_four))

pub returns-in-Err-clause-threads : goal.returns-in-Err-clause-threads
returns-in-Err-clause-threads g c name n some words_are =
    c.in-Err.ensures.fails (ap (takes bxgate_app) words_are ∙ (threads_are_met name n some).taken)

pub returns-in-Ok-clause-nothing : goal.returns-in-Ok-clause-nothing
returns-in-Ok-clause-nothing g c name words_are =
    let met = (c.in-Ok.ensures.matches is_simple_app).1 ∙ ap (subcommand_of bxgate_app) words_are in
    let none = c.order_of.ensures.nothing (name_from_rows c.in-Ok.matches ∙ ap (option_map (λ p. p.0)) met
    ∙ nothing_is_met name) in rw none refl

pub returns-in-Err-clause-nothing : goal.returns-in-Err-clause-nothing
returns-in-Err-clause-nothing g c name words_are =
    c.in-Err.ensures.fails (ap (takes bxgate_app) words_are ∙ nothing_is_taken name)

pub returns-in-Ok-clause-core_hyphen : goal.returns-in-Ok-clause-core_hyphen
returns-in-Ok-clause-core_hyphen g c name words_are =
    let met = (c.in-Ok.ensures.matches is_simple_app).1 ∙ ap (subcommand_of bxgate_app) words_are in
    c.order_of.ensures.core _ (met ∙ (core_hyphen_is_met name).met)

pub returns-in-Err-clause-core_hyphen : goal.returns-in-Err-clause-core_hyphen
returns-in-Err-clause-core_hyphen g c name words_are =
    c.in-Err.ensures.fails (ap (takes bxgate_app) words_are ∙ (core_hyphen_is_met name).taken)

pub returns-in-Ok-clause-run_hyphen : goal.returns-in-Ok-clause-run_hyphen
returns-in-Ok-clause-run_hyphen g c name words_are =
    let met = (c.in-Ok.ensures.matches is_simple_app).1 ∙ ap (subcommand_of bxgate_app) words_are in
    let turn : IsTurn 1 = (omega arith, omega arith) in
    c.order_of.ensures.run _ 1 (met ∙ (run_hyphen_is_met name).met) turn (sym (ap Some (decimal_digit 1 (omega arith))))
    (alone_with_file (codes "-"))

pub returns-in-Err-clause-run_hyphen : goal.returns-in-Err-clause-run_hyphen
returns-in-Err-clause-run_hyphen g c name words_are =
    c.in-Err.ensures.fails (ap (takes bxgate_app) words_are ∙ (run_hyphen_is_met name).taken)

pub returns-in-Ok-clause-core_file : goal.returns-in-Ok-clause-core_file
returns-in-Ok-clause-core_file g c name file is words_are =
    let met = (c.in-Ok.ensures.matches is_simple_app).1 ∙ ap (subcommand_of bxgate_app) words_are in
    let given = core_file_is_met name file is in
    c.order_of.ensures.core _ (met ∙ given.met) ∙ ap (λ f. Some (Core, f)) (is_named file is)

pub returns-in-Err-clause-core_file : goal.returns-in-Err-clause-core_file
returns-in-Err-clause-core_file g c name file is words_are =
    c.in-Err.ensures.fails (ap (takes bxgate_app) words_are ∙ (core_file_is_met name file is).taken)

pub returns-in-Ok-clause-run_file : goal.returns-in-Ok-clause-run_file
returns-in-Ok-clause-run_file g c name file is words_are =
    let met = (c.in-Ok.ensures.matches is_simple_app).1 ∙ ap (subcommand_of bxgate_app) words_are in
    let turn : IsTurn 1 = (omega arith, omega arith) in
    let given = run_file_is_met name file is in
    c.order_of.ensures.run _ 1 (met ∙ given.met) turn (sym (ap Some (decimal_digit 1 (omega arith))))
    (alone_with_file file) ∙ ap (λ f. Some (Run 1, f)) (is_named file is)

pub returns-in-Err-clause-run_file : goal.returns-in-Err-clause-run_file
returns-in-Err-clause-run_file g c name file is words_are =
    c.in-Err.ensures.fails (ap (takes bxgate_app) words_are ∙ (run_file_is_met name file is).taken)
