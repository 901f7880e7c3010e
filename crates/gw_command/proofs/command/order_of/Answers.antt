-- The task and the file are those that the subcommand's own words give.
use Rattle.std.proofs.Common.{◌≡◌, ◌∙◌, ap, ap₂, sym, option_map, Some}
use Rattle.std.specs.Prelude.{unwrap_or}
use Rattle.gw_command.specs.declared.task.Task.TheVariants.{Core, Run, RunThreads}
use Rattle.gw_command.proofs.CommandLine.{name_from_rows}
use Rattle.gw_command.proofs.command.order_of.Goals as goal

pub returns-clause-core : goal.returns-clause-core
returns-clause-core c rows met =
    let asked = c.asked_by.ensures.core (name_from_rows c.args.matches.now ∙ ap (option_map (λ p. p.0)) met) in
    let task_is : c.in_ok-task.task ≡ Core = ap (λ o. unwrap_or o Core) (sym c.in_ok-task.was ∙ asked) in
    ap₂ (λ t f. Some (t, f)) task_is (c.file_of-file.ensures _ rows met)

pub returns-clause-run : goal.returns-clause-run
returns-clause-run c rows n met turn is none =
    let asked = c.asked_by.ensures.run rows n met turn is none in
    let task_is : c.in_ok-task.task ≡ Run n = ap (λ o. unwrap_or o Core) (sym c.in_ok-task.was ∙ asked) in
    ap₂ (λ t f. Some (t, f)) task_is (c.file_of-file.ensures _ rows met)

pub returns-clause-threads : goal.returns-clause-threads
returns-clause-threads c rows n m met some there slack is =
    let asked = c.asked_by.ensures.threads rows n m met some there slack is in
    let task_is : c.in_ok-task.task ≡ RunThreads n m = ap (λ o. unwrap_or o Core) (sym c.in_ok-task.was ∙ asked) in
    ap₂ (λ t f. Some (t, f)) task_is (c.file_of-file.ensures _ rows met)
