-- What is asked for goes by the name of the subcommand, and of `run` by its options too.
use Rattle.std.proofs.Common.{rules, refl, ◌≡◌, List, ℕ, codes, Option, None, Some, IfSome}
use Rattle.clap.specs.Words.{subcommand_name_of}
use Rattle.gw_command.specs.Words.{IsRunTask, name_of}
use Rattle.gw_command.specs.declared.task.Task.{Task}
use Rattle.gw_command.specs.declared.task.Task.TheVariants.{Core, Run, RunThreads}
use Rattle.gw_command.proofs.command.asked_by.Goals as goal

-- whatever `run` is asked to do goes by its name
goes_by_run : (o : Option Task) (name : Option (List ℕ)) → IfSome o IsRunTask → name ≡ Some (codes "run") →
    IfSome o (λ task. name ≡ Some (name_of task))
goes_by_run None name h is = tt
goes_by_run (Some Core) name h is = absurd h
goes_by_run (Some (Run turn)) name h is = is
goes_by_run (Some (RunThreads threads slack)) name h is = is

pub returns-in-Some-core-clause-core : goal.returns-in-Some-core-clause-core
returns-in-Some-core-clause-core c _ = refl

pub returns-in-Some-clause-run : goal.returns-in-Some-clause-run
returns-in-Some-clause-run c = search rules

pub returns-in-Some-clause-threads : goal.returns-in-Some-clause-threads
returns-in-Some-clause-threads c = search rules

pub returns-in-Some-clause-name : goal.returns-in-Some-clause-name
returns-in-Some-clause-name c =
    let named : subcommand_name_of c.args.matches.now ≡ Some (codes "run") = search rules in
    goes_by_run c.options_of.result _ c.options_of.ensures.run named
