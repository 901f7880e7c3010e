-- It goes by whether a number of threads is given.
use Rattle.std.proofs.Common.{◌≡◌, Some, subst, sym}
use Rattle.gw_command.specs.Words.{IsThreads}
use Rattle.gw_command.specs.declared.task.Task.TheVariants.{RunThreads}
use Rattle.gw_command.proofs.command.run_of.Goals as goal

pub returns-in-Some-clause-threads : goal.returns-in-Some-clause-threads
returns-in-Some-clause-threads c n m is some there slack =
    let same : c.in-Some.threads ≡ n = cc in
    subst (λ t. c.threaded_of.result ≡ Some (RunThreads t m)) same
    (c.threaded_of.ensures.asked m there slack (subst IsThreads (sym same) some))
