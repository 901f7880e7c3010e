-- What is written is the report on a run of the script that was read, or a front of it.
use Rattle.gw_command.specs.declared.task.Task.TheVariants as task
use Rattle.gw_tool.proofs.Endings.{run_answer}
use Rattle.gw_tool.proofs.threads_command.threads_to.Goals as goal

pub returns : goal.returns
returns g c =
    c.report_to.ensures (task.RunThreads c.args.threads c.args.slack) c.args.bytes.now
    (run_answer (task.RunThreads c.args.threads c.args.slack) c.args.bytes.now c.in-Ok.script
    c.in-Ok-threaded_report.report c.in-Ok.ensures.ok c.in-Ok-threaded_report.ensures tt)
