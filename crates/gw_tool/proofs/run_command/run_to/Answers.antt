-- What is written is the report on a run of the script that was read, or a front of it.
use Rattle.gw_command.specs.declared.task.Task.TheVariants as task
use Rattle.gw_tool.proofs.Endings.{run_answer}
use Rattle.gw_tool.proofs.run_command.run_to.Goals as goal

pub returns : goal.returns
returns g c =
    let made = c.in-Ok-run_inline.ensures in
    c.report_to.ensures (task.Run c.args.turn) c.args.bytes.now
    (run_answer (task.Run c.args.turn) c.args.bytes.now c.in-Ok.script c.in-Ok-run_inline.report c.in-Ok.ensures.ok (record {
      segments = made.segments;
      routes = made.routes;
      order = made.order;
      no_refill = made.no_refill;
      sum = made.sum;
      names = made.names;
    }) made.turns)
