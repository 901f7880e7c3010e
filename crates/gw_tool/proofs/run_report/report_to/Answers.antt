-- The text of the report is written whole, or a front of it, or nothing for want of memory, which all tasks may want.
use Rattle.std.proofs.Common.{Err, ap}
use Rattle.gw_script.specs.ReportTexts.{report_text}
use Rattle.gw_tool.proofs.Endings.{wants_memory}
use Rattle.gw_tool.proofs.run_report.report_to.Goals as goal

pub returns-in-Ok : goal.returns-in-Ok
returns-in-Ok g c = λ task bytes answer.
    (report_text c.args.script.now c.args.report.now, answer, c.in-Ok.ensures.whole)

pub returns-in-Err-Memory : goal.returns-in-Err-Memory
returns-in-Err-Memory g c = λ task bytes answer.
    (wants_memory task, c.in-Err-Memory.ensures.memory (ap Err c.in-Err-Memory.field-0-is))

pub returns-in-Err-Write : goal.returns-in-Err-Write
returns-in-Err-Write g c = λ task bytes answer. (
  report_text c.args.script.now c.args.report.now,
  answer,
  c.in-Err-Write.ensures.front (ap Err c.in-Err-Write.field-0-is),
)
