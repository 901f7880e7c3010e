use Rattle.std.proofs.Common.{take, string_bytes}
use Rattle.gw_print.specs.CoreReports.{AppendsDones}
use Rattle.gw_print.proofs.core_report.push_dones.Given as goal

abbrev pub invariant-loop-entry : goal.invariant-loop-entry
invariant-loop-entry l = AppendsDones l.route (string_bytes l.fn.text) (string_bytes l.text) (take l.entry-index l.done)
