use Rattle.std.proofs.Common.{◌≡◌, ◌++◌, drop}
use Rattle.can_confinement.specs.Counters.{counts_of}
use Rattle.gw_script.specs.Lines.{lines_from}
use Rattle.gw_script.specs.ReportTexts.{node_line}
use Rattle.gw_script.proofs.report_text.push_nodes.Given as goal

abbrev pub invariant-loop-node : goal.invariant-loop-node
invariant-loop-node l = l.text.items ++ lines_from (λ node one. node_line l.script l.segment node (counts_of one))
    l.node (drop l.node l.counters)
    ≡ l.fn.text.items ++ lines_from (λ node one. node_line l.script l.segment node (counts_of one)) 0 l.counters
