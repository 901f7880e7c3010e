use Rattle.std.proofs.Common.{◌≡◌, ◌++◌, drop}
use Rattle.gw_script.specs.Lines.{lines_from}
use Rattle.gw_script.specs.ReportTexts.{segment_text}
use Rattle.gw_script.proofs.report_text.push_segments.Given as goal

abbrev pub invariant-loop-segment : goal.invariant-loop-segment
invariant-loop-segment l =
    l.text.items ++ lines_from (segment_text l.script) l.segment (drop l.segment l.report.segments.items)
    ≡ l.fn.text.items ++ lines_from (segment_text l.script) 0 l.report.segments.items
