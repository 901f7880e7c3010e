use Rattle.gw_script.specs.SegmentLines.{IsReady}
use Rattle.gw_script.proofs.Ready.{ReadyBelow}
use Rattle.gw_script.proofs.segment_lines.lines_of_all.Given as goal

abbrev pub invariant-loop-segment : goal.invariant-loop-segment
invariant-loop-segment l = ReadyBelow (IsReady l.script) l.report.segments.items l.all.items l.segment
