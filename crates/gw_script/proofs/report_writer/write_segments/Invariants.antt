use Rattle.std.proofs.Common.{◌≡◌, ◌≤◌, [], drop, vec_capacity}
use Rattle.gw_script.specs.Gathering.{IsGathered}
use Rattle.gw_script.specs.Lines.{lines_from}
use Rattle.gw_script.specs.ReportTexts.{segment_text}
use Rattle.gw_script.proofs.Ready.{IsReadyWithin, ReadyFrom}
use Rattle.gw_script.proofs.report_writer.write_segments.Given as goal

abbrev pub invariant-loop-segment : goal.invariant-loop-segment
invariant-loop-segment g l = record {
  gathered : IsGathered (g.W.Write.contents l.fn.output) (g.W.Write.contents l.output) []
      (lines_from (segment_text l.script) l.segment (drop l.segment l.report.segments.items))
      (lines_from (segment_text l.script) 0 l.report.segments.items);
  empty : l.text.items ≡ [];
  capacity : vec_capacity l.fn.text ≤ vec_capacity l.text;
  ready : ReadyFrom (IsReadyWithin l.script (vec_capacity l.fn.text)) l.report.segments.items l.segment l.all;
}
