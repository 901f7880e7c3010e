use Rattle.std.proofs.Common.{◌≤◌, drop, vec_capacity}
use Rattle.std.specs.List.{flat_map}
use Rattle.gw_script.specs.Gathering.{IsGathered}
use Rattle.gw_script.specs.LineParts.{AreLines}
use Rattle.gw_script.specs.ReportTexts.{event_line}
use Rattle.gw_script.proofs.report_writer.write_events.Given as goal

abbrev pub invariant-loop-event : goal.invariant-loop-event
invariant-loop-event g l = record {
  gathered : IsGathered (g.W.Write.contents l.fn.output) (g.W.Write.contents l.output) l.text.items
      (flat_map (event_line l.script l.segment) (drop l.event-index l.events))
      (flat_map (event_line l.script l.segment) l.events);
  lines : AreLines l.script l.segment l.lines;
  room : l.lines.longest ≤ vec_capacity l.text;
  capacity : vec_capacity l.fn.text ≤ vec_capacity l.text;
}
