use Rattle.std.proofs.Common.{◌≡◌, ◌++◌, drop}
use Rattle.std.specs.List.{flat_map}
use Rattle.gw_script.specs.LineParts.{AreLines}
use Rattle.gw_script.specs.ReportTexts.{event_line}
use Rattle.gw_script.proofs.event_lines.push_events.Given as goal

abbrev pub invariant-loop-event : goal.invariant-loop-event
invariant-loop-event l = record {
  said : l.text.items ++ flat_map (event_line l.script l.segment) (drop l.event-index l.events)
      ≡ l.fn.text.items ++ flat_map (event_line l.script l.segment) l.events;
  lines : AreLines l.script l.segment l.lines;
}
