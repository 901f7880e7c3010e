-- One event more is one line more.
use Rattle.std.proofs.Common.{◌∙◌}
use Rattle.gw_script.specs.ReportTexts.{event_line}
use Rattle.gw_script.proofs.LineLaws.{flat-step}
use Rattle.gw_script.proofs.event_lines.push_events.Goals as goal

pub loop-event-preserved : goal.loop-event-preserved
loop-event-preserved c = record {
  said = flat-step (event_line c.args.script.now c.args.segment) c.args.events.now c.loop-event.event-index
      c.event-item.result c.loop-event.text.items c.push.new.text.items c.loop-event-test.true c.event-item.is
      c.in_ok-push.ensures.text
      ∙ c.loop-event.invariant.said;
  lines = c.in_ok-push.ensures.lines;
}
