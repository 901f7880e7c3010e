-- Where a write fails, a front of all that is reported of the segment was written.
use Rattle.std.proofs.Common.{◌++◌, ◌∙◌, ap}
use Rattle.std.specs.List.{flat_map}
use Rattle.gw_script.specs.ReportTexts.{event_line, segment_end, segment_text}
use Rattle.gw_script.proofs.Gathering.{at-err, begins-first, begins-next, on-err}
use Rattle.gw_script.proofs.report_writer.write_segment.Goals as goal

pub returns-in_err-write_events-clause-front : goal.returns-in_err-write_events-clause-front
returns-in_err-write_events-clause-front g c =
    let said = event_line c.args.script.now c.args.segment in
    let end = segment_end c.args.script.now c.args.segment c.args.kept.now.counters.items in
    at-err c.from_residual.result _
    (begins-first (g.W.Write.contents c.args.output.now) (g.W.Write.contents c.write_events.new.output)
    (flat_map said c.as_slice-events.result.now) end
    (segment_text c.args.script.now c.args.segment c.args.kept.now)
    (ap (λ es. flat_map said es ++ end) c.as_slice-events.ensures.value) c.in_err-write_events.ensures.front)

pub returns-clause-front : goal.returns-clause-front
returns-clause-front g c =
    let said = event_line c.args.script.now c.args.segment in
    on-err c.write_output.result _ _
    (begins-next (g.W.Write.contents c.args.output.now) (g.W.Write.contents c.write_events.new.output)
    (g.W.Write.contents c.write_output.new.output) (flat_map said c.as_slice-events.result.now) c.as_slice.result.now
    (segment_text c.args.script.now c.args.segment c.args.kept.now)
    (ap (λ es. flat_map said es ++ c.as_slice.result.now) c.as_slice-events.ensures.value
    ∙ ap (λ end. flat_map said c.args.kept.now.events.items ++ end)
    (c.as_slice.ensures.value ∙ c.requires.ready.end_is)) c.in_ok-write_events.ensures.whole)
    c.write_output.ensures.front
