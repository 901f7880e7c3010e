-- The record at a place is that of the segment there.
use Rattle.gw_script.proofs.Ready.{record-at}
use Rattle.gw_script.proofs.report_text.push_segments.Goals as goal

pub push_segment-requires-clause-nodes : goal.push_segment-requires-clause-nodes
push_segment-requires-clause-nodes c =
    let records = c.deref-kept-items.result.now in
    c.requires.records c.loop-segment.segment c.kept-item.result
    (record-at records c.args.report.now.segments.items c.loop-segment.segment c.kept-item.result
    c.deref-kept-items.ensures.value c.loop-segment-test.true c.kept-item.is)
