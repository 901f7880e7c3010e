-- One segment more.
use Rattle.std.proofs.Common.{◌+◌, sym, subst}
use Rattle.gw_script.specs.SegmentLines.{IsReady}
use Rattle.gw_script.proofs.Ready.{ReadyBelow, ready-more, record-at}
use Rattle.gw_script.proofs.segment_lines.lines_of_all.Goals as goal

pub new-requires-clause-nodes : goal.new-requires-clause-nodes
new-requires-clause-nodes c =
    let records = c.deref-kept-items.result.now in
    c.requires.records c.loop-segment.segment c.kept-item.result
    (record-at records c.args.report.now.segments.items c.loop-segment.segment c.kept-item.result
    c.deref-kept-items.ensures.value c.loop-segment-test.true c.kept-item.is)

pub loop-segment-preserved : goal.loop-segment-preserved
loop-segment-preserved c =
    let s = c.args.script.now in
    let records = c.deref-kept-items.result.now in
    let kept = c.args.report.now.segments.items in
    let i = c.loop-segment.segment in
    let here = record-at records kept i c.kept-item.result c.deref-kept-items.ensures.value c.loop-segment-test.true
    c.kept-item.is in
    subst (λ all. ReadyBelow (IsReady s) kept all (i + 1)) (sym c.in_ok-push.ensures.items)
    (ready-more (IsReady s) kept c.loop-segment.all.items i c.kept-item.result c.in_ok-new.field-0 here
    c.in_ok-new.ensures c.loop-segment.invariant)
