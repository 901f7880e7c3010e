-- One segment more; where a write fails, a front of what is reported of all was written.
use Rattle.std.proofs.Common.{◌+◌, ◌<◌, [], ap, arith, drop, length, slice_index_or, refl}
use Rattle.std.proofs.lemmas.Option.{slice_get-get_or}
use Rattle.gw_script.specs.Lines.{lines_from}
use Rattle.gw_script.specs.ReportTexts.{segment_text}
use Rattle.gw_script.proofs.Gathering.{at-err, gathered-front, gathered-next, gathered-none, gathered-written}
use Rattle.gw_script.proofs.Ready.{IsReadyWithin, ready-from, ready-next, record-at}
use Rattle.gw_script.proofs.report_writer.write_segments.Goals as goal

pub loop-segment-init : goal.loop-segment-init
loop-segment-init g c =
    let s = c.args.script.now in
    record {
      gathered = gathered-none (g.W.Write.contents c.args.output.now) []
          (lines_from (segment_text s) 0 c.args.report.now.segments.items) refl;
      empty = c.requires.empty;
      capacity = omega arith;
      ready = ready-from s c.args.report.now.segments.items _ c.args.all.now c.requires.ready c.requires.room;
    }

pub write_segment-requires-clause-ready : goal.write_segment-requires-clause-ready
write_segment-requires-clause-ready g c =
    let records = c.deref-kept-items.result.now in
    let i = c.loop-segment.segment in
    let all = c.loop-segment.all in
    let lines = slice_index_or all i c.index-all-segment.result in
    let here = record-at records c.args.report.now.segments.items i c.kept-item.result c.deref-kept-items.ensures.value
    c.loop-segment-test.true c.kept-item.is in
    let within : i < length all = omega (
      arith,
      c.loop-segment.invariant.ready.count,
      ap length c.deref-kept-items.ensures.value,
      c.loop-segment-test.true,
    ) in
    let there = c.loop-segment.invariant.ready.each i c.kept-item.result lines (omega arith) here
    (slice_get-get_or all i c.index-all-segment.result within) in
    there.ready

pub write_segment-requires-clause-names : goal.write_segment-requires-clause-names
write_segment-requires-clause-names g c =
    let records = c.deref-kept-items.result.now in
    let i = c.loop-segment.segment in
    c.requires.names.records i c.kept-item.result
    (record-at records c.args.report.now.segments.items i c.kept-item.result c.deref-kept-items.ensures.value
    c.loop-segment-test.true c.kept-item.is)

pub write_segment-requires-clause-room : goal.write_segment-requires-clause-room
write_segment-requires-clause-room g c =
    let records = c.deref-kept-items.result.now in
    let i = c.loop-segment.segment in
    let all = c.loop-segment.all in
    let lines = slice_index_or all i c.index-all-segment.result in
    let here = record-at records c.args.report.now.segments.items i c.kept-item.result c.deref-kept-items.ensures.value
    c.loop-segment-test.true c.kept-item.is in
    let within : i < length all = omega (
      arith,
      c.loop-segment.invariant.ready.count,
      ap length c.deref-kept-items.ensures.value,
      c.loop-segment-test.true,
    ) in
    let there = c.loop-segment.invariant.ready.each i c.kept-item.result lines (omega arith) here
    (slice_get-get_or all i c.index-all-segment.result within) in
    omega (arith, there.short, c.loop-segment.invariant.capacity)

pub returns-in_err-write_segment-clause-front : goal.returns-in_err-write_segment-clause-front
returns-in_err-write_segment-clause-front g c =
    let s = c.args.script.now in
    let kept = c.args.report.now.segments.items in
    let records = c.deref-kept-items.result.now in
    let i = c.loop-segment.segment in
    let of = c.kept-item.result in
    let old = g.W.Write.contents c.args.output.now in
    let now = g.W.Write.contents c.loop-segment.output in
    let whole = lines_from (segment_text s) 0 kept in
    let here = record-at records c.args.report.now.segments.items i of c.deref-kept-items.ensures.value
    c.loop-segment-test.true c.kept-item.is in
    at-err c.from_residual.result _
    (gathered-front old now (g.W.Write.contents c.write_segment.new.output) (segment_text s i of)
    (lines_from (segment_text s) (i + 1) (drop (i + 1) kept)) whole
    (gathered-next (segment_text s) kept i of old now whole here c.loop-segment.invariant.gathered)
    c.in_err-write_segment.ensures.front)

pub loop-segment-preserved : goal.loop-segment-preserved
loop-segment-preserved g c =
    let s = c.args.script.now in
    let kept = c.args.report.now.segments.items in
    let records = c.deref-kept-items.result.now in
    let i = c.loop-segment.segment in
    let of = c.kept-item.result in
    let old = g.W.Write.contents c.args.output.now in
    let now = g.W.Write.contents c.loop-segment.output in
    let whole = lines_from (segment_text s) 0 kept in
    let here = record-at records c.args.report.now.segments.items i of c.deref-kept-items.ensures.value
    c.loop-segment-test.true c.kept-item.is in
    record {
      gathered = gathered-written old now (g.W.Write.contents c.write_segment.new.output) (segment_text s i of)
          (lines_from (segment_text s) (i + 1) (drop (i + 1) kept)) whole
          (gathered-next (segment_text s) kept i of old now whole here c.loop-segment.invariant.gathered)
          c.in_ok-write_segment.ensures.whole;
      empty = c.in_ok-write_segment.ensures.empty;
      capacity = omega (arith, c.in_ok-write_segment.ensures.capacity, c.loop-segment.invariant.capacity);
      ready = ready-next (IsReadyWithin s _) kept i c.loop-segment.all c.write_segment.new.lines
          c.loop-segment.invariant.ready;
    }
