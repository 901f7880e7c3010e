-- One event more is one line more; where a write fails, a front of all lines was written.
use Rattle.std.proofs.Common.{arith, drop}
use Rattle.std.specs.List.{flat_map}
use Rattle.gw_script.specs.ReportTexts.{event_line}
use Rattle.gw_script.proofs.Gathering.{at-err, gathered-front, gathered-more, on-err}
use Rattle.gw_script.proofs.report_writer.write_events.Goals as goal

pub returns-in_err-make_room-clause-front : goal.returns-in_err-make_room-clause-front
returns-in_err-make_room-clause-front g c =
    let said = event_line c.args.script.now c.args.segment in
    at-err c.from_residual.result _
    (gathered-front (g.W.Write.contents c.args.output.now) (g.W.Write.contents c.loop-event.output)
    (g.W.Write.contents c.make_room.new.output) c.loop-event.text.items
    (flat_map said (drop c.loop-event.event-index c.args.events.now)) (flat_map said c.args.events.now)
    c.loop-event.invariant.gathered c.in_err-make_room.ensures.front)

pub loop-event-preserved : goal.loop-event-preserved
loop-event-preserved g c =
    let said = event_line c.args.script.now c.args.segment in
    let old = g.W.Write.contents c.args.output.now in
    let rest = flat_map said (drop c.loop-event.event-index c.args.events.now) in
    let whole = flat_map said c.args.events.now in
    record {
      gathered = gathered-more said c.args.events.now c.loop-event.event-index c.event-item.result old
          (g.W.Write.contents c.make_room.new.output) c.make_room.new.text.items c.push.new.text.items whole
          c.loop-event-test.true c.event-item.is c.in-Ok.ensures.text
          (c.in_ok-make_room.ensures.gathered old rest whole c.loop-event.invariant.gathered);
      lines = c.in-Ok.ensures.lines;
      room = omega (
        arith,
        c.in-Ok.ensures.longest,
        c.in-Ok.ensures.capacity,
        c.make_room.ensures.capacity,
        c.loop-event.invariant.room,
      );
      capacity = omega (arith, c.in-Ok.ensures.capacity, c.make_room.ensures.capacity, c.loop-event.invariant.capacity);
    }

pub returns-clause-front : goal.returns-clause-front
returns-clause-front g c =
    let said = event_line c.args.script.now c.args.segment in
    on-err c.hand_over.result _ _
    (gathered-front (g.W.Write.contents c.args.output.now) (g.W.Write.contents c.loop-event.output)
    (g.W.Write.contents c.hand_over.new.output) c.loop-event.text.items
    (flat_map said (drop c.loop-event.event-index c.args.events.now)) (flat_map said c.args.events.now)
    c.loop-event.invariant.gathered) c.hand_over.ensures.front
