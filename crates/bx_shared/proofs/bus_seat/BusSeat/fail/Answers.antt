-- The seat keeps its invariant, and one more is counted where it was reaped.
use Rattle.std.proofs.Common.{◌≡◌, ◌%◌, ◌<◌, Option, Some, map, sym, ap, ◌∙◌, subst}
use Rattle.std.specs.Prelude.{IfSome}
use Rattle.atomic_table.specs.Table.{Me}
use Rattle.bx_core.specs.TxBus.{Item, label_of}
use Rattle.bx_words.specs.Lanes.{mark_of}
use Rattle.bx_shared.specs.declared.said.Said.{Said}
use Rattle.bx_shared.specs.declared.bus_view.BusView.{BusView}
use Rattle.bx_shared.specs.declared.view.View.{View}
use Rattle.bx_shared.specs.Steps.{bus_seat, bus_of}
use Rattle.bx_shared.specs.BusSteps.{bus_failed, bus_reaped}
use Rattle.bx_shared.proofs.Keeping.{is_still, counts_reaped}
use Rattle.bx_shared.proofs.bus_seat.BusSeat.fail.Goals as goal

pub invariant_of-self-2 : goal.invariant_of-self-2
invariant_of-self-2 c =
    let v = c.self.invariant in
    let old = c.self.inside.seat.me in
    let b = bus_of old in
    let word = c.fail-word.result in
    let me = c.reap.new.seat.me in
    let last = c.reap.ensures.reaped ∙ ap (λ (m : Me Said View). bus_seat (bus_reaped (bus_of m)) m.0.routes)
    c.fail-word.ensures.failed in
    let t = is_still me (bus_reaped (bus_failed b word)) old.0.routes last in
    let after = c.take.ensures.after in
    let item : Item = (c.in_ok-route.route, c.in_ok-route.number, c.in_ok-route.field-0-2) in
    let sends : b.sends ≡ Some item = v.sends ∙ sym c.take.ensures.value ∙ c.in_ok-route.was in
    let other : ¬ (mark_of word b.mailbox ≡ 15) =
    λ e. c.if-lane-eq15.false (ap (λ x. x % 32) c.lane.ensures ∙ ap (mark_of word) (sym v.mailbox) ∙ e) in
    record {
      at = record { same = c.reap.ensures.table ∙ c.fail-word.ensures.table ∙ v.at.same; seven = v.at.seven };
      alone = t.alone;
      others = t.others v.others;
      sends = ap (λ (x : BusView). x.sends) t.bus ∙ sym after;
      mailbox = ap (λ (x : BusView). x.mailbox) t.bus ∙ v.mailbox;
      small = v.small;
      priority = ap (λ (x : BusView). x.txfp) t.bus ∙ v.priority;
      due = ap (λ (x : BusView). x.reaps) t.bus;
      route = subst (λ (o : Option Item). IfSome o (λ x. x.0 < 8)) (sym after) tt;
      tally = counts_reaped b (bus_of me) word item c.add_reaped.new.self t.bus sends c.fail-word.ensures.found other
          (c.add_reaped.ensures b.done (map label_of b.reaped) v.tally);
    }
