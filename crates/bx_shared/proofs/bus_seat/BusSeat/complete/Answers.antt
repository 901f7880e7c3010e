-- The seat keeps its invariant, and one more is counted.
use Rattle.std.proofs.Common.{◌≡◌, ◌<◌, Option, Some, map, sym, ap, ◌∙◌, subst}
use Rattle.std.specs.Prelude.{IfSome}
use Rattle.bx_core.specs.TxBus.{Item, label_of}
use Rattle.bx_shared.specs.declared.bus_view.BusView.{BusView}
use Rattle.bx_shared.specs.Steps.{bus_of}
use Rattle.bx_shared.specs.BusSteps.{bus_completed}
use Rattle.bx_shared.proofs.Keeping.{is_still, counts_done}
use Rattle.bx_shared.proofs.bus_seat.BusSeat.complete.Goals as goal

pub invariant_of-self : goal.invariant_of-self
invariant_of-self c =
    let v = c.self.invariant in
    let old = c.self.inside.seat.me in
    let b = bus_of old in
    let me = c.complete.new.seat.me in
    let t = is_still me (bus_completed b) old.0.routes c.complete.ensures.completed in
    let after = c.take.ensures.after in
    let item = c.in-Some.item in
    let sends : b.sends ≡ Some item = v.sends ∙ sym c.take.ensures.value ∙ c.in-Some.is in
    record {
      at = record { same = c.complete.ensures.table ∙ v.at.same; seven = v.at.seven };
      alone = t.alone;
      others = t.others v.others;
      sends = ap (λ (x : BusView). x.sends) t.bus ∙ sym after;
      mailbox = ap (λ (x : BusView). x.mailbox) t.bus ∙ v.mailbox;
      small = v.small;
      priority = ap (λ (x : BusView). x.txfp) t.bus ∙ v.priority;
      due = ap (λ (x : BusView). x.reaps) t.bus ∙ v.due;
      route = subst (λ (o : Option Item). IfSome o (λ x. x.0 < 8)) (sym after) tt;
      tally = counts_done b (bus_of me) item c.add_done.new.self t.bus sends
          (c.add_done.ensures b.done (map label_of b.reaped) v.tally);
    }
