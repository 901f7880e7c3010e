-- That the frame was sent is an event of the mailbox core, and one more is counted.
use Rattle.std.proofs.Common.{◌≡◌, ◌∙◌, Some, sym, ap, refl, subst}
use Rattle.std.specs.Prelude.{IsSome}
use Rattle.bx_core.specs.TxBus.{BusPast, after_complete}
use Rattle.bx_shared.specs.Tallies.{IsTally}
use Rattle.bx_mail.specs.Boxes.{on_bus_now, leaving}
use Rattle.bx_mail.specs.BusParts.{bus_view}
use Rattle.bx_mail.specs.Sides.{BusSide}
use Rattle.bx_mail.proofs.BusSides.{completed-past, completed-rest}
use Rattle.bx_mail.proofs.Tallied.{on_bus_is, sent_small, few_sent, counted_as, counts_sent}
use Rattle.bx_mail.proofs.post_bus.PostBusTxBus.complete.Goals as goal

pub add_done-requires-clause-route : goal.add_done-requires-clause-route
add_done-requires-clause-route g c = let i = c.self.invariant in
    sent_small (bus_view c.self.inside) i.2.0 i.2.1 c.in-Some.item (sym c.in-Some.ensures.left)

pub add_done-requires-clause-few : goal.add_done-requires-clause-few
add_done-requires-clause-few g c = let i = c.self.invariant in
    few_sent (bus_view c.self.inside) i.2.0 i.2.1 c.in-Some.item.0
    (sent_small (bus_view c.self.inside) i.2.0 i.2.1 c.in-Some.item (sym c.in-Some.ensures.left))

pub invariant_of-self-2 : goal.invariant_of-self-2
invariant_of-self-2 g c = let i = c.self.invariant in let v = bus_view c.self.inside in
    let on = subst (λ (u : BusSide). IsSome (on_bus_now u.boxes)) (sym c.self.view_is) c.requires in
    let past : BusPast = i.2.0 in
    let t = c.add_done.new.self in
    let q = c.complete.new.boxes.items in (
      i.0,
      i.1,
      (
        after_complete past (on_bus_now v.boxes),
        record {
          runs = counted_as (record v { boxes = q }) t (after_complete past (on_bus_now v.boxes))
              (completed-past v v q refl c.complete.ensures.boxes on past i.2.1.runs);
          tally = counts_sent past (on_bus_now v.boxes) c.in-Some.item t
              (on_bus_is v.boxes c.in-Some.item on (sym c.in-Some.ensures.left))
              (c.add_done.ensures past.done past.reaped i.2.1.tally);
        },
      ),
    )

pub returns-clause-past : goal.returns-clause-past
returns-clause-past g c = λ past h.
    let v = c.args.self.now in
    let w = bus_view c.self.inside in
    let t = c.add_done.new.self in
    let q = c.complete.new.boxes.items in
    let item = c.in-Some.item in
    let on : on_bus_now v.boxes ≡ Some item =
    on_bus_is v.boxes item c.requires (ap (λ (u : BusSide). leaving u.boxes) (sym c.self.view_is)
    ∙ sym c.in-Some.ensures.left) in
    record {
      runs = counted_as (record w { boxes = q }) t (after_complete past (on_bus_now v.boxes))
          (completed-past v w q (sym c.self.view_is) c.complete.ensures.boxes c.requires past h.runs);
      tally = counts_sent past (on_bus_now v.boxes) item t on (c.add_done.ensures past.done past.reaped
          (subst (IsTally past.done past.reaped) (ap (λ (u : BusSide). u.tally) (sym c.self.view_is)) h.tally));
    }

pub returns-clause-idle : goal.returns-clause-idle
returns-clause-idle g c = completed-rest c.args.self.now (bus_view c.self.inside) c.complete.new.boxes.items
    (sym c.self.view_is) c.complete.ensures.boxes c.requires c.self.invariant.2
