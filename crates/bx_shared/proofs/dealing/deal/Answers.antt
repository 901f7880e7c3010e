use Rattle.std.proofs.Common.{List, ℕ, ◌+◌, ◌-◌, sym, ap, ◌∙◌, subst, arith, map, length, []}
use Rattle.std.specs.Arc.{arc_value}
use Rattle.atomic_table.specs.Table.{opening as table_start}
use Rattle.bx_shared.specs.declared.said.Said.{Said}
use Rattle.bx_shared.specs.declared.bus_view.BusView.{BusView}
use Rattle.bx_core.specs.TxBus.{label_of}
use Rattle.bx_shared.specs.Shown.{IsKept}
use Rattle.bx_shared.specs.Tallies.{IsTally}
use Rattle.bx_shared.specs.Steps.{first_view, bus_seat, bus_of, part_of, opening, opening_bus}
use Rattle.bx_shared.specs.Seats.{AreDealt, openings, route_place}
use Rattle.bx_shared.proofs.Places.{begins}
use Rattle.bx_shared.proofs.Parting.{dealt-push, left_alone}
use Rattle.bx_shared.proofs.Showing.{length-snoc}
use Rattle.bx_shared.proofs.dealing.deal.Goals as goal

pub of_words-requires : goal.of_words-requires
of_words-requires c =
    subst (λ (ws : List ℕ). IsKept c.args.txfp (table_start {S = Said} ws [] (first_view c.args.txfp)))
    (sym c.first_words.ensures) (begins c.args.txfp)

pub loop-route-preserved : goal.loop-route-preserved
loop-route-preserved c =
    let i = c.loop-route.invariant in
    let table = c.cut-own.ensures.table in
    let items = c.in_ok-push.ensures.items in
    let pushed = route_place c.cut-own.result.table_id c.cut-own.result.me in (
      record { same = table ∙ i.0.same; seven = i.0.seven },
      i.1,
      c.cut-own.ensures.rest ∙ ap (λ n. bus_seat (opening_bus c.deref.result.now.shared.key) (openings n)) (omega arith)
          ∙ ap (λ b. bus_seat (opening_bus b) (openings (8 - (c.loop-route.route + 1))))
          (ap (λ t. t.shared.key) c.deref.ensures),
      (let h = ap length items in let l = length-snoc c.loop-route.seats.items pushed in let n = i.3 in omega arith),
      subst (AreDealt c.cut-own.new.seat.table_id) (sym items)
          (dealt-push _ c.loop-route.seat.table_id c.loop-route.seats.items c.loop-route.route pushed i.3 i.4 table
          (c.cut-own.ensures.theirs ∙ sym table)
          (ap part_of c.cut-own.ensures.one ∙ ap opening (let few = c.requires in
          let end = c.loop-route.auto.route-end in let on = c.loop-route-test.true in omega arith))),
    )

pub invariant_of-bus : goal.invariant_of-bus
invariant_of-bus c =
    let i = c.loop-route.invariant in
    let t = left_alone (arc_value c.in_ok-words.words).shared.key c.loop-route.seat.me (8 - c.loop-route.route) i.2 in
    let bus = ap bus_of i.2 in
    record {
      at = i.0;
      alone = t.0;
      others = t.1;
      sends = ap (λ (b : BusView). b.sends) bus;
      mailbox = ap (λ (b : BusView). b.mailbox) bus;
      small = omega arith;
      priority = ap (λ (b : BusView). b.txfp) bus;
      due = ap (λ (b : BusView). b.reaps) bus;
      route = tt;
      tally = subst (λ (b : BusView). IsTally b.done (map label_of b.reaped) c.new-2.result) (sym bus) c.new-2.ensures;
    }
