-- One route more is counted.
use Rattle.std.proofs.Common.{◌≡◌, ⊎_elim, List, Some, length, map, get_or, slice_get, sym, ap, ◌∙◌, arith}
use Rattle.bx_core.specs.Stands.{entries_of, numbers_of}
use Rattle.bx_core.specs.TxBus.{label_of}
use Rattle.bx_core.proofs.Words.{pushed}
use Rattle.bx_shared.specs.declared.closed.RouteCounts.{RouteCounts}
use Rattle.bx_shared.specs.Seats.{BusPlace, RoutePlace}
use Rattle.bx_shared.specs.Closing.{IsCounted}
use Rattle.bx_shared.proofs.Showing.{length-snoc}
use Rattle.bx_shared.proofs.Keeping.{counts_route, counts_there, seat_at}
use Rattle.bx_shared.proofs.closing.counts_of.Goals as goal

pub loop-route-preserved : goal.loop-route-preserved
loop-route-preserved c =
    let i = c.loop-route.invariant in
    let route = c.loop-route.route in
    let items = c.in_ok-push.ensures.items in
    let bus = c.bus.inside in
    let side = c.side.inside in
    let value : RouteCounts = record {
      requested = side.requested;
      aborted = side.aborted;
      done = get_or bus.tally.done route 0;
      reaped = get_or bus.tally.reaped route 0;
    } in
    let few = c.requires in
    let end = c.loop-route.auto.route-end in
    let on = c.loop-route-test.true in
    let first = ap (λ (s : RoutePlace). length s.part.requested) (sym c.side.view_is) ∙ c.side.invariant.requested in
    let second = ap (λ (s : RoutePlace). length s.part.aborted) (sym c.side.view_is) ∙ c.side.invariant.aborted in
    let here : IsCounted c.args.bus.now route c.index-sides-route.result value =
    counts_route c.args.bus.now route c.index-sides-route.result value (sym first) (sym second)
    (c.bus.invariant.tally.done_is route (omega arith)
    ∙ ap (λ (b : BusPlace). length (entries_of route b.bus.done)) c.bus.view_is)
    (c.bus.invariant.tally.reaped_is route (omega arith)
    ∙ ap (λ (b : BusPlace). length (numbers_of route (map label_of b.bus.reaped))) c.bus.view_is) in (
      (let h = ap length items in let l = length-snoc c.loop-route.counts.items value in let n = i.0 in omega arith),
      λ r s x at it. ⊎_elim
          (λ (was : slice_get c.loop-route.counts.items r ≡ Some x). i.1 r s x at was)
          (λ (new : (r ≡ length c.loop-route.counts.items) × (value ≡ x)). let e = new.0 ∙ i.0 in
          counts_there c.args.bus.now route r s c.index-sides-route.result value x e
          (sym (c.index-sides-route.is ∙ seat_at c.args.sides.now route s c.index-sides-route.result
          (sym (ap (slice_get c.args.sides.now) e) ∙ at))) new.1 here)
          (pushed c.loop-route.counts.items value r x (ap (λ (l : List RouteCounts). slice_get l r) (sym items) ∙ it)),
    )
