-- All places are full, and what stands there is in order.
use Rattle.std.proofs.Common.{◌≡◌, Some, Option, length, ap, subst, sym, arith}
use Rattle.can_segment.proofs.Shown.{put_back}
use Rattle.gw_site.specs.Pairs.{Pairs}
use Rattle.gw_pool.specs.declared.courier.Courier.{Courier}
use Rattle.gw_pool.specs.Collecting.{AreFull}
use Rattle.gw_pool.specs.Couriers.{CourierRuns}
use Rattle.gw_pool.proofs.Back.{are_full, in_order_back}
use Rattle.gw_pool.proofs.collecting.collect_all.Goals as goal

pub in_order-requires-clause-full : goal.in_order-requires-clause-full
in_order-requires-clause-full g c =
    let Back = CourierRuns {G = g.row.G.Denot} g.S.RouteTx.route_after g.S.RouteTx.stays in
    let b = c.take_all.ensures in
    let back = put_back c.args.slots.len c.take_all.new.slots c.args.slots.items
    (omega (arith, c.as_mut_slice.ensures.len, b.size, c.requires.size, ap length c.as_mut_slice.ensures.value))
    (omega (arith, b.size, c.requires.size)) in
    subst (λ slots. AreFull slots) (sym back) (are_full Back g.J.Dealing.dealt c.take_all.new.slots b)

pub returns : goal.returns
returns g c =
    let Back = CourierRuns {G = g.row.G.Denot} g.S.RouteTx.route_after g.S.RouteTx.stays in
    let b = c.take_all.ensures in
    let back = put_back c.args.slots.len c.take_all.new.slots c.args.slots.items
    (omega (arith, c.as_mut_slice.ensures.len, b.size, c.requires.size, ap length c.as_mut_slice.ensures.value))
    (omega (arith, b.size, c.requires.size)) in
    in_order_back Back g.J.Dealing.dealt c.take_all.new.slots c.in_order.result.items b
    (subst (λ slots. Pairs (λ k (slot : Option (Courier g.row.S.Denot g.row.G.Denot)) one. slot ≡ Some one) slots
    c.in_order.result.items) back c.in_order.ensures)
