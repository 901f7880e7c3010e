use Rattle.std.proofs.Common.{◌≡◌, ◌<◌, ◌≤◌, ◌++◌, length}
use Rattle.std.specs.Vec.Iter.{into_iter_items}
use Rattle.bx_core.specs.Lists.{Each}
use Rattle.gw_pool.specs.Pool.{account, places}
use Rattle.gw_pool.specs.Couriers.{IsReadyCourier}
use Rattle.gw_pool.proofs.dealing.deal_all.Given as goal

abbrev pub invariant-loop-courier : goal.invariant-loop-courier
invariant-loop-courier g l =
    (l.yielded ++ into_iter_items l.courier-iterator ≡ into_iter_items l.initial.courier-iterator)
    × (length (into_iter_items l.initial.courier-iterator) ≤ 16)
    × Each (IsReadyCourier g.S.RouteTx.route_after) (into_iter_items l.initial.courier-iterator)
    × (g.J.Dealing.dealt ≡ into_iter_items l.initial.courier-iterator)
    × (l.place ≡ length l.yielded)
    × (0 < l.initial.seat.account.parts)
    × (l.seat.queue ≡ l.initial.seat.queue)
    × (l.seat.account ≡ account l.initial.seat.account.parts (l.initial.seat.account.put ++ places l.place)
    l.initial.seat.account.taken)
