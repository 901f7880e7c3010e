use Rattle.std.proofs.Common.{◌≡◌, ◌+◌, ℕ, List, length}
use Rattle.gw_pool.specs.Pool.{weigh}
use Rattle.gw_pool.specs.Couriers.{CourierRuns}
use Rattle.gw_pool.proofs.Back.{AreBackBy}
use Rattle.gw_pool.proofs.collecting.take_all.Given as goal

abbrev pub invariant-loop-baton : goal.invariant-loop-baton
invariant-loop-baton g l =
    (goal.iterator-loop-baton g).can_next l._baton-iterator
    × (goal.iterator-loop-baton g).is_finite l._baton-iterator
    × (l.seat.account.parts ≡ 1024)
    × (l.seat.account.put ≡ l.initial.seat.account.put)
    × (length l.slots ≡ length g.J.Dealing.dealt)
    × ((got : List ℕ)
    × ((h : ℕ → ℕ) → weigh h l.seat.account.taken ≡ weigh h l.initial.seat.account.taken + weigh h got)
    × AreBackBy (CourierRuns g.S.RouteTx.route_after g.S.RouteTx.stays) g.J.Dealing.dealt l.slots got)
