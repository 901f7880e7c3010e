-- Turns keep what a hand and its route's side have in common, whatever that side is.
use Rattle.std.proofs.Common.{refl, ◌∙◌}
use Rattle.bx_core.specs.RouteTx.{RoutePast}
use Rattle.gw_route.specs.declared.route_hand.RouteHand.{RouteHand}
use Rattle.gw_pool.specs.Couriers.{CourierHolds, CourierMoves}

-- over no turn
pub moves-self : {S : Type 0} (after : S → RoutePast → Type 0) (stays : S → S → Type 0) (hand : RouteHand) (side : S) →
    ((x : S) → stays x x) → CourierHolds after hand side → CourierMoves after stays hand hand side side
moves-self after stays hand side self h =
    record { holds = h; stays_on = self side; queue_is = refl; size_is = refl; rewrites_are = refl; plan = λ planned p. p }

-- over these turns and those
pub moves-on : {S : Type 0} (after : S → RoutePast → Type 0) (stays : S → S → Type 0) (a b c : RouteHand) (x y z : S) →
    ((x y z : S) → stays x y → stays y z → stays x z) →
    CourierMoves after stays a b x y → CourierMoves after stays b c y z → CourierMoves after stays a c x z
moves-on after stays a b c x y z on p q = record {
  holds = q.holds;
  stays_on = on x y z p.stays_on q.stays_on;
  queue_is = q.queue_is ∙ p.queue_is;
  size_is = q.size_is ∙ p.size_is;
  rewrites_are = q.rewrites_are ∙ p.rewrites_are;
  plan = λ planned h. q.plan planned (p.plan planned h);
}
