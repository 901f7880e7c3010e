-- A route of a run, between a FIFO and its side of the mailboxes, whatever these are.
use Rattle.std.specs.Prelude.{◌≡◌, ℕ, List}
use Rattle.bx_core.specs.RouteTx.{RoutePast}
use Rattle.gw_route.specs.Plans.{FromPlan}
use Rattle.gw_route.specs.RouteHand.{hand_value, IsLinked, LogsReleased}
use Rattle.gw_route.specs.declared.route_abort.RouteAbort.{RouteAbort}
use Rattle.gw_route.specs.declared.route_hand.RouteHand.{RouteHand}
use Rattle.gw_pool.specs.declared.courier.Courier.{Courier}

-- the hand matches what its route's side did, and logs what its FIFO released
pub record CourierHolds {S : Type 0} (after : S → RoutePast → Type 0) (hand : RouteHand) (side : S) : Type 0 where
  pub linked : IsLinked (after side) (hand_value hand)
  pub log : LogsReleased (hand_value hand)

abbrev pub IsReadyCourier : {S G : Type 0} (after : S → RoutePast → Type 0) → Courier S G → Type 0
IsReadyCourier after courier = CourierHolds after courier.hand courier.side

-- It still does, after turns; and these leave its FIFO, its queue's size, its new identifiers, the plan of its aborts,
-- and which side it is.
pub record CourierMoves {S : Type 0} (after : S → RoutePast → Type 0) (stays : S → S → Type 0) (old new : RouteHand)
    (from to : S) : Type 0 where
  pub holds : CourierHolds after new to
  pub stays_on : stays from to
  pub queue_is : new.out.queue ≡ old.out.queue
  pub size_is : new.queue ≡ old.queue
  pub rewrites_are : new.rewrites ≡ old.rewrites
  pub plan : (planned : List RouteAbort) → FromPlan planned (hand_value old) → FromPlan planned (hand_value new)

-- the courier at the end, beside the one at the start
abbrev pub CourierRuns : {S G : Type 0} (after : S → RoutePast → Type 0) (stays : S → S → Type 0) → Courier S G →
    Courier S G → Type 0
CourierRuns after stays old new = CourierMoves after stays old.hand new.hand old.side new.side

-- what contracts see of a baton: its place, and how many turns its hand made
pub record BatonPlace : Type 0 where
  pub place : ℕ
  pub turns : ℕ

abbrev pub baton_place : ℕ → ℕ → BatonPlace
baton_place place turns = record { place = place; turns = turns }
