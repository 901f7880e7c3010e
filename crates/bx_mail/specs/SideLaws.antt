-- No call of a side changes whose it is.
use Rattle.std.specs.Prelude.{◌≡◌, ℕ, true}
use Rattle.std.proofs.Common.{refl, ◌∙◌, sym, ap}
use Rattle.bx_core.specs.RouteTx.{RoutePast}
use Rattle.bx_core.specs.Steps.{last_number}
use Rattle.bx_mail.specs.Postings.{requests_in}
use Rattle.bx_mail.specs.Sides.{BusSide, RouteSide, BusKeeps, RouteKeeps, RouteRuns, IsSideOf}

pub bus_keeps-self : (a : BusSide) → BusKeeps a a
bus_keeps-self a = record { queue = refl; routes = refl }

pub bus_keeps-on : (a b c : BusSide) → BusKeeps a b → BusKeeps b c → BusKeeps a c
bus_keeps-on a b c p q = record { queue = q.queue ∙ p.queue; routes = q.routes ∙ p.routes }

pub route_keeps-self : (a : RouteSide) → RouteKeeps a a
route_keeps-self a = record { queue = refl; route = refl }

pub route_keeps-on : (a b c : RouteSide) → RouteKeeps a b → RouteKeeps b c → RouteKeeps a c
route_keeps-on a b c p q = record { queue = q.queue ∙ p.queue; route = q.route ∙ p.route }

-- the newest number requested is that of the newest request posted
pub last-is : (s : RouteSide) (past : RoutePast) → RouteRuns s past →
    last_number (requests_in s.sent) ≡ last_number past.requested
last-is s past h = ap last_number (sym h.requested)

pub side-stays : (a b : BusSide) (route : ℕ) (s : RouteSide) → BusKeeps a b → IsSideOf a route s → IsSideOf b route s
side-stays a b route s k h = record { queue_is = h.queue_is ∙ sym k.queue; route_is = h.route_is }

pub side-moves : (a : BusSide) (route : ℕ) (s t : RouteSide) → RouteKeeps s t → IsSideOf a route s → IsSideOf a route t
side-moves a route s t k h = record { queue_is = k.queue ∙ h.queue_is; route_is = k.route ∙ h.route_is }

pub routes-stay : (a b : BusSide) → BusKeeps a b → b.routes ≡ a.routes
routes-stay a b k = k.routes

pub txfp-stays : (a b : BusSide) → BusKeeps a b → true ≡ true
txfp-stays a b k = refl
