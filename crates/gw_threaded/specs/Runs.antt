-- A run in threads before its first bit, and behind its last one, once all threads are joined.
use Rattle.std.specs.Prelude.{◌≡◌, ℕ, Bool, Option, Some, List, length, slice_get}
use Rattle.bx_core.specs.RouteTx.{RoutePast, no_route_past}
use Rattle.bx_core.specs.TxBus.{Item, BusPast}
use Rattle.bx_controller.specs.Ports.{SinkStands}
use Rattle.bx_controller.specs.declared.port.Port.{Port}
use Rattle.gw_config.specs.Controllers.{ControllerValue}
use Rattle.gw_config.specs.Nodes.{controller_places, route_places}
use Rattle.gw_config.specs.Routes.{RouteValue}
use Rattle.gw_config.specs.Scripts.{ScriptValue}
use Rattle.gw_opening.specs.Openings.{IsLaneOf, Opens, Takes, priority_of}
use Rattle.gw_opening.specs.Plans.{IsPlanOf}
use Rattle.gw_opening.specs.declared.lane.Lane.{Lane}
use Rattle.gw_route.specs.RouteHand.{hand_value, IsLinked, LogsReleased}
use Rattle.gw_sides.specs.Seats.{HasSeats, seat_of}
use Rattle.gw_sides.specs.Sets.{MayClose, OpensSite}
use Rattle.gw_site.specs.Pairs.{Pairs}
use Rattle.gw_site.specs.Sites.{SiteHolds}
use Rattle.gw_site.specs.declared.site.Site.{Site}

-- before the first bit: new mailboxes, whose sides stand at their places, and routes that made no turn
pub record Starts {B S : Type 0} (NewSet : Bool → ℕ → B → Type 0) (Rel : B → ℕ → S → Type 0) (s : ScriptValue)
    (sites : List (Site (Port B))) (seats : List (Option S)) (lanes : List Lane) : Type 0 where
  pub opens : Opens s sites lanes
  pub each_site : Pairs (λ i said. OpensSite NewSet Rel s seats i) s.segments sites
  pub size : HasSeats s seats

-- The port of a controller: its banks are the script's, its mailboxes have its priority and may be closed, and where no
-- route leads into it nothing was asked of them.
pub record HasRunPort {B S : Type 0} (route_after : S → RoutePast → Type 0) (routes_of : B → ℕ) (txfp_of : B → Bool)
    (side_of : B → ℕ → S → Type 0) (s : ScriptValue) (seats : List (Option S)) (controller : ℕ)
    (port : Port B) : Type 0 where
  pub value : ControllerValue
  pub value_is : slice_get s.controllers controller ≡ Some value
  pub banks_is : port.banks ≡ value.banks
  pub priority_is : txfp_of port.mail ≡ priority_of value
  pub may_close : MayClose routes_of side_of s seats controller port
  pub unasked : (side : S) → length (route_places s controller) ≡ 0 →
      slice_get seats (seat_of s controller 0) ≡ Some (Some side) → route_after side no_route_past

-- the segment at a place of the script, which made all its bits
pub record HasRunSite {B S : Type 0} (bus_after : B → BusPast → Type 0) (transmitting : B → Option Item)
    (route_after : S → RoutePast → Type 0) (routes_of : B → ℕ) (txfp_of : B → Bool) (side_of : B → ℕ → S → Type 0)
    (s : ScriptValue) (seats : List (Option S)) (segment : ℕ) (site : Site (Port B)) : Type 0 where
  pub plan_is : IsPlanOf s segment site.segment.plan
  pub made : length site.segment.levels ≡ s.bits
  pub holds : SiteHolds (λ (p : Port B) past. bus_after p.mail past) (λ (p : Port B). transmitting p.mail) SinkStands
      site.segment site.ports.items
  pub ports : Pairs (λ k. HasRunPort route_after routes_of txfp_of side_of s seats) (controller_places s segment)
      site.ports.items

-- a route, whose hand matches what its side did, which stands at its place
pub record HasRunLane {B S : Type 0} (route_after : S → RoutePast → Type 0) (s : ScriptValue)
    (sites : List (Site (Port B))) (seats : List (Option S)) (k : ℕ) (route : RouteValue) (lane : Lane) : Type 0 where
  pub lane_is : IsLaneOf s k route lane
  pub takes : Takes sites lane
  pub log : LogsReleased (hand_value lane.hand)
  pub side : S
  pub side_there : slice_get seats k ≡ Some (Some side)
  pub linked : IsLinked (route_after side) (hand_value lane.hand)

-- all of them
pub record HasRun {B S : Type 0} (bus_after : B → BusPast → Type 0) (transmitting : B → Option Item)
    (route_after : S → RoutePast → Type 0) (routes_of : B → ℕ) (txfp_of : B → Bool) (side_of : B → ℕ → S → Type 0)
    (s : ScriptValue) (sites : List (Site (Port B))) (seats : List (Option S)) (lanes : List Lane) : Type 0 where
  pub each_site : Pairs (λ i segment. HasRunSite bus_after transmitting route_after routes_of txfp_of side_of s seats
      i) s.segments sites
  pub each_lane : Pairs (λ k route. HasRunLane route_after s sites seats k route) s.routes lanes
  pub size : HasSeats s seats
