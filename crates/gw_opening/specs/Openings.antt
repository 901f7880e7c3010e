-- A run before its first bit, whatever the mailboxes of its controllers are.
use Rattle.std.specs.Prelude.{◌≡◌, ◌≢◌, ◌==◌, ℕ, max, Option, Some, None, List, [], length, slice_get, Bool}
use Rattle.bx_core.specs.RouteTx.{no_route_past}
use Rattle.can_segment.specs.Segments.{IsOpening}
use Rattle.gw_route.specs.Plans.{FromPlan}
use Rattle.gw_route.specs.RouteHand.{hand_value, LogMatches, LogsReleased}
use Rattle.gw_config.specs.Controllers.{ControllerValue}
use Rattle.gw_config.specs.Routes.{RouteValue}
use Rattle.gw_config.specs.Scripts.{ScriptValue}
use Rattle.gw_config.specs.Nodes.{controller_places, route_places, route_at}
use Rattle.bx_controller.specs.Intakes.{IntakeStands}
use Rattle.bx_controller.specs.declared.intake.Intake.{Intake}
use Rattle.bx_controller.specs.declared.port.Port.{Port}
use Rattle.gw_site.specs.Pairs.{Pairs}
use Rattle.gw_site.specs.declared.site.Site.{Site}
use Rattle.gw_opening.specs.declared.lane.Lane.{Lane}
use Rattle.gw_opening.specs.declared.place.Place.{Place}
use Rattle.gw_opening.specs.Places.{IsAt, TakesFrom}
use Rattle.gw_opening.specs.Plans.{IsPlanOf, aborts_of}

-- Whether a controller sends by order of requests: else by identifier (RM0008, bxCAN, "Transmit priority").
abbrev pub priority_of : ControllerValue → Bool
priority_of controller = controller.txfp

-- no FIFO, or one that was offered nothing yet
abbrev pub IsEmptySlot : Option Intake → Type 0
IsEmptySlot None = Unit {0}
IsEmptySlot (Some intake) = IntakeStands intake []

-- for how many routes a controller has mailboxes: for those into it, and for one that nobody is where there is none
abbrev pub routes_at : ScriptValue → ℕ → ℕ
routes_at s controller = max 1 (length (route_places s controller))

-- the port of a controller, by its place in the script
pub record IsNewPort {B : Type 0} (s : ScriptValue) (controller : ℕ) (port : Port B) : Type 0 where
  pub value : ControllerValue
  pub value_is : slice_get s.controllers controller ≡ Some value
  pub banks_is : port.banks ≡ value.banks
  pub first : IsEmptySlot port.first
  pub second : IsEmptySlot port.second

-- the segment at a place of the script, with the ports of the controllers on it
pub record IsNewSite {B : Type 0} (s : ScriptValue) (segment : ℕ) (site : Site (Port B)) : Type 0 where
  pub plan_is : IsPlanOf s segment site.segment.plan
  pub opens : IsOpening site.segment.plan site.segment
  pub ports : Pairs (λ k. IsNewPort s) (controller_places s segment) site.ports.items

abbrev pub AreNewSites : {B : Type 0} → ScriptValue → List (Site (Port B)) → Type 0
AreNewSites s sites = Pairs (λ i segment. IsNewSite s i) s.segments sites

-- where a controller of the script is
abbrev pub IsPlaceOf : ScriptValue → ℕ → Place → Type 0
IsPlaceOf s controller place = slice_get (controller_places s place.site) place.port ≡ Some controller

-- the route at a place of the script, as a run makes it
pub record IsLaneOf (s : ScriptValue) (k : ℕ) (route : RouteValue) (lane : Lane) : Type 0 where
  pub source_is : IsPlaceOf s route.source lane.source
  pub fifo_is : lane.fifo ≡ route.fifo
  pub target_is : IsPlaceOf s route.target lane.target
  pub number_is : route_at s route.target lane.number ≡ Some k
  pub rewrites_is : lane.hand.rewrites.items ≡ route.rewrites
  pub queue_is : lane.hand.queue ≡ route.queue
  pub plan : FromPlan (aborts_of s k) (hand_value lane.hand)

-- one that made no turn
pub record IsNewLane (s : ScriptValue) (k : ℕ) (route : RouteValue) (lane : Lane) : Type 0 where
  pub lane_is : IsLaneOf s k route lane
  pub aborts_is : (hand_value lane.hand).aborts ≡ aborts_of s k
  pub turns_is : lane.hand.turns ≡ 0
  pub linked : LogMatches (hand_value lane.hand) no_route_past
  pub log : LogsReleased (hand_value lane.hand)

-- a route takes from a FIFO of the controller that it comes from
pub record Takes {B : Type 0} (sites : List (Site (Port B))) (lane : Lane) : Type 0 where
  pub from : Port B
  pub from_is : IsAt sites lane.source from
  pub takes : TakesFrom lane from

-- they don't take from the same FIFO of one controller
abbrev pub TakesApart : Lane → Lane → Type 0
TakesApart other lane = other.source ≡ lane.source → (other.fifo == 0) ≢ (lane.fifo == 0)

-- all segments and routes before the first bit
pub record Opens {B : Type 0} (s : ScriptValue) (sites : List (Site (Port B))) (lanes : List Lane) : Type 0 where
  pub each_site : AreNewSites s sites
  pub each_lane : Pairs (λ k route. IsNewLane s k route) s.routes lanes
  pub takes : (k : ℕ) (lane : Lane) → slice_get lanes k ≡ Some lane → Takes sites lane

-- at each place the mailboxes are what they were
abbrev pub SameMails : {B : Type 0} → List (Site (Port B)) → List (Site (Port B)) → Type 0
SameMails {B} old new = (place : Place) (late : Port B) → IsAt new place late → (port : Port B) × IsAt old place port
    × (late.mail ≡ port.mail)

-- at the place of each controller there are mailboxes of its priority, for the routes into it, of which this holds
abbrev pub HaveMails : {B : Type 0} → (Bool → ℕ → B → Type 0) → ScriptValue → List (Site (Port B)) → Type 0
HaveMails {B} NewMail s sites = (place : Place) (port : Port B) (controller : ℕ) (value : ControllerValue) →
    IsAt sites place port → IsPlaceOf s controller place →
    slice_get s.controllers controller ≡ Some value → NewMail (priority_of value) (routes_at s controller) port.mail
