-- The mailboxes of controllers as sets, when they are opened and when they are closed.
use Rattle.std.specs.Prelude.{◌≡◌, ℕ, ◌<◌, ◌≤◌, Bool, Option, None, Some, List, [], length, slice_get}
use Rattle.bx_core.specs.RouteTx.{RoutePast, no_route_past}
use Rattle.bx_core.specs.Ties.{RouteTied, NothingOf, left_of}
use Rattle.bx_core.specs.TxBus.{Item, BusPast, BusCall, no_bus_past}
use Rattle.can_segment.specs.Segments.{IsOpening}
use Rattle.bx_controller.specs.declared.port.Port.{Port}
use Rattle.gw_config.specs.Controllers.{ControllerValue}
use Rattle.gw_config.specs.Nodes.{controller_places}
use Rattle.gw_config.specs.Scripts.{ScriptValue}
use Rattle.gw_ending.specs.Ports.{Port as ClosedPort, Site as ClosedSite}
use Rattle.gw_opening.specs.Openings.{priority_of, routes_at, IsNewPort}
use Rattle.gw_opening.specs.Plans.{IsPlanOf}
use Rattle.gw_site.specs.Pairs.{Pairs}
use Rattle.gw_site.specs.declared.site.Site.{Site}
use Rattle.gw_sides.specs.Seats.{seat_of, Seated}

-- each controller of a script has a priority that its mailboxes can have
abbrev pub AllSendBy : (Bool → Type 0) → ScriptValue → Type 0
AllSendBy can_send_by s = (controller : ℕ) (value : ControllerValue) →
    slice_get s.controllers controller ≡ Some value → can_send_by (priority_of value)

-- mailboxes of this priority for so many routes, of which nothing was asked yet
pub record IsNewSet {B : Type 0} (after : B → BusPast → Type 0) (asked : B → List BusCall → Type 0)
    (transmitting : B → Option Item) (routes_of : B → ℕ) (txfp_of : B → Bool) (txfp : Bool) (routes : ℕ)
    (mail : B) : Type 0 where
  pub bus : after mail no_bus_past
  pub asked_none : asked mail []
  pub idle : transmitting mail ≡ None
  pub routes_is : routes_of mail ≡ routes
  pub priority_is : txfp_of mail ≡ txfp

-- of these mailboxes this is the side of that number, and it did nothing yet
abbrev pub IsNewSide : {B S : Type 0} (side_of : B → ℕ → S → Type 0) (after : S → RoutePast → Type 0) → B → ℕ →
    S → Type 0
IsNewSide side_of after mail number side = side_of mail number side × after side no_route_past

-- the port of a controller before the first bit: its mailboxes are new ones, whose sides stand at their places
pub record OpensPort {B S : Type 0} (NewSet : Bool → ℕ → B → Type 0) (Rel : B → ℕ → S → Type 0) (s : ScriptValue)
    (seats : List (Option S)) (controller : ℕ) (port : Port B) : Type 0 where
  pub is_new : IsNewPort s controller port
  pub mail : (value : ControllerValue) → slice_get s.controllers controller ≡ Some value →
      NewSet (priority_of value) (routes_at s controller) port.mail
  pub seated : Seated Rel s controller port.mail seats

-- the segment at a place of the script before its first bit, with such ports
pub record OpensSite {B S : Type 0} (NewSet : Bool → ℕ → B → Type 0) (Rel : B → ℕ → S → Type 0) (s : ScriptValue)
    (seats : List (Option S)) (segment : ℕ) (site : Site (Port B)) : Type 0 where
  pub plan_is : IsPlanOf s segment site.segment.plan
  pub opens : IsOpening site.segment.plan site.segment
  pub ports : Pairs (λ k. OpensPort NewSet Rel s seats) (controller_places s segment) site.ports.items

-- the mailboxes of a controller may be closed: they are for the routes into it, and their sides stand at their places
pub record MayClose {B S : Type 0} (routes_of : B → ℕ) (side_of : B → ℕ → S → Type 0) (s : ScriptValue)
    (seats : List (Option S)) (controller : ℕ) (port : Port B) : Type 0 where
  pub routes_is : routes_of port.mail ≡ routes_at s controller
  pub seated : Seated side_of s controller port.mail seats

-- They are closed: whatever the bus side and a route's side did is tied to what is left; nothing was done for a number
-- that no side has; and the rest of the port is as it was.
pub record ClosesPort {B S : Type 0} (bus_after : B → BusPast → Type 0) (route_after : S → RoutePast → Type 0)
    (txfp_of : B → Bool) (room : ℕ) (s : ScriptValue) (seats : List (Option S)) (controller : ℕ) (port : Port B)
    (closed : ClosedPort) : Type 0 where
  pub tied : (number : ℕ) (side : S) (did : BusPast) (past : RoutePast) → number < routes_at s controller →
      slice_get seats (seat_of s controller number) ≡ Some (Some side) →
      bus_after port.mail did → route_after side past →
      RouteTied (txfp_of port.mail) number did past (left_of number closed.mail.left.items)
  pub beyond : (did : BusPast) → bus_after port.mail did → (number : ℕ) → routes_at s controller ≤ number →
      NothingOf number did closed.mail.left.items
  pub few : length closed.mail.left.items ≤ room
  pub banks_is : closed.banks ≡ port.banks
  pub first_is : closed.first ≡ port.first
  pub second_is : closed.second ≡ port.second

-- so are those of the controller at this place of a segment
pub record ClosesNth {B S : Type 0} (bus_after : B → BusPast → Type 0) (route_after : S → RoutePast → Type 0)
    (txfp_of : B → Bool) (room : ℕ) (s : ScriptValue) (seats : List (Option S)) (segment k : ℕ) (port : Port B)
    (closed : ClosedPort) : Type 0 where
  pub at : (controller : ℕ) → slice_get (controller_places s segment) k ≡ Some controller →
      ClosesPort bus_after route_after txfp_of room s seats controller port closed

-- and so are those of each controller on a segment
pub record ClosesSite {B S : Type 0} (bus_after : B → BusPast → Type 0) (route_after : S → RoutePast → Type 0)
    (txfp_of : B → Bool) (room : ℕ) (s : ScriptValue) (seats : List (Option S)) (segment : ℕ) (site : Site (Port B))
    (closed : ClosedSite) : Type 0 where
  pub segment_is : closed.segment ≡ site.segment
  pub ports : Pairs (ClosesNth bus_after route_after txfp_of room s seats segment) site.ports.items closed.ports.items
