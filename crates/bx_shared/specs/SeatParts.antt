-- What the fields of the seats stand for.
use Rattle.std.specs.Prelude.{◌≡◌, ◌<◌, ◌≤◌, None, IfSome, false, length, map}
use Rattle.std.specs.Arc.{arc_value}
use Rattle.bx_core.specs.Steps.{last_number, greatest_number}
use Rattle.bx_core.specs.TxBus.{label_of}
use Rattle.bx_shared.specs.Steps.{seat_of, part_of, bus_seat, bus_of}
use Rattle.bx_shared.specs.Tallies.{IsTally}
use Rattle.bx_shared.specs.Seats.{IsAt, RoutePlace, route_place, BusPlace, bus_place, openings}
use Rattle.bx_shared.specs.declared.route_seat.RouteSeat.TheInside.{Inside as RouteInside}
use Rattle.bx_shared.specs.declared.bus_seat.BusSeat.TheInside.{Inside as BusInside}

abbrev pub route_view : RouteInside → RoutePlace
route_view s = route_place s.seat.table_id s.seat.me

-- it holds its route's place alone, it fills no mailbox, it keeps the newest number and that of each mailbox, and it
-- counts what it requested and aborted
pub record IsRouteSeat (s : RouteInside) : Type 0 where
  pub at : IsAt (arc_value s.words).shared.table_id s.seat.table_id
  pub alone : s.seat.me ≡ seat_of (part_of s.seat.me)
  pub own : (part_of s.seat.me).route ≡ s.route
  pub small : s.route < 8
  pub idle : (part_of s.seat.me).claims ≡ false
  pub newest : last_number (part_of s.seat.me).requested ≡ s.last
  pub put : (part_of s.seat.me).last ≡ s.tops
  pub requested : length (part_of s.seat.me).requested ≡ s.requested
  pub aborted : length (part_of s.seat.me).aborted ≡ s.aborted
  -- numbers rise, up to the greatest
  pub rises : s.requested ≤ s.last
  pub most : s.last ≤ greatest_number

abbrev pub bus_view : BusInside → BusPlace
bus_view s = bus_place s.seat.table_id (arc_value s.words).shared.key s.seat.me

-- it holds the bus's place, and those of the routes that no seat was made for; it keeps what it transmits and the
-- mailbox of that, and between its calls nothing is to be reaped; it counts what was sent and reaped of each route
pub record IsBusSeat (s : BusInside) : Type 0 where
  pub at : IsAt (arc_value s.words).shared.table_id s.seat.table_id
  pub alone : s.seat.me ≡ bus_seat (bus_of s.seat.me) s.seat.me.0.routes
  pub others : s.seat.me.0.routes ≡ openings (length s.seat.me.0.routes)
  pub sends : (bus_of s.seat.me).sends ≡ s.sends
  pub mailbox : (bus_of s.seat.me).mailbox ≡ s.mailbox
  pub small : s.mailbox < 3
  pub priority : (bus_of s.seat.me).txfp ≡ (arc_value s.words).shared.key
  pub due : (bus_of s.seat.me).reaps ≡ None
  pub route : IfSome s.sends (λ x. x.0 < 8)
  pub tally : IsTally (bus_of s.seat.me).done (map label_of (bus_of s.seat.me).reaped) s.tally
