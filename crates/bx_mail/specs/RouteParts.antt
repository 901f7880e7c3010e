-- What the fields of a `PostRoute` stand for.
use Rattle.std.specs.Prelude.{◌≡◌, ◌≤◌, length}
use Rattle.std.specs.Arc.{arc_value}
use Rattle.crossbeam_queue.specs.Passes.{view, IsPassOf, ruled_capacity}
use Rattle.bx_core.specs.Steps.{last_number, greatest_number}
use Rattle.bx_mail.specs.Postings.{requests_in}
use Rattle.bx_mail.specs.Rule.{route_log}
use Rattle.bx_mail.specs.Sides.{RouteSide}
use Rattle.bx_mail.specs.declared.post_route.PostRoute.TheInside.{Inside}

abbrev pub route_view : Inside → RouteSide
route_view s = record { queue = s.pass.table_id; route = s.route; sent = (view s.pass).sent }

-- it may post for its route, at a queue of eight places; it keeps the newest number, and counts its requests
abbrev pub IsRoute : Inside → Type 0
IsRoute s = IsPassOf (arc_value s.line) s.pass × (ruled_capacity (arc_value s.line) ≡ 8)
    × (view s.pass ≡ route_log s.route (view s.pass).sent)
    × (s.last ≡ last_number (requests_in (view s.pass).sent))
    × (s.requested ≡ length (requests_in (view s.pass).sent)) × (s.requested ≤ s.last) × (s.last ≤ greatest_number)
