use Rattle.std.proofs.Common.{◌≡◌, ◌++◌, map, false}
use Rattle.bx_core.specs.Lists.{Each}
use Rattle.bx_shared.specs.Steps.{bus_seat, bus_of}
use Rattle.bx_shared.specs.Seats.{RoutePlace}
use Rattle.bx_shared.proofs.closing.join_all.Given as goal

abbrev pub invariant-loop-side : goal.invariant-loop-side
invariant-loop-side l = (l.seat.table_id ≡ l.fn.seat.table_id)
    × (l.seat.me ≡ bus_seat (bus_of l.fn.seat.me) (l.fn.seat.me.0.routes ++ map (λ (s : RoutePlace). s.part) l.yielded))
    × Each (λ (s : RoutePlace). s.part.claims ≡ false) l.yielded
