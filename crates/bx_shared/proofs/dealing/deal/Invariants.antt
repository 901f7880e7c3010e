use Rattle.std.proofs.Common.{◌≡◌, ◌-◌, length}
use Rattle.std.specs.Arc.{arc_value}
use Rattle.bx_shared.specs.Steps.{bus_seat, opening_bus}
use Rattle.bx_shared.specs.Seats.{IsAt, AreDealt, openings}
use Rattle.bx_shared.proofs.dealing.deal.Given as goal

abbrev pub invariant-loop-route : goal.invariant-loop-route
invariant-loop-route l = IsAt (arc_value l.words).shared.table_id l.seat.table_id
    × ((arc_value l.words).shared.key ≡ l.fn.txfp)
    × (l.seat.me ≡ bus_seat (opening_bus (arc_value l.words).shared.key) (openings (8 - l.route)))
    × (length l.seats.items ≡ l.route) × AreDealt l.seat.table_id l.seats.items
