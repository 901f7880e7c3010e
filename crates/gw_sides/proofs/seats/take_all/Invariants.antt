use Rattle.std.proofs.Common.{◌≡◌, length}
use Rattle.gw_sides.specs.Seats.{HoldsAll, Leaves}
use Rattle.gw_sides.proofs.SeatLaws.{Untaken}
use Rattle.gw_sides.proofs.seats.take_all.Given as goal

abbrev pub invariant-loop-number : goal.invariant-loop-number
invariant-loop-number g l =
    (length l.sides.items ≡ l.number)
    × HoldsAll l.script l.controller l.sides.items l.initial.seats
    × Leaves l.script l.controller l.initial.seats l.seats
    × Untaken l.script l.controller l.number l.initial.seats l.seats
