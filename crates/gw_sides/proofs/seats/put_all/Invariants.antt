use Rattle.std.proofs.Common.{◌≡◌, ◌≤◌, ◌++◌, length}
use Rattle.std.specs.Vec.Iter.{into_iter_items}
use Rattle.gw_opening.specs.Openings.{routes_at}
use Rattle.gw_sides.specs.Seats.{HoldsAll, Leaves}
use Rattle.gw_sides.proofs.seats.put_all.Given as goal

abbrev pub invariant-loop-side : goal.invariant-loop-side
invariant-loop-side g l =
    (l.yielded ++ into_iter_items l.side-iterator ≡ into_iter_items l.initial.side-iterator)
    × (l.number ≡ length l.yielded)
    × (length (into_iter_items l.initial.side-iterator) ≤ routes_at l.script l.controller)
    × HoldsAll l.script l.controller l.yielded l.seats
    × Leaves l.script l.controller l.initial.seats l.seats
