use Rattle.std.proofs.Common.{◌≡◌, length}
use Rattle.gw_sides.proofs.seats.seats_for.Given as goal

abbrev pub invariant-loop-place : goal.invariant-loop-place
invariant-loop-place g l = length l.seats.items ≡ l._place
