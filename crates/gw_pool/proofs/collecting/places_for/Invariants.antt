use Rattle.std.proofs.Common.{◌≡◌, length}
use Rattle.gw_pool.proofs.collecting.places_for.Given as goal

abbrev pub invariant-loop-place : goal.invariant-loop-place
invariant-loop-place g l = length l.slots.items ≡ l._place
