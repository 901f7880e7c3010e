use Rattle.std.proofs.Common.{◌≡◌, ◌++◌, Some, map}
use Rattle.std.specs.Vec.Iter.{into_iter_items}
use Rattle.gw_threaded.proofs.parting.placed.Given as goal

abbrev pub invariant-loop-one : goal.invariant-loop-one
invariant-loop-one g l = (l.yielded ++ into_iter_items l.one-iterator ≡ into_iter_items l.initial.one-iterator)
    × (l.slots.items ≡ map Some l.yielded)
