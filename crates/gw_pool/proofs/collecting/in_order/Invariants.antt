use Rattle.std.proofs.Common.{◌≡◌, ◌≤◌, ◌++◌, Some, length, vec_capacity}
use Rattle.std.specs.Vec.Iter.{into_iter_items}
use Rattle.gw_pool.specs.Collecting.{AreFull}
use Rattle.gw_site.specs.Pairs.{Pairs}
use Rattle.gw_pool.proofs.collecting.in_order.Given as goal

abbrev pub invariant-loop-slot : goal.invariant-loop-slot
invariant-loop-slot g l =
    (l.yielded ++ into_iter_items l.slot-iterator ≡ into_iter_items l.initial.slot-iterator)
    × (length (into_iter_items l.initial.slot-iterator) ≤ vec_capacity l.all)
    × AreFull (into_iter_items l.initial.slot-iterator)
    × Pairs (λ k slot one. slot ≡ Some one) l.yielded l.all.items
