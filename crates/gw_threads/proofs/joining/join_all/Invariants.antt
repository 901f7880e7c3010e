use Rattle.std.proofs.Common.{◌≡◌, ◌≤◌, ◌++◌, List, length, false, Ok, vec_capacity}
use Rattle.std.specs.Vec.Iter.{into_iter_items, into_iter_len}
use Rattle.gw_site.specs.Pairs.{Pairs}
use Rattle.gw_threads.proofs.joining.join_all.Given as goal

abbrev pub invariant-loop-thread : goal.invariant-loop-thread
invariant-loop-thread g l =
    (length (into_iter_items l.initial.left) ≤ vec_capacity l.made)
    × ((front : List _) × (front ++ into_iter_items l.left ≡ into_iter_items l.initial.left)
    × (length l.made.items ≤ length front)
    × (l.failed ≡ false → Pairs (λ k thread one. g.P.Promise.kept_by thread.handle.promise (Ok one)) front
    l.made.items))

abbrev pub decreases-loop-thread : goal.decreases-loop-thread
decreases-loop-thread g l = into_iter_len l.left
