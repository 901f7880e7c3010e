use Rattle.std.proofs.Common.{◌≡◌, ◌++◌, length}
use Rattle.std.specs.Vec.Iter.{into_iter_items}
use Rattle.gw_site.specs.Pairs.{Pairs}
use Rattle.gw_threaded.specs.Parts.{IsLaneFrom, HaveCome}
use Rattle.gw_threaded.proofs.parting.meet.Given as goal

abbrev pub invariant-loop-courier : goal.invariant-loop-courier
invariant-loop-courier g l =
    (l.yielded ++ into_iter_items l.courier-iterator ≡ into_iter_items l.initial.courier-iterator)
    × (l.place ≡ length l.yielded)
    × Pairs (IsLaneFrom l.leads) l.yielded l.lanes.items
    × HaveCome l.yielded l.initial.seats l.seats
