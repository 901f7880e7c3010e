use Rattle.std.proofs.Common.{◌≡◌, ◌++◌, length}
use Rattle.std.specs.Vec.Iter.{into_iter_items}
use Rattle.gw_site.specs.Pairs.{Pairs}
use Rattle.gw_threaded.specs.Parts.{lead_of, IsCourierOf}
use Rattle.gw_threaded.proofs.Walks.{SameAbove}
use Rattle.gw_threaded.proofs.parting.part.Given as goal

abbrev pub invariant-loop-lane : goal.invariant-loop-lane
invariant-loop-lane g l =
    (l.yielded ++ into_iter_items l.lane-iterator ≡ into_iter_items l.initial.lane-iterator)
    × (l.place ≡ length l.yielded)
    × Pairs (λ k lane lead. lead ≡ lead_of lane) l.yielded l.leads.items
    × Pairs (IsCourierOf l.initial.seats l.initial.gates) l.yielded l.couriers.items
    × SameAbove l.place l.initial.seats l.seats
    × SameAbove l.place l.initial.gates l.gates
    × (length l.seats ≡ length l.initial.seats)
    × (length l.gates ≡ length l.initial.gates)
