use Rattle.std.proofs.Common.{◌≡◌}
use Rattle.can_station.proofs.Places.{AtPlacesBelow}
use Rattle.can_station.specs.DeferredNodes.{resumed}
use Rattle.can_station.proofs.resume.resume_each.Given as goal

abbrev pub invariant-loop-place : goal.invariant-loop-place
invariant-loop-place l = AtPlacesBelow (λ k a b. b ≡ resumed l.shared_receiver l.bit a) l.initial.members l.members
    l.place
