use Rattle.std.specs.Prelude.{◌<◌}
use Rattle.can_station.proofs.Places.{AtPlacesBelow}
use Rattle.can_station.specs.DeferredNodes.{ResumesDue}
use Rattle.can_station.proofs.resume.resume_each_due.Given as goal

abbrev pub invariant-loop-place : goal.invariant-loop-place
invariant-loop-place l =
    AtPlacesBelow (ResumesDue l.shared_receiver l.bit l.next_due l.plan) l.initial.members l.members l.place
    × (l.bit < l.next_due)
