use Rattle.can_station.proofs.Places.{AtPlacesBelow}
use Rattle.can_station.specs.DeferredNodes.{ResumesFaulted}
use Rattle.can_station.proofs.resume.resume_each_faulted.Given as goal

abbrev pub invariant-loop-place : goal.invariant-loop-place
invariant-loop-place l =
    AtPlacesBelow (ResumesFaulted l.shared_receiver l.bit l.faults l.first) l.initial.members l.members l.place
