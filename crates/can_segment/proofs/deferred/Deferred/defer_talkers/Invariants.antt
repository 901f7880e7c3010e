use Rattle.can_segment.specs.DeferredState.{AreNotDue}
use Rattle.can_segment.proofs.Regroups.{CountedBut, DefersBut}
use Rattle.can_segment.proofs.deferred.Deferred.defer_talkers.Given as goal

abbrev pub invariant-loop-place : goal.invariant-loop-place
invariant-loop-place l = record {
  deferring : DefersBut l.initial.self l.self l.bit l.initial.members l.members l.left;
  not_due : AreNotDue l.self l.plan l.members;
  counted : CountedBut l.active.places l.members l.left;
}

abbrev pub decreases-loop-place : goal.decreases-loop-place
decreases-loop-place l = l.left.bits
