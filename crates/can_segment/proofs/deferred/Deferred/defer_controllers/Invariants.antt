use Rattle.std.proofs.Common.{◌<◌}
use Rattle.can_station.specs.DeferredNodes.{NoneDeferred}
use Rattle.can_segment.proofs.Regroups.{CountedBut, DefersBut}
use Rattle.can_segment.proofs.deferred.Deferred.defer_controllers.Given as goal

abbrev pub invariant-loop-place : goal.invariant-loop-place
invariant-loop-place l = record {
  deferring : DefersBut l.initial.self l.self l.bit l.initial.members l.members l.left;
  active : 0 < l.self.next_start → NoneDeferred l.members;
  counted : CountedBut l.active.places l.members l.left;
}

abbrev pub decreases-loop-place : goal.decreases-loop-place
decreases-loop-place l = l.left.bits
