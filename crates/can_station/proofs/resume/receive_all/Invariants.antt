use Rattle.can_station.proofs.Places.{AtPlacesBelow}
use Rattle.can_station.specs.DeferredNodes.{CountsReceived, KnowsDeferred}
use Rattle.can_station.proofs.resume.receive_all.Given as goal

abbrev pub invariant-loop-place : goal.invariant-loop-place
invariant-loop-place l = record {
  counts : AtPlacesBelow (λ k. CountsReceived) l.fn.members l.members l.place;
  known : AtPlacesBelow (λ k. KnowsDeferred l.known) l.fn.members l.members l.place;
}
