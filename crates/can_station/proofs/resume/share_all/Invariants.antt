use Rattle.std.proofs.Common.{◌≡◌, false}
use Rattle.can_station.proofs.Places.{AtPlacesBelow}
use Rattle.can_station.specs.DeferredNodes.{Shares, TellsNone}
use Rattle.can_station.proofs.resume.share_all.Given as goal

abbrev pub invariant-loop-place : goal.invariant-loop-place
invariant-loop-place l = record {
  shares : AtPlacesBelow (λ k. Shares l.shared l.bit l.level) l.fn.members l.members l.place;
  uneventful : l.reported ≡ false → AtPlacesBelow (λ k. TellsNone) l.fn.members l.members l.place;
}
