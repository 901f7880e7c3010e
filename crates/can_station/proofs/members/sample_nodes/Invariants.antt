use Rattle.std.proofs.Common.{◌≡◌, ◌≤◌, false}
use Rattle.can_station.specs.Actions.{IsUneventful}
use Rattle.can_station.specs.Members.{NodeSamples}
use Rattle.can_station.proofs.Places.{AtPlacesBut}
use Rattle.can_station.specs.DeferredNodes.{IfActive}
use Rattle.can_station.proofs.PlaceSets.{EachBut}
use Rattle.can_station.proofs.members.sample_nodes.Given as goal

abbrev pub invariant-loop-place : goal.invariant-loop-place
invariant-loop-place l =
    record {
      samples : AtPlacesBut (λ k. IfActive (NodeSamples l.first l.bit l.level l.faults k)) l.initial.members l.members
          l.left;
      uneventful : l.reported ≡ false → EachBut (λ k m. m.is_deferred ≡ false → m.on ≤ l.bit → IsUneventful m.action)
          l.members l.left;
    }

abbrev pub decreases-loop-place : goal.decreases-loop-place
decreases-loop-place l = l.left.bits
