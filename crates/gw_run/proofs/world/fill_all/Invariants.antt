use Rattle.can_station.proofs.Places.{AtPlacesBelow}
use Rattle.gw_run.specs.Worlds.{LaneFills}
use Rattle.gw_run.proofs.world.fill_all.Given as goal

abbrev pub invariant-loop-place : goal.invariant-loop-place
invariant-loop-place g l = AtPlacesBelow (λ k. LaneFills) l.initial.lanes l.lanes l.place
