use Rattle.can_station.proofs.Places.{AtPlacesBelow}
use Rattle.gw_run.specs.Worlds.{LaneIdles, idle_turns}
use Rattle.gw_run.proofs.stretch.idle_lanes.Given as goal

abbrev pub invariant-loop-place : goal.invariant-loop-place
invariant-loop-place l =
    AtPlacesBelow (λ k. LaneIdles (idle_turns l.schedules l.made l.next k)) l.initial.lanes l.lanes l.place
