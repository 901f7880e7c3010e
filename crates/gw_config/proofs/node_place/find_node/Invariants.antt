use Rattle.std.proofs.Common.{◌≡◌, drop}
use Rattle.gw_config.specs.PlannedFaults.{node_from}
use Rattle.gw_config.proofs.node_place.find_node.Given as goal

abbrev pub invariant-loop-place : goal.invariant-loop-place
invariant-loop-place l =
    node_from l.controllers l.name l.place (drop l.place l.segments) ≡ node_from l.controllers l.name 0 l.segments
