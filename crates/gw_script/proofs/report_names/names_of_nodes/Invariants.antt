use Rattle.std.proofs.Common.{◌≡◌, map, take}
use Rattle.gw_config.specs.Nodes.{names_of_nodes}
use Rattle.gw_script.proofs.report_names.names_of_nodes.Given as goal

abbrev pub invariant-loop-node : goal.invariant-loop-node
invariant-loop-node l = map (λ name. name.now) l.names.items ≡ take l.node (names_of_nodes l.script l.segment)
