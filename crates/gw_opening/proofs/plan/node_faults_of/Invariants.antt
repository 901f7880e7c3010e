use Rattle.std.proofs.Common.{◌≡◌, [], take}
use Rattle.gw_opening.specs.Plans.{node_fault_in}
use Rattle.gw_opening.proofs.Plans.{kept_of}
use Rattle.gw_opening.proofs.plan.node_faults_of.Given as goal

abbrev pub invariant-loop-fault : goal.invariant-loop-fault
invariant-loop-fault l = l.faults.items ≡ kept_of (node_fault_in l.segment) [] (take l.fault-index l.script.faults)
