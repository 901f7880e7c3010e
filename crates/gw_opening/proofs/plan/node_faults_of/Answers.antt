use Rattle.std.proofs.Common.{[], ap, arith, length, ◌∙◌}
use Rattle.std.proofs.lemmas.List.{take_all}
use Rattle.gw_opening.specs.Plans.{node_fault_in}
use Rattle.gw_opening.proofs.Plans.{kept_of, kept-all}
use Rattle.gw_opening.proofs.plan.node_faults_of.Goals as goal

pub returns : goal.returns
returns c =
    let faults = c.args.script.now.faults in
    let all = take_all c.loop-fault.fault-index faults
    (omega (arith, c.loop-fault-test.false, ap length c.faults-fault-items.ensures)) in
    c.loop-fault.invariant ∙ ap (kept_of (node_fault_in c.args.segment) []) all
    ∙ kept-all (node_fault_in c.args.segment) faults
