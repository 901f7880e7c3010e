use Rattle.can_node.proofs.Samples.{counts_none, counts_some}
use Rattle.can_node.proofs.machine.count.Goals as goal

pub returns-in-None : goal.returns-in-None
returns-in-None c = counts_none c.args.counters.now c.args.event c.in-None.is

pub returns-in-Some : goal.returns-in-Some
returns-in-Some c = counts_some c.args.counters.now c.apply.new.self c.args.event c.in-Some.event c.is_off.result
    c.in-Some.is c.apply.ensures c.is_off.ensures.shown
