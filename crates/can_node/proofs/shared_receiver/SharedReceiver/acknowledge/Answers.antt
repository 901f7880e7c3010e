use Rattle.std.proofs.Common.{sym, ◌∙◌}
use Rattle.can_node.proofs.Acknowledging.{acknowledges}
use Rattle.can_node.proofs.shared_receiver.SharedReceiver.acknowledge.Goals as goal

pub returns-clause-acknowledges : goal.returns-clause-acknowledges
returns-clause-acknowledges c read =
    let here = c.in-Receiving in
    rw c.receiving-self.ensures (acknowledges c.args.self.now here.start here._may_begin here.stage c.reads_tail.new.self c.args.level here.is
    (sym c.is_own_slot.ensures ∙ c.if-not-is_own_slot.false) (c.reads_tail.ensures.on c.if-not-reads_tail.false))
