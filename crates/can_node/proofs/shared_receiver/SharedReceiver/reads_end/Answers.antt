use Rattle.std.proofs.Common.{sym, ◌∙◌}
use Rattle.can_node.proofs.Listens.{along_end}
use Rattle.can_node.proofs.shared_receiver.SharedReceiver.reads_end.Goals as goal

pub returns-clause-along : goal.returns-clause-along
returns-clause-along c read =
    let state = c.args.self.now.state in
    along_end state c.in-Some.behind c.args.self.now.reader c.reads_tail.new.self c.args.level
    (sym c.behind_end.ensures ∙ c.in-Some.is) (c.reads_tail.ensures.on c.if-not-reads_tail.false)
