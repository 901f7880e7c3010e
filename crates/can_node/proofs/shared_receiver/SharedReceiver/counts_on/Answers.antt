use Rattle.can_node.proofs.Listens.{plain_follows}
use Rattle.can_node.proofs.shared_receiver.SharedReceiver.counts_on.Goals as goal

pub returns-clause-follows : goal.returns-clause-follows
returns-clause-follows c counted sends_none known bit =
    plain_follows known c.args.self.now c.count_on.new.state bit c.args.level sends_none
    (λ counters. c.count_on.ensures.counted counted counters bit)
