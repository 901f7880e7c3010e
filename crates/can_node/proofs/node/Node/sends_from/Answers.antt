use Rattle.can_node.proofs.Samples.{sending}
use Rattle.can_node.proofs.node.Node.sends_from.Goals as goal

pub returns-clause-sends : goal.returns-clause-sends
returns-clause-sends c = sending c.args.self.now c.sof.result c.sof.ensures
