use Rattle.can_node.proofs.Samples.{wanting}
use Rattle.can_node.proofs.node.Node.wants_start.Goals as goal

pub returns-clause-wants : goal.returns-clause-wants
returns-clause-wants c = wanting c.args.self.now c.may_start.result c.may_start.ensures
