use Rattle.std.proofs.Common.{refl}
use Rattle.can_node.proofs.Begins.{begin_stands, begins_sending}
use Rattle.can_node.proofs.Samples.{stands_history}
use Rattle.can_node.proofs.node.Node.begin.Goals as goal

pub returns-clause-stands : goal.returns-clause-stands
returns-clause-stands c =
    begin_stands c.args.self.now _ c.args.frame c.requires c.spell.ensures c.begin-self.ensures refl refl

pub returns-clause-history : goal.returns-clause-history
returns-clause-history c = stands_history _

pub returns-clause-sends : goal.returns-clause-sends
returns-clause-sends c =
    begins_sending c.args.self.now.state c.begin-self.result c.args.self.now.clock c.begin-self.ensures
