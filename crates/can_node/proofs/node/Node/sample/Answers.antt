use Rattle.std.proofs.Common.{refl}
use Rattle.can_node.proofs.Samples.{samples, stands_history}
use Rattle.can_node.proofs.node.Node.sample.Goals as goal

pub returns-clause-stands : goal.returns-clause-stands
returns-clause-stands c =
    samples c.args.self.now _ c.args.level c.advance.result (rw c.spelling.ensures at c.advance.ensures) refl refl

pub returns-clause-history : goal.returns-clause-history
returns-clause-history c = stands_history _
