use Rattle.can_node.proofs.Samples.{new_stands}
use Rattle.std.proofs.Common.{refl}
use Rattle.can_node.proofs.node.Node.new.Goals as goal

pub returns-clause-stands : goal.returns-clause-stands
returns-clause-stands c = new_stands _ refl c.new-2.ensures
