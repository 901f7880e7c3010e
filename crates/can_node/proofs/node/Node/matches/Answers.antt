use Rattle.std.proofs.Common.{rules, refl}
use Rattle.can_node.proofs.Listens.{matches}
use Rattle.can_node.proofs.Advancing.{no_taking, no_sending}
use Rattle.can_node.proofs.node.Node.matches.Goals as goal

pub returns-in-Receiving : goal.returns-in-Receiving
returns-in-Receiving c same = matches c.args.self.now c.args.shared_receiver.now (search rules) (rw c.in-Receiving.is
    refl)
    (λ is. c.reads_as.ensures same)

pub returns-in_default : goal.returns-in_default
returns-in_default c same =
    matches c.args.self.now c.args.shared_receiver.now (search rules)
    (no_sending c.args.self.now.state (λ x y. c.in_default.not-Transmitting x y))
    (λ is. absurd (cc (is, no_taking c.args.self.now.state (λ x y z. c.in_default.not-Receiving x y z))))
