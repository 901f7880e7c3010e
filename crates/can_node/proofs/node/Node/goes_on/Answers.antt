use Rattle.can_node.specs.PlainBits.MayGoOn.{sends}
use Rattle.can_frame.specs.Sending.{SendsOn}
use Rattle.can_node.proofs.node.Node.goes_on.Goals as goal

pub returns-in-Transmitting-clause-may : goal.returns-in-Transmitting-clause-may
returns-in-Transmitting-clause-may c goes =
    let node = c.args.self.now in
    let on : SendsOn c.args.level node.spelling c.in-Transmitting.place =
    rw c.spelling.ensures at c.goes_on.ensures.yes goes in
    sends c.in-Transmitting.start c.in-Transmitting.place c.in-Transmitting.is on
