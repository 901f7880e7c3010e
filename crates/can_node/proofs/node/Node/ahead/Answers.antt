use Rattle.std.proofs.Common.{refl}
use Rattle.can_frame.specs.Sending.{StandAhead}
use Rattle.can_node.specs.PlainBits.MayGoOnBy.{sends_on}
use Rattle.can_node.proofs.node.Node.ahead.Goals as goal

pub returns-in-Transmitting-clause-may : goal.returns-in-Transmitting-clause-may
returns-in-Transmitting-clause-may c some =
    let place = c.in-Transmitting.place in
    let ahead : StandAhead c.args.self.now.spelling place c.ahead.result.now =
    rw c.spelling.ensures at c.ahead.ensures.ahead in
    sends_on c.in-Transmitting.start place refl c.in-Transmitting.is ahead c.ahead.ensures.short
