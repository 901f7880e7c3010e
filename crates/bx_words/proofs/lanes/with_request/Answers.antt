use Rattle.bx_words.proofs.LaneSteps.{counted_youngest}
use Rattle.bx_words.proofs.lanes.with_request.Goals as goal

pub returns : goal.returns
returns c = counted_youngest c.args.word c.with_youngest.result c.counted.result c.args.mailbox _
    c.with_youngest.ensures c.counted.ensures c.requires.mailbox
