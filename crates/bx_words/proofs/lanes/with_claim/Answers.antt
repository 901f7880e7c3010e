use Rattle.bx_words.proofs.LaneSteps.{claimed}
use Rattle.bx_words.proofs.lanes.with_claim.Goals as goal

pub returns : goal.returns
returns c = rw c.from.ensures
    (claimed c.args.word c.args.mailbox c.args.route c.requires.mailbox c.requires.route c.requires.empty)
