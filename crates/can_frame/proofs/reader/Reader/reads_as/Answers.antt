use Rattle.can_frame.proofs.Nexts.{stands_behind_as}
use Rattle.can_frame.proofs.reader.Reader.reads_as.Goals as goal

pub returns-in-AfterBody : goal.returns-in-AfterBody
returns-in-AfterBody c is =
    stands_behind_as c.args.self.now c.args.other.now c.in-AfterBody.frame c.in-AfterBody.right c.in-AfterBody.seen
    c.in-AfterBody.is (c.is_behind.ensures is)
