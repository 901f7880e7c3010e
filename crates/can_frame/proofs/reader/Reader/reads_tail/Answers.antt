use Rattle.std.proofs.Common.{refl}
use Rattle.can_frame.proofs.Nexts.{tail_push}
use Rattle.can_frame.proofs.reader.Reader.reads_tail.Goals as goal

pub returns-in-Tail-clause-on : goal.returns-in-Tail-clause-on
returns-in-Tail-clause-on c was_read =
    tail_push c.args.self.now _ c.args.level c.tail_step.result c.in-AfterBody.frame c.in-AfterBody.right
    c.in-AfterBody.seen c.in-AfterBody.is refl c.in-Tail.is c.tail_step.ensures
