use Rattle.can_frame.proofs.Nexts.{taken_push}
use Rattle.can_frame.proofs.reader.Reader.takes.Goals as goal

pub returns-in-Taken : goal.returns-in-Taken
returns-in-Taken c =
    let here = c.in-AfterBody in
    taken_push c.args.self.now c.args.level c.tail_step.result c.in-Taken.taken here.frame here.right here.seen here.is
    c.in-Taken.is c.tail_step.ensures
