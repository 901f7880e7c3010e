use Rattle.std.proofs.Common.{refl}
use Rattle.can_frame.proofs.Nexts.{wants_data_push}
use Rattle.can_frame.proofs.reader.Reader.push_more.Goals as goal

pub returns-clause-more : goal.returns-clause-more
returns-clause-more c is =
    let wants = c.wants_data.ensures.wants c.if-not-wants_data.false in
    wants_data_push c.args.self.now _ c.args.level wants refl c.push.ensures.ends c.keep.ensures.grows
