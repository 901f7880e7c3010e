use Rattle.std.proofs.Common.{refl}
use Rattle.can_frame.proofs.Nexts.{wants_stuff_push}
use Rattle.can_frame.proofs.reader.Reader.push_stuff.Goals as goal

pub returns-clause-stuff : goal.returns-clause-stuff
returns-clause-stuff c is =
    let wants = c.wants_stuff_bit.ensures.wants c.if-not-wants_stuff_bit.false in
    wants_stuff_push c.args.self.now _ c.args.level wants refl c.push.ensures.ends refl
