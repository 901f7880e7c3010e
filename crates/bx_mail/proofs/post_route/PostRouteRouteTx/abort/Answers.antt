-- An abort adds what was posted.
use Rattle.bx_mail.proofs.RouteSides.{aborts_past}
use Rattle.bx_mail.proofs.post_route.PostRouteRouteTx.abort.Goals as goal

pub returns-clause-past : goal.returns-clause-past
returns-clause-past g c =
    λ past h. aborts_past c.args.self.now c.abort.new.self c.args.number c.abort.result c.abort.ensures.posted past h
