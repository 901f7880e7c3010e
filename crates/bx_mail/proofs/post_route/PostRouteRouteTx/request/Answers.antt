-- A request adds what was posted.
use Rattle.bx_core.specs.declared.point.Point.TheVariants.{Post, Answered}
use Rattle.bx_core.specs.Gate.{Passes, HearsAnswer}
use Rattle.std.proofs.Common.{◌∷◌, []}
use Rattle.bx_mail.specs.Sides.{heard_as}
use Rattle.bx_mail.proofs.Leaving.{if_ok-more}
use Rattle.bx_mail.proofs.RouteSides.{requests_past, hears_post}
use Rattle.bx_mail.proofs.post_route.PostRouteRouteTx.request.Goals as goal

pub returns-clause-past : goal.returns-clause-past
returns-clause-past g c = λ past h. requests_past c.args.self.now c.request.new.self c.args.number c.args.frame
    c.request.result c.request.ensures.unchanged c.request.ensures.posted past h

pub returns-clause-heard : goal.returns-clause-heard
returns-clause-heard g c = let heard = g.G.Gate.may_have_heard in let old = c.args.gate.now in let new =
    c.request.new.gate in
    if_ok-more (λ sent. Passes heard (Post ∷ Answered (heard_as sent) ∷ []) old new)
    (λ sent. HearsAnswer heard sent old new) c.request.result (λ sent h. hears_post heard sent old new h)
    c.request.ensures.hears
