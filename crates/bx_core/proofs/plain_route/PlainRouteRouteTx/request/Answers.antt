use Rattle.std.proofs.Common.{refl}
use Rattle.bx_core.proofs.RouteSide.{there-keeps}
use Rattle.bx_core.proofs.Requesting.{requests-own, requests-keeps}
use Rattle.bx_core.proofs.Hears.{hears_answer}
use Rattle.bx_core.proofs.plain_route.PlainRouteRouteTx.request.Goals as goal

pub invariant_of-self : goal.invariant_of-self
invariant_of-self g c = record {
  in_range = there-keeps _ _ _ (requests-keeps _ _ _ _ _ _ c.args.self.now.in_range c.request_of.ensures.request)
      c.args.self.now.in_range;
}

pub returns-clause-past : goal.returns-clause-past
returns-clause-past g c =
    λ past k. requests-own _ _ _ _ _ _ past c.args.self.now.in_range c.request_of.ensures.request k

pub returns-clause-stays : goal.returns-clause-stays
returns-clause-stays g c =
    (refl, (refl, requests-keeps _ _ _ _ _ _ c.args.self.now.in_range c.request_of.ensures.request))

pub returns-clause-heard : goal.returns-clause-heard
returns-clause-heard g c = hears_answer _ _ _ _ _ c.request_of.ensures.hears
