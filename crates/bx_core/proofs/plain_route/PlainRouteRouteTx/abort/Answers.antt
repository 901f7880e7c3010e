use Rattle.std.proofs.Common.{refl}
use Rattle.bx_core.proofs.RouteSide.{aborts-own, aborts-keeps, there-keeps}
use Rattle.bx_core.proofs.Hears.{hears_nothing}
use Rattle.bx_core.proofs.plain_route.PlainRouteRouteTx.abort.Goals as goal

pub invariant_of-self : goal.invariant_of-self
invariant_of-self g c = record {
  in_range = there-keeps _ _ _
      (aborts-keeps _ _ _ _ _ c.keep_law.ensures c.args.self.now.in_range c.abort_of.ensures.core
      c.abort_of.ensures.short) c.args.self.now.in_range;
}

pub returns-clause-past : goal.returns-clause-past
returns-clause-past g c =
    λ past k. aborts-own _ _ _ _ _ past c.keep_law.ensures c.args.self.now.in_range c.abort_of.ensures.core k

pub returns-clause-stays : goal.returns-clause-stays
returns-clause-stays g c = (
  refl,
  (
    refl,
    aborts-keeps _ _ _ _ _ c.keep_law.ensures c.args.self.now.in_range c.abort_of.ensures.core
        c.abort_of.ensures.short,
  ),
)

pub returns-clause-heard : goal.returns-clause-heard
returns-clause-heard g c = hears_nothing _ _ _ refl
