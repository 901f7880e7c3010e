-- What the gate heard, up to the request or to the claim that is given back.
use Rattle.std.proofs.Common.{[], ◌∷◌, ap, inr, arith}
use Rattle.bx_core.specs.declared.point.Point.TheVariants.{Look, Fill, Request, Withdraw}
use Rattle.bx_shared.specs.Steps.{part_of}
use Rattle.bx_shared.specs.Seats.{to_claim}
use Rattle.bx_shared.specs.declared.route_view.RouteView.{RouteView}
use Rattle.bx_shared.proofs.Losing.{passes_on}
use Rattle.bx_shared.proofs.attempt.attempt.Goals as goal

pub returns-in-None-clause-hears : goal.returns-in-None-clause-hears
returns-in-None-clause-hears g c = let may = g.G.Gate.may_have_heard in
    passes_on may to_claim (Fill ∷ Fill ∷ Look ∷ Request ∷ []) _ _ _ c.in-Ok.ensures.hears
    (passes_on may (Fill ∷ Fill ∷ []) (Look ∷ Request ∷ []) _ _ _ c.fill.ensures.hears c.in-None.ensures.hears)

pub returns-in-Some-clause-hears : goal.returns-in-Some-clause-hears
returns-in-Some-clause-hears g c = let may = g.G.Gate.may_have_heard in
    let first = c.in-Ok.ensures.claimed.looks in
    let filled = ap (λ (p : RouteView). p.looks) (ap part_of c.fill.ensures.filled) in
    let last = c.in-Some.ensures.lost.looks in
    inr (
      omega arith,
      passes_on may to_claim (Fill ∷ Fill ∷ Look ∷ Request ∷ Withdraw ∷ []) _ _ _ c.in-Ok.ensures.hears
          (passes_on may (Fill ∷ Fill ∷ []) (Look ∷ Request ∷ Withdraw ∷ []) _ _ _ c.fill.ensures.hears
          c.in-Some.ensures.hears_lost),
    )
