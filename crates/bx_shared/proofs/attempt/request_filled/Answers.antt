-- Where the request lost, the claim is given back.
use Rattle.std.proofs.Common.{◌≡◌, [], ◌∷◌, sym, ap, ◌∙◌, subst}
use Rattle.bx_core.specs.declared.point.Point.TheVariants.{Look, Request, Withdraw}
use Rattle.bx_shared.specs.Steps.{part_of, looked, missed, withdrawn, IsOwn}
use Rattle.bx_shared.specs.Seats.{IsLost}
use Rattle.bx_shared.specs.declared.route_view.RouteView.{RouteView}
use Rattle.bx_shared.proofs.Losing.{gives_back, passes_on}
use Rattle.bx_shared.proofs.attempt.request_filled.Goals as goal

pub returns-clause-lost : goal.returns-clause-lost
returns-clause-lost g c =
    let p = part_of c.args.seat.now.me in
    let seen = c.look-seen.result in
    let found = c.request-found.result in
    let lost = c.request-found.ensures.missed c.if-found-seen.false in
    let first : part_of c.look-seen.new.seat.me ≡ looked p seen = ap part_of c.look-seen.ensures.looked in
    let then_ : part_of c.request-found.new.seat.me ≡ missed (looked p seen) found =
    ap part_of lost.0 ∙ ap (λ (x : RouteView). missed x found) first in
    let last : part_of c.withdraw.new.seat.me ≡ withdrawn (missed (looked p seen) found) =
    ap part_of c.withdraw.ensures.withdrawn ∙ ap withdrawn then_ in
    subst (λ (q : RouteView). IsLost p q found) (sym last)
    (gives_back p seen found c.look-seen.ensures.own (subst (λ (x : RouteView). IsOwn x found) first lost.1)
    c.if-found-seen.false)

pub returns-then-found-seen-clause-hears : goal.returns-then-found-seen-clause-hears
returns-then-found-seen-clause-hears g c =
    passes_on g.G.Gate.may_have_heard (Look ∷ []) (Request ∷ []) _ _ _ c.pass.ensures.heard c.pass-2.ensures.heard

pub returns-clause-hears_lost : goal.returns-clause-hears_lost
returns-clause-hears_lost g c = let may = g.G.Gate.may_have_heard in
    passes_on may (Look ∷ Request ∷ []) (Withdraw ∷ []) _ _ _
    (passes_on may (Look ∷ []) (Request ∷ []) _ _ _ c.pass.ensures.heard c.pass-2.ensures.heard)
    c.pass-3.ensures.heard
