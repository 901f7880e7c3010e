-- The counts are those of the seats, in order.
use Rattle.std.proofs.Common.{◌≡◌, ◌∙◌, List, Some, length, slice_get, sym, ap, subst}
use Rattle.bx_shared.specs.Seats.{RoutePlace}
use Rattle.bx_shared.proofs.Adding.{counts-add_up}
use Rattle.bx_shared.proofs.mail.Mail.close.Goals as goal

pub returns-clause-counted : goal.returns-clause-counted
returns-clause-counted c = λ route s x at it. c.in_ok-counts.ensures.counted route s x
    (subst (λ (l : List RoutePlace). slice_get l route ≡ Some s) (sym c.deref.ensures.value) at) it

pub returns-clause-add_up : goal.returns-clause-add_up
returns-clause-add_up c =
    let sides = c.args.routes.items in
    let counts = c.in_ok-counts.counts.items in
    counts-add_up c.args.bus sides counts c.in_ok-left.left.items
    (c.in_ok-counts.ensures.size ∙ ap length c.deref.ensures.value)
    (λ route s x at it. c.in_ok-counts.ensures.counted route s x
    (subst (λ (l : List RoutePlace). slice_get l route ≡ Some s) (sym c.deref.ensures.value) at) it)
    c.in_ok-left.ensures.accounted
