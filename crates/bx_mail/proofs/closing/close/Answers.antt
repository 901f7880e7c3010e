-- What is counted and what is left is all.
use Rattle.std.proofs.Common.{List, map, sym, subst}
use Rattle.bx_core.specs.TxBus.{Item}
use Rattle.bx_shared.specs.declared.closed.RouteCounts.{RouteCounts}
use Rattle.bx_mail.specs.Postings.{item_left}
use Rattle.bx_mail.specs.Sides.{RouteSide, AreKept, AreFilled}
use Rattle.bx_mail.proofs.Tallied.{are_counted}
use Rattle.bx_mail.proofs.closing.close.Goals as goal

pub returns-clause-counted : goal.returns-clause-counted
returns-clause-counted g c =
    let sides = c.args.sides.items in
    let kept = c.as_slice.result.now in
    let left = c.end-left.result.items in
    let counts = c.fill-routes.result.items in
    let keeps : AreKept c.args.bus.tally sides kept =
    subst (λ (y : List RouteSide × List RouteCounts). AreKept c.args.bus.tally y.0 y.1)
    (λ k. (c.deref.ensures.value k, sym c.as_slice.ensures.value k)) c.counts_of-kept.ensures.kept in
    let fills : AreFilled (map item_left left) kept counts =
    subst (λ (l : List Item). AreFilled (map item_left l) kept counts) c.as_slice-2.ensures.value
    c.fill-routes.ensures.filled in
    are_counted c.args.bus sides (map item_left left) kept counts c.requires.runs c.requires.few
    c.fill-routes.ensures.size c.end-left.ensures keeps fills
