-- One route more is counted.
use Rattle.std.proofs.Common.{◌≡◌, ◌∙◌, ◌-◌, Some, map, length, get_or, slice_get, sym, ap, subst, arith}
use Rattle.std.proofs.lemmas.Option.{slice_get-get_or}
use Rattle.bx_shared.proofs.Showing.{length-snoc}
use Rattle.bx_shared.specs.declared.closed.RouteCounts.{RouteCounts}
use Rattle.bx_mail.specs.Postings.{item_left}
use Rattle.bx_mail.specs.Sides.{IsFilled, AreFilled}
use Rattle.bx_mail.proofs.Tallied.{filled_more, count_left}
use Rattle.bx_mail.proofs.closing.fill.Goals as goal

pub loop-route-preserved : goal.loop-route-preserved
loop-route-preserved c =
    let i = c.loop-route.invariant in
    let items = c.push.ensures.items in
    let counts = c.loop-route.counts.items in
    let route = c.loop-route.route in
    let kept = c.args.kept.now in
    let left = map item_left c.args.left.now in
    let value = c.with_aborted.result in
    let e = c.with_aborted.ensures in
    let none : RouteCounts = record { requested = 0; aborted = 0; done = 0; reaped = 0 } in
    let a : RouteCounts = get_or kept route none in
    let one : IsFilled route left a value = record {
      requested = e.requested;
      done = e.done;
      reaped = e.reaped;
      aborted = e.aborted ∙ ap (λ n. a.requested - a.done - a.reaped - n)
          (c.waits.ensures ∙ count_left route c.args.left.now);
    } in
    let here : slice_get kept (length counts) ≡ Some a = ap (slice_get kept) i.0
    ∙ slice_get-get_or kept route none c.loop-route-test.true in (
      (let h = ap length items in let l = length-snoc counts value in let n = i.0 in omega arith),
      subst (AreFilled left kept) (sym items) (filled_more left kept counts a value i.1 here
          (subst (λ n. IsFilled n left a value) (sym i.0) one)),
    )
