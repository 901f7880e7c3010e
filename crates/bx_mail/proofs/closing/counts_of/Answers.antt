-- One route more is counted.
use Rattle.std.proofs.Common.{◌≡◌, ◌∙◌, Some, length, get_or, slice_get, refl, sym, ap, subst, arith}
use Rattle.std.specs.Prelude.{slice_index}
use Rattle.std.proofs.lemmas.Option.{slice_get_read}
use Rattle.bx_shared.proofs.Showing.{length-snoc}
use Rattle.bx_shared.specs.declared.closed.RouteCounts.{RouteCounts}
use Rattle.bx_mail.specs.Postings.{requests_in}
use Rattle.bx_mail.specs.Sides.{BusSide, RouteSide, IsKept, AreKept}
use Rattle.bx_mail.proofs.Tallied.{kept_more}
use Rattle.bx_mail.proofs.closing.counts_of.Goals as goal

pub loop-route-preserved : goal.loop-route-preserved
loop-route-preserved c =
    let i = c.loop-route.invariant in
    let items = c.push.ensures.items in
    let counts = c.loop-route.counts.items in
    let route = c.loop-route.route in
    let sides = c.args.sides.now in
    let t = c.args.bus.now.tally in
    let bus = c.bus.inside in
    let side = c.side.inside in
    let s = c.index-sides-route.result in
    let value : RouteCounts = record {
      requested = side.requested;
      aborted = 0;
      done = get_or bus.tally.done route 0;
      reaped = get_or bus.tally.reaped route 0;
    } in
    let one : IsKept t route s value = record {
      requested = c.side.invariant.4 ∙ ap (λ (x : RouteSide). length (requests_in x.sent)) c.side.view_is;
      done = ap (λ (b : BusSide). slice_index b.tally.done route) c.bus.view_is;
      reaped = ap (λ (b : BusSide). slice_index b.tally.reaped route) c.bus.view_is;
    } in
    let here : slice_get sides (length counts) ≡ Some s = ap (slice_get sides) i.0
    ∙ slice_get_read sides (length sides) route s refl c.loop-route-test.true c.index-sides-route.is in (
      (let h = ap length items in let l = length-snoc counts value in let n = i.0 in omega arith),
      subst (AreKept t sides) (sym items) (kept_more t sides counts s value i.1 here
          (subst (λ n. IsKept t n s value) (sym i.0) one)),
    )
