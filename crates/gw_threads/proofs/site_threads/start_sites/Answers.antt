use Rattle.std.proofs.Common.{◌≡◌, ◌++◌, ◌∷◌, [], arith, length, length-append, subst, sym}
use Rattle.std.specs.Vec.Iter.{into_iter_items}
use Rattle.gw_site.specs.Pairs.{Pairs}
use Rattle.gw_site.specs.Sites.{IsNewSite}
use Rattle.gw_site.proofs.Pairs.{pairs_more}
use Rattle.gw_threads.specs.Clocks.{Deals}
use Rattle.gw_pool.proofs.Joins.{walked, each_walked}
use Rattle.gw_threads.proofs.Seats.{dealt_rest}
use Rattle.gw_threads.proofs.site_threads.start_sites.Goals as goal

pub start_site-requires-clause-new : goal.start_site-requires-clause-new
start_site-requires-clause-new g c κs within =
    let l = c.loop-site in
    each_walked (IsNewSite g.P.TxBus.bus_after g.P.TxBus.transmitting g.P.RxSink.sink_after c.args.pace.bits) l.yielded
    c.in-Some.site (into_iter_items c.next.new.self) (into_iter_items l.site-iterator)
    (into_iter_items c.into_iter-site-iterator.result) l.invariant.0 c.in-Some.ensures.steps.0 l.invariant.2

pub loop-site-preserved : goal.loop-site-preserved
loop-site-preserved g c =
    let l = c.loop-site in
    let all = into_iter_items c.into_iter-site-iterator.result in
    let pushed = c.push_reserved.ensures in (
      walked l.yielded c.in-Some.site (into_iter_items c.next.new.self)
          (into_iter_items l.site-iterator) all l.invariant.0 c.in-Some.ensures.steps.0,
      omega (arith, pushed.capacity, l.invariant.1),
      l.invariant.2,
      subst (λ n. Deals c.args.pace n c.deal.new.self)
          (sym (length-append l.yielded (c.in-Some.site ∷ [])))
          (dealt_rest c.args.pace (length l.yielded) l.clock c.deal.new.self c.in_ok-seat.ensures.same
          c.in_ok-seat.ensures.rest l.invariant.3),
      l.invariant.4,
      subst (Pairs (λ k site thread. thread.handle.promise.start.value ≡ site) (l.yielded ++ c.in-Some.site ∷ []))
          (sym pushed.items)
          (pairs_more (λ k site thread. thread.handle.promise.start.value ≡ site) l.yielded l.threads.items
          c.in-Some.site c.in_ok-start_site.field-0 c.in_ok-start_site.ensures.started l.invariant.5),
    )
