-- Each baton has the place at which its route was dealt.
use Rattle.std.proofs.Common.{◌∷◌, [], arith, length-append, ◌∙◌}
use Rattle.std.specs.Vec.Iter.{into_iter_items}
use Rattle.gw_pool.proofs.Dealt.{one_place}
use Rattle.gw_pool.proofs.Joins.{each_walked, walked}
use Rattle.gw_pool.specs.Couriers.{IsReadyCourier}
use Rattle.gw_pool.proofs.dealing.deal_all.Goals as goal

pub loop-courier-preserved : goal.loop-courier-preserved
loop-courier-preserved g c =
    let l = c.loop-courier in
    let start = c.args.seat.now.account in (
      walked l.yielded c.in-Some.courier (into_iter_items c.next.new.self) (into_iter_items l.courier-iterator)
          (into_iter_items c.into_iter-courier-iterator.result) l.invariant.0 c.in-Some.ensures.steps.0,
      l.invariant.1,
      l.invariant.2,
      l.invariant.3,
      omega (arith, l.invariant.4, length-append l.yielded (c.in-Some.courier ∷ [])),
      l.invariant.5,
      c.put.ensures.queue ∙ l.invariant.6,
      one_place start l.seat.account c.put.new.self.account start.put l.place c.new.result.place c.new.ensures.place
          l.invariant.7
          c.put.ensures.put,
    )

pub new-requires-clause-ready : goal.new-requires-clause-ready
new-requires-clause-ready g c =
    let l = c.loop-courier in
    each_walked (IsReadyCourier g.S.RouteTx.route_after) l.yielded c.in-Some.courier (into_iter_items c.next.new.self)
    (into_iter_items l.courier-iterator) (into_iter_items c.into_iter-courier-iterator.result) l.invariant.0
    c.in-Some.ensures.steps.0 l.invariant.2
