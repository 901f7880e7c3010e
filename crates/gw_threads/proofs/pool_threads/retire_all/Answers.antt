-- Each seat comes back with its part.
use Rattle.std.proofs.Common.{◌∷◌, [], length, length-append, sym, subst, ◌∙◌}
use Rattle.std.specs.Vec.Iter.{into_iter_items}
use Rattle.gw_pool.specs.Pool.{IsWorkerSeat}
use Rattle.gw_pool.proofs.Joins.{walked, each_walked}
use Rattle.gw_threads.specs.Retired.{AreRetired}
use Rattle.gw_threads.proofs.Retiring.{one_retired}
use Rattle.gw_threads.proofs.pool_threads.retire_all.Goals as goal

pub loop-seat-preserved : goal.loop-seat-preserved
loop-seat-preserved g c =
    let l = c.loop-seat in
    let whole = into_iter_items c.into_iter-seat-iterator.result in
    let start = c.args.pool.now in
    let seat = each_walked (IsWorkerSeat start.queue) l.yielded c.in-Some.seat (into_iter_items c.next.new.self)
    (into_iter_items l.seat-iterator) whole l.invariant.0 c.in-Some.ensures.steps.0 l.invariant.1 in (
      walked l.yielded c.in-Some.seat (into_iter_items c.next.new.self)
          (into_iter_items l.seat-iterator) whole l.invariant.0 c.in-Some.ensures.steps.0,
      l.invariant.1,
      l.invariant.2,
      c.retire.ensures.queue ∙ l.invariant.3,
      subst (λ n. AreRetired n start.account c.retire.new.self.account)
          (sym (length-append l.yielded (c.in-Some.seat ∷ [])))
          (one_retired (length l.yielded) start.account l.pool.account c.retire.new.self.account c.in-Some.seat.account
          c.retire.ensures.both seat.part seat.even l.invariant.4),
    )
