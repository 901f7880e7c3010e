-- The threads that were joined are those in front.
use Rattle.std.proofs.Common.{◌≡◌, ◌++◌, ◌∷◌, [], ap, arith, length, Ok, subst, sym, length-append}
use Rattle.std.specs.Vec.Iter.{into_iter_items}
use Rattle.gw_site.specs.Pairs.{Pairs}
use Rattle.gw_site.proofs.Pairs.{pairs_more}
use Rattle.gw_pool.proofs.Joins.{walked}
use Rattle.gw_threads.proofs.joining.join_all.Goals as goal

pub loop-thread-preserved-in-Ok : goal.loop-thread-preserved-in-Ok
loop-thread-preserved-in-Ok g c =
    let l = c.loop-thread in
    let was = l.invariant.1 in
    let pushed = c.push_reserved.ensures in (
      omega (arith, pushed.capacity, l.invariant.0),
      (
        was.0 ++ c.in-Some.thread ∷ [],
        walked was.0 c.in-Some.thread (into_iter_items c.next.new.self) (into_iter_items l.left)
            (into_iter_items c.into_iter-left.result) was.1 c.in-Some.ensures.cases.0,
        omega (
          arith,
          ap length pushed.items,
          length-append l.made.items (c.in-Ok.one ∷ []),
          was.2,
          length-append was.0 (c.in-Some.thread ∷ []),
        ),
        (λ fine. subst (Pairs (λ k thread one. g.P.Promise.kept_by thread.handle.promise (Ok one))
            (was.0 ++ c.in-Some.thread ∷ [])) (sym pushed.items)
            (pairs_more (λ k thread one. g.P.Promise.kept_by thread.handle.promise (Ok one)) was.0 l.made.items
            c.in-Some.thread c.in-Ok.one c.in-Ok.ensures (was.3 fine))),
      ),
    )

pub loop-thread-preserved : goal.loop-thread-preserved
loop-thread-preserved g c =
    let l = c.loop-thread in
    let was = l.invariant.1 in (
      l.invariant.0,
      (
        was.0 ++ c.in-Some.thread ∷ [],
        walked was.0 c.in-Some.thread (into_iter_items c.next.new.self) (into_iter_items l.left)
            (into_iter_items c.into_iter-left.result) was.1 c.in-Some.ensures.cases.0,
        omega (arith, was.2, length-append was.0 (c.in-Some.thread ∷ [])),
        (λ e. absurd (cc e)),
      ),
    )
