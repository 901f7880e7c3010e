-- No place is empty.
use Rattle.std.proofs.Common.{◌≡◌, ◌≤◌, ◌++◌, ◌∷◌, [], Some, List, Option, length, vec_capacity, arith, refl, subst}
use Rattle.std.proofs.Common.{sym}
use Rattle.std.specs.Vec.Iter.{into_iter_items}
use Rattle.gw_site.specs.Pairs.{Pairs}
use Rattle.gw_site.proofs.Pairs.{pairs_more}
use Rattle.gw_pool.specs.Collecting.{AreFull}
use Rattle.gw_pool.proofs.Dealt.{full_there}
use Rattle.gw_pool.proofs.Joins.{walked}
use Rattle.gw_pool.proofs.collecting.in_order.Goals as goal

pub loop-slot-init : goal.loop-slot-init
loop-slot-init g c = let whole = sym c.into_iter-slot-iterator.ensures.into_iter_gives.0 in (
  refl,
  subst (λ (xs : List (Option g.row.T.Denot)). length xs ≤ vec_capacity c.args.all) whole c.requires.room,
  subst (λ (xs : List (Option g.row.T.Denot)). AreFull xs) whole c.requires.full,
  subst (λ (ys : List g.row.T.Denot). Pairs (λ k (slot : Option g.row.T.Denot) one. slot ≡ Some one) [] ys)
      (sym c.requires.empty) (record { at = λ k x y e f. cc e; size = refl }),
)

pub loop-slot-preserved : goal.loop-slot-preserved
loop-slot-preserved g c =
    let l = c.loop-slot in
    let pushed = c.push_reserved.ensures in (
      walked l.yielded c.in-Some.slot (into_iter_items c.next.new.self) (into_iter_items l.slot-iterator)
          (into_iter_items c.into_iter-slot-iterator.result) l.invariant.0 c.in-Some.ensures.steps.0,
      omega (arith, pushed.capacity, l.invariant.1),
      l.invariant.2,
      subst (Pairs (λ k (slot : Option g.row.T.Denot) one. slot ≡ Some one) (l.yielded ++ c.in-Some.slot ∷ []))
          (sym pushed.items)
          (pairs_more (λ k (slot : Option g.row.T.Denot) one. slot ≡ Some one) l.yielded l.all.items c.in-Some.slot
          c.in-Some-slot.one c.in-Some-slot.is l.invariant.3),
    )

pub unreachable-requires : goal.unreachable-requires
unreachable-requires g c =
    let l = c.loop-slot in
    full_there l.yielded (into_iter_items c.next.new.self) (into_iter_items l.slot-iterator)
    (into_iter_items c.into_iter-slot-iterator.result) c.in-Some.slot l.invariant.0 c.in-Some.ensures.steps.0
    l.invariant.2 c.in-None-slot.is
