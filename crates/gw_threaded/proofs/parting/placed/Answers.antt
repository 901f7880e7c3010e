use Rattle.std.proofs.Common.{◌++◌, ◌∷◌, [], Some, append_assoc, sym, ap, ◌∙◌}
use Rattle.std.specs.Vec.Iter.{into_iter_items}
use Rattle.gw_threaded.proofs.Walks.{map_pushed}
use Rattle.gw_threaded.proofs.parting.placed.Goals as goal

pub loop-one-preserved : goal.loop-one-preserved
loop-one-preserved g c =
    let l = c.loop-one in (
      append_assoc l.yielded (c.in-Some.one ∷ []) (into_iter_items c.next.new.self)
          ∙ ap (λ rest. l.yielded ++ rest) (sym c.in-Some.ensures.steps.0) ∙ l.invariant.0,
      c.in_ok-push_one.ensures ∙ map_pushed Some l.yielded c.in-Some.one l.slots.items l.invariant.1,
    )
