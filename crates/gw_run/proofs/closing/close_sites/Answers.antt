use Rattle.std.proofs.Common.{◌++◌, ◌∷◌, [], append_assoc, sym, ap, subst, ◌∙◌}
use Rattle.std.specs.Vec.Iter.{into_iter_items}
use Rattle.gw_site.specs.Pairs.{Pairs}
use Rattle.gw_site.proofs.Pairs.{pairs_more}
use Rattle.gw_run.specs.Finals.{ClosesSite}
use Rattle.gw_run.proofs.closing.close_sites.Goals as goal

pub loop-site-preserved : goal.loop-site-preserved
loop-site-preserved c =
    let l = c.loop-site in (
      append_assoc l.yielded (c.in-Some.site ∷ []) (into_iter_items c.next.new.self)
          ∙ ap (λ rest. l.yielded ++ rest) (sym c.in-Some.ensures.steps.0) ∙ l.invariant.0,
      subst (Pairs (λ k. ClosesSite) (l.yielded ++ c.in-Some.site ∷ [])) (sym c.in_ok-push_one.ensures)
          (pairs_more (λ k. ClosesSite) l.yielded l.closed.items c.in-Some.site c.in_ok-close_site.field-0
          c.in_ok-close_site.ensures l.invariant.1),
    )
