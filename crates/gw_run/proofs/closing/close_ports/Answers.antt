use Rattle.std.proofs.Common.{◌++◌, ◌∷◌, [], append_assoc, sym, ap, subst, ◌∙◌}
use Rattle.std.specs.Vec.Iter.{into_iter_items}
use Rattle.gw_site.specs.Pairs.{Pairs}
use Rattle.gw_site.proofs.Pairs.{pairs_more}
use Rattle.gw_run.specs.Finals.{ClosesPort}
use Rattle.gw_run.proofs.closing.close_ports.Goals as goal

pub loop-port-preserved : goal.loop-port-preserved
loop-port-preserved c =
    let l = c.loop-port in (
      append_assoc l.yielded (c.in-Some.port ∷ []) (into_iter_items c.next.new.self)
          ∙ ap (λ rest. l.yielded ++ rest) (sym c.in-Some.ensures.steps.0) ∙ l.invariant.0,
      subst (Pairs (λ k. ClosesPort) (l.yielded ++ c.in-Some.port ∷ [])) (sym c.in_ok-push_one.ensures)
          (pairs_more (λ k. ClosesPort) l.yielded l.closed.items c.in-Some.port c.in_ok-close_port.field-0
          c.in_ok-close_port.ensures l.invariant.1),
    )
