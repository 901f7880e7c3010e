use Rattle.std.proofs.Common.{◌≡◌, ◌++◌}
use Rattle.std.specs.Vec.Iter.{into_iter_items}
use Rattle.gw_site.specs.Pairs.{Pairs}
use Rattle.gw_run.specs.Finals.{ClosesSite}
use Rattle.gw_run.proofs.closing.close_sites.Given as goal

abbrev pub invariant-loop-site : goal.invariant-loop-site
invariant-loop-site l = (l.yielded ++ into_iter_items l.site-iterator ≡ into_iter_items l.initial.site-iterator)
    × Pairs (λ k. ClosesSite) l.yielded l.closed.items
