use Rattle.std.proofs.Common.{◌≡◌, ◌++◌}
use Rattle.std.specs.Vec.Iter.{into_iter_items}
use Rattle.gw_ending.specs.Finals.{IsRecordAt}
use Rattle.gw_site.specs.Pairs.{Pairs}
use Rattle.gw_ending.proofs.closing.records_of.Given as goal

abbrev pub invariant-loop-site : goal.invariant-loop-site
invariant-loop-site l = (l.yielded ++ into_iter_items l.site-iterator ≡ into_iter_items l.initial.site-iterator)
    × Pairs (λ i. IsRecordAt) l.yielded l.records.items
