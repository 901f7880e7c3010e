use Rattle.std.proofs.Common.{◌≡◌, ◌≤◌, ◌++◌, length, vec_capacity}
use Rattle.std.specs.Vec.Iter.{into_iter_items}
use Rattle.bx_core.specs.Lists.{Each}
use Rattle.gw_site.specs.Pairs.{Pairs}
use Rattle.gw_site.specs.Sites.{IsNewSite}
use Rattle.gw_threads.specs.Clocks.{Deals}
use Rattle.gw_threads.proofs.site_threads.start_sites.Given as goal

abbrev pub invariant-loop-site : goal.invariant-loop-site
invariant-loop-site g l =
    (l.yielded ++ into_iter_items l.site-iterator ≡ into_iter_items l.initial.site-iterator)
    × (length (into_iter_items l.initial.site-iterator) ≤ vec_capacity l.threads)
    × Each (IsNewSite g.P.TxBus.bus_after g.P.TxBus.transmitting g.P.RxSink.sink_after l.pace.bits)
    (into_iter_items l.initial.site-iterator)
    × Deals l.pace (length l.yielded) l.clock
    × (l.pace.segments ≡ length (into_iter_items l.initial.site-iterator))
    × Pairs (λ k site thread. thread.handle.promise.start.value ≡ site) l.yielded l.threads.items
