use Rattle.std.specs.Prelude.{◌≡◌, ◌≤◌, ◌-◌, length}
use Rattle.gw_site.specs.Sites.{SiteHolds, PortsLeave}
use Rattle.gw_threads.specs.Clocks.{TicksAt, MayGo}
use Rattle.gw_threads.proofs.site_run.make_all_bits.Given as goal

abbrev pub invariant-loop-made : goal.invariant-loop-made
invariant-loop-made g l =
    SiteHolds g.P.TxBus.bus_after g.P.TxBus.transmitting g.P.RxSink.sink_after l.segment l.ports
    × (l.segment.plan ≡ l.initial.segment.plan)
    × (length l.segment.levels ≡ l.made)
    × PortsLeave g.P.RxSink.port_stays l.initial.ports l.ports
    × TicksAt l.pace l.made l.clock
    × MayGo l.limit l.clock
    × (l.made ≤ l.pace.bits)

abbrev pub decreases-loop-made : goal.decreases-loop-made
decreases-loop-made g l = l.pace.bits - l.made
