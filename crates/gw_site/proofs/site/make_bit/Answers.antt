use Rattle.gw_site.proofs.Sites.{site_on, ports_leave}
use Rattle.gw_site.proofs.site.make_bit.Goals as goal

pub returns-in-Ok-clause-holds : goal.returns-in-Ok-clause-holds
returns-in-Ok-clause-holds g c =
    site_on g.P.TxBus.bus_after g.P.TxBus.bus_asked g.P.TxBus.transmitting g.P.RxSink.sink_after g.P.RxSink.port_stays
    c.args.segment.now c.bit.new.self c.args.ports.now c.bit.new.ports c.in-Ok.ensures.ok c.in-Ok.ensures.fit
    c.requires.holds

pub returns-in-Ok-clause-ports : goal.returns-in-Ok-clause-ports
returns-in-Ok-clause-ports g c = ports_leave g.P.TxBus.bus_after g.P.TxBus.bus_asked g.P.TxBus.transmitting
    g.P.RxSink.sink_after g.P.RxSink.port_stays
    c.args.segment.now c.bit.new.self c.args.ports.now c.bit.new.ports c.in-Ok.ensures.ok c.in-Ok.ensures.fit
