use Rattle.can_station.specs.Members.{PortSettled}
use Rattle.can_station.proofs.Places.{AtBothBut}
use Rattle.can_station.specs.DeferredNodes.{IfActiveBoth}
use Rattle.can_station.proofs.members.settle_ports.Given as goal

abbrev pub invariant-loop-place : goal.invariant-loop-place
invariant-loop-place g l =
    AtBothBut
    (λ k. IfActiveBoth (PortSettled g.P.TxBus.bus_after g.P.TxBus.bus_asked g.P.TxBus.transmitting g.P.RxSink.sink_after
    g.P.RxSink.port_stays l.bit)) l.initial.members l.members l.initial.ports l.ports l.left

abbrev pub decreases-loop-place : goal.decreases-loop-place
decreases-loop-place g l = l.left.bits
