use Rattle.can_segment.specs.Segments.{Fit}
use Rattle.bus_tests.proofs.segment.make_all_idle.Given as goal

abbrev pub invariant-loop : goal.invariant-loop
invariant-loop g l = Fit g.P.TxBus.transmitting l.segment l.ports
