use Rattle.std.proofs.Common.{◌≡◌, ◌++◌}
use Rattle.std.specs.Vec.Iter.{into_iter_items}
use Rattle.gw_site.specs.Pairs.{Pairs}
use Rattle.gw_run.specs.Finals.{ClosesPort}
use Rattle.gw_run.proofs.closing.close_ports.Given as goal

abbrev pub invariant-loop-port : goal.invariant-loop-port
invariant-loop-port l = (l.yielded ++ into_iter_items l.port-iterator ≡ into_iter_items l.initial.port-iterator)
    × Pairs (λ k. ClosesPort) l.yielded l.closed.items
