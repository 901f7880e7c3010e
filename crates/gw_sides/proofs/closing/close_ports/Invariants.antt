use Rattle.std.proofs.Common.{◌≡◌, ◌++◌, length}
use Rattle.std.specs.Vec.Iter.{into_iter_items}
use Rattle.gw_site.specs.Pairs.{Pairs}
use Rattle.gw_sides.specs.Sets.{ClosesNth}
use Rattle.gw_sides.proofs.Opens.{LeavesBelow}
use Rattle.gw_sides.proofs.Closes.{SameFrom}
use Rattle.gw_sides.proofs.closing.close_ports.Given as goal

abbrev pub invariant-loop-port : goal.invariant-loop-port
invariant-loop-port g l =
    (l.yielded ++ into_iter_items l.port-iterator ≡ into_iter_items l.initial.port-iterator)
    × (l.nth ≡ length l.yielded)
    × Pairs (ClosesNth g.B.TxBus.bus_after g.S.RouteTx.route_after g.M.Mailboxes.txfp_of g.M.Mailboxes.room l.script
    l.initial.seats l.segment) l.yielded l.closed.items
    × LeavesBelow l.script l.segment l.nth l.initial.seats l.seats
    × SameFrom l.script l.segment l.nth l.initial.seats l.seats
