use Rattle.gw_config.specs.Nodes.{controller_places}
use Rattle.gw_site.proofs.Pairs.{PairsBelow}
use Rattle.gw_sides.specs.Sets.{IsNewSet, IsNewSide, OpensPort}
use Rattle.gw_sides.proofs.Opens.{LeavesBelow}
use Rattle.gw_sides.proofs.opening.open_ports.Given as goal

abbrev pub invariant-loop-nth : goal.invariant-loop-nth
invariant-loop-nth g l =
    PairsBelow
    (λ k. OpensPort (IsNewSet g.B.TxBus.bus_after g.B.TxBus.bus_asked g.B.TxBus.transmitting g.M.Mailboxes.routes_of
    g.M.Mailboxes.txfp_of) (IsNewSide g.M.Mailboxes.side_of g.S.RouteTx.route_after) l.script l.seats)
    (controller_places l.script l.segment) l.ports.items l.nth
    × LeavesBelow l.script l.segment l.nth l.initial.seats l.seats
