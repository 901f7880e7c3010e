use Rattle.std.proofs.Common.{◌≡◌, length}
use Rattle.gw_site.proofs.Pairs.{PairsBelow}
use Rattle.gw_sides.specs.Sets.{IsNewSet, IsNewSide, OpensSite}
use Rattle.gw_sides.proofs.opening.open_sites.Given as goal

abbrev pub invariant-loop-segment : goal.invariant-loop-segment
invariant-loop-segment g l =
    PairsBelow
    (λ i said. OpensSite (IsNewSet g.B.TxBus.bus_after g.B.TxBus.bus_asked g.B.TxBus.transmitting
    g.M.Mailboxes.routes_of g.M.Mailboxes.txfp_of) (IsNewSide g.M.Mailboxes.side_of g.S.RouteTx.route_after)
    l.script l.seats i)
    l.script.segments l.sites.items l.segment
    × (length l.seats ≡ length l.initial.seats)
