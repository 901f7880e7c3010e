use Rattle.std.proofs.Common.{length, sym, ap, subst, arith}
use Rattle.can_segment.proofs.Shown.{put_back}
use Rattle.gw_site.specs.Pairs.{Pairs}
use Rattle.gw_sides.specs.Sets.{IsNewSet, IsNewSide, OpensSite}
use Rattle.gw_sides.proofs.opening.open_all.Goals as goal

pub returns-clause-opens : goal.returns-clause-opens
returns-clause-opens g c =
    let Set = IsNewSet g.B.TxBus.bus_after g.B.TxBus.bus_asked g.B.TxBus.transmitting g.M.Mailboxes.routes_of
    g.M.Mailboxes.txfp_of in
    let Side = IsNewSide g.M.Mailboxes.side_of g.S.RouteTx.route_after in
    let kept = c.in_ok-sites.ensures.seats in
    let value = ap length c.as_mut_slice.ensures.value in
    let back = put_back c.in_ok-seats.seats.len c.open_sites.new.seats c.in_ok-seats.seats.items
    (omega (arith, c.as_mut_slice.ensures.len, kept, value)) (omega (arith, kept, value)) in
    subst (λ seats. Pairs (λ i said. OpensSite Set Side c.args.script.now seats i) c.args.script.now.segments
    c.in_ok-sites.sites.items) (sym back) c.in_ok-sites.ensures.opens
