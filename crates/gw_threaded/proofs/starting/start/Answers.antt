use Rattle.std.proofs.Common.{length, sym, ap, subst, arith}
use Rattle.can_segment.proofs.Shown.{put_back}
use Rattle.gw_opening.specs.Openings.{AreNewSites, SameMails}
use Rattle.gw_sides.specs.Sets.{IsNewSet, IsNewSide}
use Rattle.gw_threaded.proofs.Begins.{opened_sites, starts}
use Rattle.gw_threaded.specs.Runs.{Starts}
use Rattle.gw_threaded.proofs.starting.start.Goals as goal

pub lanes_of-requires-clause-sites : goal.lanes_of-requires-clause-sites
lanes_of-requires-clause-sites g c =
    subst (AreNewSites c.args.script.now) (sym c.as_mut_slice.ensures.value)
    (opened_sites (IsNewSet g.B.TxBus.bus_after g.B.TxBus.bus_asked g.B.TxBus.transmitting g.M.Mailboxes.routes_of
    g.M.Mailboxes.txfp_of) (IsNewSide g.M.Mailboxes.side_of g.S.RouteTx.route_after) c.args.script.now _ _
    c.in-Ok.ensures.opens)

pub returns : goal.returns
returns g c =
    let Set = IsNewSet g.B.TxBus.bus_after g.B.TxBus.bus_asked g.B.TxBus.transmitting g.M.Mailboxes.routes_of
    g.M.Mailboxes.txfp_of in
    let Side = IsNewSide g.M.Mailboxes.side_of g.S.RouteTx.route_after in
    let s = c.args.script.now in
    let first = c.in-Ok.made.0.items in
    let opens = c.in-Ok-lanes_of.ensures.opens in
    let same = subst (λ sites. SameMails sites c.lanes_of.new.sites) c.as_mut_slice.ensures.value
    c.in-Ok-lanes_of.ensures.mails in
    let value = ap length c.as_mut_slice.ensures.value in
    let size = opens.each_site.size in
    let was = c.in-Ok.ensures.opens.size in
    let back = put_back c.in-Ok.made.0.len c.lanes_of.new.sites first
    (omega (arith, c.as_mut_slice.ensures.len, size, was, value)) (omega (arith, size, was)) in
    subst (λ sites. Starts Set Side s sites c.in-Ok.made.1.items c.in-Ok-lanes_of.lanes.items) (sym back)
    (starts Set Side s c.in-Ok.made.1.items first c.lanes_of.new.sites c.in-Ok-lanes_of.lanes.items
    c.in-Ok.ensures.seats c.in-Ok.ensures.opens same opens)
