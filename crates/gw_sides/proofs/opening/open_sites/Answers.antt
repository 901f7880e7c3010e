use Rattle.std.proofs.Common.{◌+◌, length, sym, ap, subst, arith, ◌∙◌}
use Rattle.can_station.proofs.Places.{some_there}
use Rattle.gw_config.specs.Nodes.{controller_places}
use Rattle.gw_site.proofs.Pairs.{PairsBelow}
use Rattle.gw_site.specs.Pairs.{Pairs}
use Rattle.gw_sides.specs.Sets.{IsNewSet, IsNewSide, OpensPort, OpensSite}
use Rattle.gw_sides.proofs.Opens.{sites_more}
use Rattle.gw_sides.proofs.opening.open_sites.Goals as goal

pub loop-segment-preserved : goal.loop-segment-preserved
loop-segment-preserved g c =
    let l = c.loop-segment in
    let s = c.args.script.now in
    let said = some_there s.segments l.segment
    (omega (arith, c.loop-segment-test.true, ap length c.segments-segment-end.ensures)) in
    let Set = IsNewSet g.B.TxBus.bus_after g.B.TxBus.bus_asked g.B.TxBus.transmitting g.M.Mailboxes.routes_of
    g.M.Mailboxes.txfp_of in
    let Side = IsNewSide g.M.Mailboxes.side_of g.S.RouteTx.route_after in
    let made = c.in_ok-site.ensures in
    let ports = subst (λ ports. Pairs (λ k. OpensPort Set Side s c.open_ports.new.seats)
    (controller_places s l.segment) ports.items) (sym made.ports) c.in_ok-ports.ensures.opens in (
      subst (λ sites. PairsBelow (λ i said. OpensSite Set Side s c.open_ports.new.seats i) s.segments sites
          (l.segment + 1)) (sym c.in_ok-push_one.ensures)
          (sites_more Set Side s l.segment said.0 l.sites.items c.in_ok-site.site l.seats c.open_ports.new.seats said.1
          c.in_ok-ports.ensures.leaves (record { plan_is = made.plan; opens = made.opens; ports = ports })
          l.invariant.0),
      c.in_ok-ports.ensures.leaves.size ∙ l.invariant.1,
    )
