use Rattle.std.proofs.Common.{◌+◌, sym, subst}
use Rattle.gw_config.specs.Nodes.{controller_places}
use Rattle.gw_site.proofs.Pairs.{PairsBelow}
use Rattle.gw_sides.specs.Sets.{IsNewSet, IsNewSide, OpensPort}
use Rattle.gw_sides.proofs.Opens.{ports_more, below-more, below-all}
use Rattle.gw_sides.proofs.opening.open_ports.Goals as goal

pub loop-nth-preserved : goal.loop-nth-preserved
loop-nth-preserved g c =
    let l = c.loop-nth in
    let s = c.args.script.now in
    let there = c.controller_there-controller.ensures.place in
    let made = c.in_ok-port.ensures in
    let Set = IsNewSet g.B.TxBus.bus_after g.B.TxBus.bus_asked g.B.TxBus.transmitting g.M.Mailboxes.routes_of
    g.M.Mailboxes.txfp_of in
    let Side = IsNewSide g.M.Mailboxes.side_of g.S.RouteTx.route_after in (
      subst (λ ports. PairsBelow (λ k. OpensPort Set Side s c.open_port.new.seats)
          (controller_places s c.args.segment) ports (l.nth + 1)) (sym c.in_ok-push_one.ensures)
          (ports_more Set Side s c.args.segment l.nth c.controller_there-controller.result l.ports.items
          c.in_ok-port.port l.seats c.open_port.new.seats there made.leaves made.opens l.invariant.0),
      below-more s c.args.segment l.nth c.controller_there-controller.result c.args.seats.now l.seats
          c.open_port.new.seats there made.leaves l.invariant.1,
    )

pub returns-clause-leaves : goal.returns-clause-leaves
returns-clause-leaves g c =
    below-all c.args.script.now c.args.segment c.loop-nth.nth c.args.seats.now c.loop-nth.seats c.loop-nth.invariant.1
