use Rattle.std.proofs.Common.{arith}
use Rattle.std.proofs.lemmas.Result.{IfOk-weaker}
use Rattle.gw_threaded.proofs.Closings.{may_close_all, has_closed, few_closed}
use Rattle.gw_threaded.proofs.running.report_on.Goals as goal

pub close_all-requires-clause-may_close : goal.close_all-requires-clause-may_close
close_all-requires-clause-may_close g c =
    may_close_all g.B.TxBus.bus_after g.B.TxBus.transmitting g.S.RouteTx.route_after g.M.Mailboxes.routes_of
    g.M.Mailboxes.txfp_of g.M.Mailboxes.side_of c.args.script.now c.args.ended.0.items c.args.ended.1.items
    c.args.ended.2.items c.requires.run

pub end_run-requires-clause-over : goal.end_run-requires-clause-over
end_run-requires-clause-over g c =
    has_closed g.B.TxBus.bus_after g.B.TxBus.transmitting g.S.RouteTx.route_after g.M.Mailboxes.routes_of
    g.M.Mailboxes.txfp_of g.M.Mailboxes.side_of g.M.Mailboxes.room
    c.args.script.now c.args.ended.1.items c.args.ended.0.items c.args.ended.2.items c.in_ok-closed.closed.items
    c.requires.sound c.in_ok-closed.ensures c.requires.run

pub end_run-requires-clause-few : goal.end_run-requires-clause-few
end_run-requires-clause-few g c place port at =
    let few = few_closed g.B.TxBus.bus_after g.B.TxBus.transmitting g.S.RouteTx.route_after g.M.Mailboxes.routes_of
    g.M.Mailboxes.txfp_of g.M.Mailboxes.side_of g.M.Mailboxes.room
    c.args.script.now c.args.ended.1.items c.args.ended.0.items c.args.ended.2.items c.in_ok-closed.closed.items
    c.in_ok-closed.ensures c.requires.run place port at in
    omega (arith, few, g.met.M.Mailboxes.few_room)

pub returns-clause-routes : goal.returns-clause-routes
returns-clause-routes g c = IfOk-weaker c.end_run.result _ _
    (λ report all. all g.M.Mailboxes.room
    (few_closed g.B.TxBus.bus_after g.B.TxBus.transmitting g.S.RouteTx.route_after g.M.Mailboxes.routes_of
    g.M.Mailboxes.txfp_of g.M.Mailboxes.side_of g.M.Mailboxes.room
    c.args.script.now c.args.ended.1.items c.args.ended.0.items c.args.ended.2.items c.in_ok-closed.closed.items
    c.in_ok-closed.ensures c.requires.run)) c.end_run.ensures.routes
