use Rattle.std.proofs.Common.{sym, subst}
use Rattle.std.specs.Prelude.{IfOk}
use Rattle.gw_config.specs.Nodes.{controller_places}
use Rattle.gw_site.specs.Pairs.{Pairs}
use Rattle.gw_sides.specs.Sets.{MayClose, ClosesSite}
use Rattle.gw_sides.proofs.closing.close_all.Goals as goal

pub close_sites-requires-clause-may_close : goal.close_sites-requires-clause-may_close
close_sites-requires-clause-may_close g c = λ i site e.
    subst (λ seats. Pairs (λ k. MayClose g.M.Mailboxes.routes_of g.M.Mailboxes.side_of c.args.script.now seats)
    (controller_places c.args.script.now i) site.ports.items) (sym c.as_mut_slice.ensures.value)
    (c.requires.may_close i site e)

pub returns : goal.returns
returns g c =
    subst
    (λ seats. IfOk c.close_sites.result
    (λ closed. Pairs (ClosesSite g.B.TxBus.bus_after g.S.RouteTx.route_after g.M.Mailboxes.txfp_of
    g.M.Mailboxes.room c.args.script.now seats) c.args.sites.items closed.items))
    c.as_mut_slice.ensures.value c.close_sites.ensures
