-- Over no turn it is the route that was dealt.
use Rattle.gw_pool.proofs.Turns.{moves-self}
use Rattle.gw_pool.proofs.baton.Baton.new.Goals as goal

pub invariant_of-result : goal.invariant_of-result
invariant_of-result g c = (
  c.args.courier,
  c.requires.known,
  moves-self g.S.RouteTx.route_after g.S.RouteTx.stays c.args.courier.hand
      c.args.courier.side g.met.S.RouteTx.stays_self c.requires.ready,
)
