-- One turn more: it is still the route that was dealt.
use Rattle.gw_pool.proofs.Turns.{moves-on}
use Rattle.gw_pool.proofs.baton.Baton.turn.Goals as goal

pub invariant_of-self : goal.invariant_of-self
invariant_of-self g c = let was = c.self.invariant in (
  was.0,
  was.1,
  moves-on g.S.RouteTx.route_after g.S.RouteTx.stays was.0.hand c.self.inside.courier.hand c.make_turn.new.hand
      was.0.side c.self.inside.courier.side c.make_turn.new.side g.met.S.RouteTx.stays_on was.2 c.make_turn.ensures.moves,
)
