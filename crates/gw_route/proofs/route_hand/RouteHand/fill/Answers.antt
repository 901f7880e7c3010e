use Rattle.gw_route.specs.Turn.Filled.{unqueued}
use Rattle.gw_route.proofs.route_hand.RouteHand.fill.Goals as goal

pub returns-in-None-clause-filled : goal.returns-in-None-clause-filled
returns-in-None-clause-filled g c = unqueued c.in-None.is
