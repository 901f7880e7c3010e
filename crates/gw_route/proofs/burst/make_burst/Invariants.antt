use Rattle.std.proofs.Common.{◌≡◌, ◌+◌, ◌-◌, ◌≤◌, ℕ, List, min}
use Rattle.gw_route.specs.Burst.{MakesTurns}
use Rattle.gw_route.specs.Plans.{FromPlan}
use Rattle.gw_route.specs.RouteHand.{IsLinked, IsTied, LogsReleased, hand_value}
use Rattle.gw_route.specs.declared.route_abort.RouteAbort.{RouteAbort}
use Rattle.gw_route.proofs.burst.make_burst.Given as goal

abbrev pub invariant-loop-turns : goal.invariant-loop-turns
invariant-loop-turns g l = record {
  turns : MakesTurns g.T.RouteTx.route_after l.fn.tx l.tx (hand_value l.fn.hand) (hand_value l.hand)
      (record { turns = l.turns; last = l.last });
  few : l.turns ≤ l.most;
  linked : IsLinked (g.T.RouteTx.route_after l.tx) (hand_value l.hand);
  counted : l.fn.hand.turns ≤ 1000000 → l.hand.turns ≡ min (l.fn.hand.turns + l.turns) 1000000;
  plan : (planned : List RouteAbort) → FromPlan planned (hand_value l.fn.hand) → FromPlan planned (hand_value l.hand);
  log : LogsReleased (hand_value l.fn.hand) → LogsReleased (hand_value l.hand);
  tied : IsTied l.fn.hand l.hand;
  stays : g.T.RouteTx.stays l.fn.tx l.tx;
}

abbrev pub decreases-loop-turns : goal.decreases-loop-turns
decreases-loop-turns g l = l.most - l.turns
