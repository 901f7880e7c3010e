use Rattle.std.proofs.Common.{◌≡◌, ◌-◌, length, Some}
use Rattle.gw_route.specs.RouteHand.{HandValue, HasPast, IsTied, hand_value}
use Rattle.gw_route.specs.Turn.{FillKeeps, Filled}
use Rattle.gw_route.proofs.route_hand.RouteHand.fill_up.Given as goal

abbrev pub invariant-loop-self : goal.invariant-loop-self
invariant-loop-self g l = record {
  past : HasPast (hand_value l.self);
  keeps : FillKeeps (hand_value l.initial.self) (hand_value l.self);
  on : (filled : HandValue) → Filled (hand_value l.self) filled → Filled (hand_value l.initial.self) filled;
  tied : IsTied l.initial.self l.self;
  size : l.self.queue ≡ Some l.size;
}

abbrev pub decreases-loop-self : goal.decreases-loop-self
decreases-loop-self g l = l.size - length (hand_value l.self).in_hand
