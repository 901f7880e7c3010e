use Rattle.std.proofs.Common.{◌≡◌, ◌<◌, ℕ, Some, slice_get}
use Rattle.gw_opening.specs.declared.lane.Lane.{Lane}
use Rattle.gw_route.specs.RouteHand.{hand_value}
use Rattle.gw_route.specs.Turn.{WaitsForFrame}
use Rattle.gw_run.proofs.stretch.all_wait.Given as goal

abbrev pub invariant-loop-lane : goal.invariant-loop-lane
invariant-loop-lane l = (k : ℕ) (lane : Lane) → k < l.lane-index → slice_get l.lanes k ≡ Some lane →
    WaitsForFrame (hand_value lane.hand)
