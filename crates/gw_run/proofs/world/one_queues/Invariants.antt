use Rattle.std.proofs.Common.{◌≡◌, ◌<◌, ℕ, Some, None, slice_get}
use Rattle.gw_opening.specs.declared.lane.Lane.{Lane}
use Rattle.gw_run.proofs.world.one_queues.Given as goal

abbrev pub invariant-loop-lane : goal.invariant-loop-lane
invariant-loop-lane l = (k : ℕ) (lane : Lane) → k < l.lane-index → slice_get l.lanes k ≡ Some lane →
    lane.hand.queue ≡ None
