use Rattle.std.proofs.Common.{◌≡◌, ◌++◌}
use Rattle.std.specs.Vec.Iter.{into_iter_items}
use Rattle.gw_ending.proofs.Closes.{ClosesBelow}
use Rattle.gw_ending.specs.Finals.{turns_made, turns_reported}
use Rattle.gw_ending.proofs.closing.end_lanes.Given as goal

abbrev pub invariant-loop-lane : goal.invariant-loop-lane
invariant-loop-lane g l = record {
  closes : ClosesBelow l.script l.initial.sites l.sites (into_iter_items l.lane-iterator) l.reports.items;
  turns : turns_reported l.reports.items ++ turns_made (into_iter_items l.lane-iterator) ≡ turns_made l.fn.lanes.items;
}
