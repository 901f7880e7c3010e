use Rattle.std.proofs.Common.{◌≡◌, take}
use Rattle.gw_config.specs.Segments.{instances_left}
use Rattle.gw_config.proofs.segment.instances_left.Given as goal

abbrev pub invariant-loop-segment : goal.invariant-loop-segment
invariant-loop-segment l = l.left ≡ instances_left (take l.segment-index l.segments)
