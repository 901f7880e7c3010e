use Rattle.std.proofs.Common.{◌≡◌, drop}
use Rattle.gw_fields.specs.Names.{is_among}
use Rattle.gw_config.specs.Segments.{all_talker_names}
use Rattle.gw_config.proofs.segment.is_talker.Given as goal

abbrev pub invariant-loop-segment : goal.invariant-loop-segment
invariant-loop-segment l =
    is_among l.name (all_talker_names (drop l.segment-index l.segments)) ≡ is_among l.name (all_talker_names l.segments)
