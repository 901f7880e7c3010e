-- What the fields of a `Segment` stand for.
use Rattle.std.specs.Prelude.{string_bytes}
use Rattle.gw_config.specs.Segments.{SegmentValue}
use Rattle.gw_config.specs.declared.segment.Segment.TheInside.{Inside}

abbrev pub segment_view : Inside → SegmentValue
segment_view s = record { name = string_bytes s.name; talkers = s.talkers.items }
