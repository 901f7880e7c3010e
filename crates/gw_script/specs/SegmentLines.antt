-- What is needed to write what is reported of the segments of a report.
use Rattle.std.specs.Prelude.{◌≡◌, ℕ, List, Some, length, slice_get}
use Rattle.can_segment.specs.declared.record.Record.{Record}
use Rattle.gw_config.specs.Scripts.{ScriptValue}
use Rattle.gw_script.specs.declared.segment_lines.SegmentLines.{SegmentLines}
use Rattle.gw_script.specs.LineParts.{AreLines}
use Rattle.gw_script.specs.ReportTexts.{segment_end}

-- that of the segment at this place, of which this is kept
pub record IsReady (s : ScriptValue) (segment : ℕ) (of : Record) (lines : SegmentLines) : Type 0 where
  pub events_are : AreLines s segment lines.events
  pub end_is : lines.end.items ≡ segment_end s segment of.counters.items

-- that of all of them, in their order
pub record AreReady (s : ScriptValue) (records : List Record) (all : List SegmentLines) : Type 0 where
  pub count : length all ≡ length records
  pub each : (segment : ℕ) (of : Record) (lines : SegmentLines) → slice_get records segment ≡ Some of →
      slice_get all segment ≡ Some lines → IsReady s segment of lines
