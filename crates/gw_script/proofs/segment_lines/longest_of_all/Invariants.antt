use Rattle.std.proofs.Common.{◌≤◌, All, take}
use Rattle.gw_script.specs.declared.segment_lines.SegmentLines.{SegmentLines}
use Rattle.gw_script.proofs.segment_lines.longest_of_all.Given as goal

abbrev pub invariant-loop-lines : goal.invariant-loop-lines
invariant-loop-lines l = All (λ (lines : SegmentLines). lines.events.longest ≤ l.longest) (take l.lines-index l.all)
