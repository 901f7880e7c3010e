use Rattle.std.proofs.Common.{◌++◌, take, drop}
use Rattle.can_frame.specs.Reading.{StandsAfter}
use Rattle.can_frame.proofs.reader.Reader.read_anew.Given as goal

abbrev pub invariant-loop-level : goal.invariant-loop-level
invariant-loop-level l =
    StandsAfter l.self ((take l.begun l.text ++ take l.read (drop l.begun l.text)) ++ take l.level-index l.level-items)
