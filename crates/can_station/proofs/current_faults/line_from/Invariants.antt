use Rattle.std.specs.Prelude.{◌<◌, take}
use Rattle.can_station.specs.CurrentFaults.{SetsLine, last_bit}
use Rattle.can_station.proofs.current_faults.line_from.Given as goal

abbrev pub invariant-loop-fault : goal.invariant-loop-fault
invariant-loop-fault l = SetsLine (take l.fault-index l.faults) l.bit l.until l.level
    × (l.bit < last_bit → l.bit < l.until)
