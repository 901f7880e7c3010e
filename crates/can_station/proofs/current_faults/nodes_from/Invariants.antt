use Rattle.std.specs.Prelude.{◌<◌, ◌≤◌, take, vec_capacity, vec_len}
use Rattle.can_station.specs.CurrentFaults.{last_bit}
use Rattle.can_station.proofs.FaultRanges.{Inverts}
use Rattle.can_station.proofs.current_faults.nodes_from.Given as goal

abbrev pub invariant-loop-fault : goal.invariant-loop-fault
invariant-loop-fault l = record {
  inverts : Inverts (take l.fault-index l.faults) l.bit l.until l.here.items;
  later : l.bit < last_bit → l.bit < l.until;
  fits : vec_len l.here ≤ l.fault-index;
  room : vec_capacity l.initial.here ≤ vec_capacity l.here;
}
