use Rattle.std.proofs.Common.{◌≡◌, ◌+◌, ◌≤◌, ◌++◌, take, vec_len, vec_capacity}
use Rattle.can_station.specs.Tellings.{start_of, events_by}
use Rattle.can_station.proofs.tell.tell_starts.Given as goal

abbrev pub invariant-loop-place : goal.invariant-loop-place
invariant-loop-place l = record {
  value : l.events.items ≡ l.initial.events.items ++ events_by start_of l.bit l.first (take l.place l.members);
  len : vec_len l.events ≤ vec_len l.initial.events + l.place;
  capacity : vec_capacity l.initial.events ≤ vec_capacity l.events;
}
