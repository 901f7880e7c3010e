use Rattle.std.proofs.Common.{◌≡◌, ◌+◌, ◌*◌, ◌≤◌, ◌++◌, take, vec_len, vec_capacity}
use Rattle.can_station.specs.Tellings.{rest_by, events_by}
use Rattle.can_station.proofs.tell.tell_rests.Given as goal

abbrev pub invariant-loop-place : goal.invariant-loop-place
invariant-loop-place l = record {
  value : l.events.items ≡ l.initial.events.items ++ events_by rest_by l.bit l.first (take l.place l.members);
  len : vec_len l.events ≤ vec_len l.initial.events + 2 * l.place;
  capacity : vec_capacity l.initial.events ≤ vec_capacity l.events;
}
