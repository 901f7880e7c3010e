-- What the fields of an `Event` stand for.
use Rattle.std.specs.Prelude.{◌≡◌}
use Rattle.can_station.specs.declared.event.Event.TheInside.{Inside}
use Rattle.can_station.specs.EventValues.{EventValue}
use Rattle.can_station.specs.EventKinds.{parts_in, kind_of_parts}

abbrev pub event_view : Inside → EventValue
event_view a = record {
  bit = a.bit;
  node = a.node;
  kind = kind_of_parts a.tag a.start a.frame (record { route = a.route; number = a.number });
}

abbrev pub event_parts : EventValue → Inside
event_parts e = let parts = parts_in e.kind in record {
  bit = e.bit;
  start = parts.1;
  frame = parts.2;
  number = parts.3.number;
  node = e.node;
  route = parts.3.route;
  tag = parts.0;
}

-- parts that nothing is reported by are 0
abbrev pub IsEvent : Inside → Type 0
IsEvent a = event_parts (event_view a) ≡ a
