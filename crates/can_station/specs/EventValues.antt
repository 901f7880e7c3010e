-- A line of a record, as contracts see it.
use Rattle.std.specs.Prelude.{ℕ}
use Rattle.can_station.specs.declared.event.EventKind.{EventKind}

-- what is reported of the node at this place, at the bit of this number
pub record EventValue : Type 0 where
  pub bit : ℕ
  pub node : ℕ
  pub kind : EventKind
