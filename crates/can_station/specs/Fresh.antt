-- Nodes before their first bit.
use Rattle.std.specs.Prelude.{◌≡◌, ℕ, false, Some, None, List, length, slice_get}
use Rattle.can_node.specs.Histories.{no_past}
use Rattle.can_node.specs.Node.{StandsAfter, bit_of}
use Rattle.can_station.specs.declared.member.Member.{Member}
use Rattle.can_station.specs.Actions.{no_action}

-- it is switched on at this bit, and has done nothing yet
pub record IsFresh (on : ℕ) (member : Member) : Type 0 where
  pub on_is : member.on ≡ on
  pub active : member.is_deferred ≡ false
  pub stands : StandsAfter member.station.node (no_past on)
  pub bit_is : bit_of member.station.node ≡ on
  pub idle : member.station.sending ≡ None
  pub none_sent : member.station.completed ≡ 0
  pub uneventful : member.action ≡ no_action

-- a fresh node for each of these, with the bit at which it is switched on
pub record AreFresh {X : Type 0} (on : X → ℕ) (xs : List X) (members : List Member) : Type 0 where
  pub at : (k : ℕ) (x : X) (member : Member) → slice_get xs k ≡ Some x → slice_get members k ≡ Some member →
      IsFresh (on x) member
  pub size : length members ≡ length xs
