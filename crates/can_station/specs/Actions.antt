-- What a node did at a bit.
use Rattle.std.specs.Prelude.{◌≡◌, ◌⊎◌, ℕ, ◌≤◌, false, Option, Some, None, List, slice_get, if◌then◌else◌}
use Rattle.can_node.specs.declared.outcome.Outcome.TheVariants.{Nothing}
use Rattle.can_station.specs.declared.action.Action.{Action}
use Rattle.can_station.specs.declared.member.Member.{Member}
use Rattle.can_station.specs.declared.transmission.Transmission.{Transmission}

-- what a node has done that was never on
abbrev pub no_action : Action
no_action = record { began = false; sent = None; outcome = Nothing; reaped = None }

-- what a node began at the bit of this action
abbrev pub begun_by : Action → Option Transmission
begun_by action = if action.began then action.sent else None

-- nothing is reported of this action
pub record IsUneventful (action : Action) : Type 0 where
  pub no_start : action.began ≡ false
  pub no_end : action.outcome ≡ Nothing
  pub no_reaping : action.reaped ≡ None

-- nothing is reported of those of these nodes that are on at this bit
abbrev pub AreUneventful : ℕ → List Member → Type 0
AreUneventful bit members = (k : ℕ) (member : Member) → slice_get members k ≡ Some member → member.on ≤ bit →
    IsUneventful member.action

-- a action names what its node sent, unless nothing is reported of it
abbrev pub Names : Action → Option Transmission → Type 0
Names action sent = IsUneventful action ⊎ (action.sent ≡ sent)
