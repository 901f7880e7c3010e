-- What an outcome of a node makes of what it sends.
use Rattle.std.specs.Prelude.{ℕ, Bool, true, false, Option, None, if◌then◌else◌}
use Rattle.can_node.specs.declared.outcome.Outcome.{Outcome}
use Rattle.can_node.specs.declared.outcome.Outcome.TheVariants.{Nothing, Took, Completed}
use Rattle.can_node.specs.declared.outcome.Outcome.TheVariants.{Lost, Errored, WentOff, CameBack}
use Rattle.can_station.specs.declared.transmission.Transmission.{Transmission}

-- a transmission is over with this outcome
abbrev pub ends_sending : Outcome → Bool
ends_sending Nothing = false
ends_sending (Took start frame) = false
ends_sending Completed = true
ends_sending Lost = true
ends_sending (Errored kind) = true
ends_sending WentOff = true
ends_sending CameBack = false

-- a transmission failed with this outcome
abbrev pub is_failure : Outcome → Bool
is_failure Nothing = false
is_failure (Took start frame) = false
is_failure Completed = false
is_failure Lost = true
is_failure (Errored kind) = true
is_failure WentOff = true
is_failure CameBack = false

-- what a node sends behind an outcome
abbrev pub sending_after : Option Transmission → Outcome → Option Transmission
sending_after sending outcome = if ends_sending outcome then None else sending

-- how many of its frames were completed
abbrev pub completed_by : Outcome → ℕ
completed_by Nothing = 0
completed_by (Took start frame) = 0
completed_by Completed = 1
completed_by Lost = 0
completed_by (Errored kind) = 0
completed_by WentOff = 0
completed_by CameBack = 0
