-- Fault confinement: the error counts and the state after a list of events. Bosch CAN Specification 2.0,
-- part B, 8 FAULT CONFINEMENT; ISO 11898-1. The table is this project's profile of the counting rules there.
-- It speaks of events alone: which bits bring them is said in can_node's Episodes.
use Rattle.std.specs.Prelude.{ℕ, ◌+◌, ◌-◌, ◌||◌, min, nat_lt, nat_le, Bool, List, fold, if◌then◌else◌}
use Rattle.can_confinement.specs.declared.confinement.Role.{Role}
use Rattle.can_confinement.specs.declared.confinement.Role.TheVariants.{Sender, Receiver}
use Rattle.can_confinement.specs.declared.confinement.ErrorEvent.{ErrorEvent}
use Rattle.can_confinement.specs.declared.confinement.ErrorEvent.TheVariants.{ReceiverError, ReceiverDominant}
use Rattle.can_confinement.specs.declared.confinement.ErrorEvent.TheVariants.{SenderError, FlagBit, DominantRun}
use Rattle.can_confinement.specs.declared.confinement.ErrorEvent.TheVariants.{Sent, Received, Recovered}
use Rattle.can_confinement.specs.declared.confinement.ErrorState.{ErrorState}
use Rattle.can_confinement.specs.declared.confinement.ErrorState.TheVariants.{Active, Passive, Off}

-- the transmit error count and the receive error count
pub record Counts : Type 0 where
  pub tec : ℕ
  pub rec : ℕ

-- both counts are 0
abbrev pub no_counts : Counts
no_counts = record { tec = 0; rec = 0 }

-- the count of a role is raised; REC stays at 255 at most (this project's choice), TEC has no limit
abbrev pub raised : Counts → Role → ℕ → Counts
raised c Sender by = record c { tec = c.tec + by }
raised c Receiver by = record c { rec = min (c.rec + by) 255 }

-- REC after a frame that was acknowledged: one less, or 120 where it was above 127
abbrev pub received_rec : ℕ → ℕ
received_rec n = if nat_lt 127 n then 120 else n - 1

-- the effect of an event on a node that is not in bus off
abbrev pub effect : Counts → ErrorEvent → Counts
effect c ReceiverError = raised c Receiver 1
effect c ReceiverDominant = raised c Receiver 8
effect c SenderError = raised c Sender 8
effect c (FlagBit role) = raised c role 8
effect c (DominantRun role) = raised c role 8
effect c Sent = record c { tec = c.tec - 1 }
effect c Received = record c { rec = received_rec c.rec }
effect c Recovered = no_counts

-- a TEC of 256 or more is bus off
abbrev pub is_off : Counts → Bool
is_off c = nat_le 256 c.tec

-- a count of 128 or more is error passive, and 127 or less of both is error active again
abbrev pub is_passive : Counts → Bool
is_passive c = nat_le 128 c.tec || nat_le 128 c.rec

-- the state that the counts make
abbrev pub state_of : Counts → ErrorState
state_of c = if is_off c then Off else (if is_passive c then Passive else Active)

-- the counts after one more event; in bus off only the recovery has an effect
abbrev pub after_event : Counts → ErrorEvent → Counts
after_event c Recovered = no_counts
after_event c event = if is_off c then c else effect c event

-- the counts after these events, from a node's first bit on
abbrev pub counts_after : List ErrorEvent → Counts
counts_after events = fold after_event no_counts events

-- the state after these events
abbrev pub state_after : List ErrorEvent → ErrorState
state_after events = state_of (counts_after events)
