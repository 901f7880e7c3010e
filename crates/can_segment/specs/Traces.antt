-- What the nodes of a segment do, bit by bit. A trace is a list of bits; at each one every node that is on does
-- one act.
use Rattle.std.specs.Prelude.{ℕ, ◌+◌, Bool, Option, Some, None, List, fold, slice_get}
use Rattle.can_confinement.specs.declared.confinement.ErrorEvent.{ErrorEvent}
use Rattle.can_node.specs.declared.outcome.Outcome.{Outcome}
use Rattle.can_node.specs.Histories.{Past, no_past}
use Rattle.can_node.specs.Machine.{with_bit}
use Rattle.can_node.specs.Node.{with_begin}
use Rattle.can_station.specs.declared.event.Label.{Label}
use Rattle.can_station.specs.declared.transmission.Transmission.{Transmission}
use Rattle.can_station.specs.Outcomes.{sending_after, completed_by}

-- what a node does at a bit: what it begins to send, what it drives and samples, what it counts and tells, and
-- the request that ended because its abort was asked
pub record Act : Type 0 where
  pub begun : Option Transmission
  pub driven : Bool
  pub sampled : Bool
  pub event : Option ErrorEvent
  pub outcome : Outcome
  pub reaped : Option Label

-- one bit of a segment: the level of the line, and the act of each node, where it is on
pub record Bit : Type 0 where
  pub level : Bool
  pub acts : List (Option Act)

-- the past of a node that begins to send this, or nothing
abbrev pub with_start : Past → Option Transmission → Past
with_start past None = past
with_start past (Some sent) = with_begin past sent.frame

-- the past of a node behind an act; one that is not on has done nothing
abbrev pub with_act : Past → Option Act → Past
with_act past None = past
with_act past (Some act) = with_bit (with_start past act.begun)
    (record { driven = act.driven; sampled = act.sampled }) act.event act.outcome

-- the act of a node at a bit
abbrev pub act_of : ℕ → Bit → Option Act
act_of k bit = act_in (slice_get bit.acts k)
  where
    act_in : Option (Option Act) → Option Act
    act_in None = None
    act_in (Some act) = act

-- the past of a node that is on from this bit on
abbrev pub past_of : ℕ → ℕ → List Bit → Past
past_of on k trace = fold (λ past bit. with_act past (act_of k bit)) (no_past on) trace

-- what a node sends when it has begun this
abbrev pub sending_now : Option Transmission → Option Transmission → Option Transmission
sending_now before None = before
sending_now before (Some sent) = Some sent

-- and behind its act
abbrev pub sending_behind : Option Transmission → Option Act → Option Transmission
sending_behind before None = before
sending_behind before (Some act) = sending_after (sending_now before act.begun) act.outcome

-- what a node sends behind a trace
abbrev pub sending_of : ℕ → List Bit → Option Transmission
sending_of k trace = fold (λ before bit. sending_behind before (act_of k bit)) None trace

abbrev pub completed_in : Option Act → ℕ
completed_in None = 0
completed_in (Some act) = completed_by act.outcome

abbrev pub completed_of : ℕ → List Bit → ℕ
completed_of k trace = fold (λ n bit. n + completed_in (act_of k bit)) 0 trace
