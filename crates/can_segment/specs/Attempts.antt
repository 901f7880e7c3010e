-- What the lines of a record tell of a node's attempts.
use Rattle.std.specs.Prelude.{◌≡◌, ℕ, ◌<◌, ◌≤◌, Option, Some, None, true}
use Rattle.std.specs.Prelude.{List, length, slice_get, take, option_and_then}
use Rattle.can_frame.specs.Frames.{FrameValue}
use Rattle.can_confinement.specs.declared.confinement.ErrorState.{ErrorState}
use Rattle.can_node.specs.declared.outcome.Outcome.{Outcome}
use Rattle.can_node.specs.declared.outcome.Outcome.TheVariants.{Nothing}
use Rattle.can_node.specs.Histories.{Past}
use Rattle.can_node.specs.Splits.{IsAttempt}
use Rattle.can_node.specs.Attempts.{first_bit}
use Rattle.can_station.specs.declared.event.Label.{Label}
use Rattle.can_station.specs.declared.plan.SegmentPlan.{SegmentPlan}
use Rattle.can_station.specs.declared.transmission.Transmission.{Transmission}
use Rattle.can_segment.specs.Runs.{firsts}
use Rattle.can_segment.specs.Traces.{Act, Bit, act_of, past_of, sending_of, sending_now}
use Rattle.can_station.specs.Outcomes.{ends_sending, is_failure}

-- the past of this node behind the trace; it was switched on by then
pub record IsPastOf (plan : SegmentPlan) (trace : List Bit) (node : ℕ) (past : Past) : Type 0 where
  pub on : ℕ
  pub on_is : slice_get (firsts plan) node ≡ Some on
  pub is_on : on ≤ length trace
  pub past_is : past ≡ past_of on node trace

-- what a node does at a bit of a trace, where it is on
abbrev pub act_at : ℕ → List Bit → ℕ → Option Act
act_at node trace bit = option_and_then (act_of node) (slice_get trace bit)

-- what it begins to send there
abbrev pub begun_at : ℕ → List Bit → ℕ → Option Transmission
begun_at node trace bit = option_and_then (λ (act : Act). act.begun) (act_at node trace bit)

-- what it sends there: what it begins at that bit, or began before
abbrev pub sending_at : ℕ → List Bit → ℕ → Option Transmission
sending_at node trace bit = sending_now (sending_of node (take bit trace)) (begun_at node trace bit)

-- what becomes of it there
abbrev pub outcome_at : ℕ → List Bit → ℕ → Outcome
outcome_at node trace bit = outcome_in (act_at node trace bit)
  where
    outcome_in : Option Act → Outcome
    outcome_in None = Nothing
    outcome_in (Some act) = act.outcome

-- the request that ends there because its abort was asked
abbrev pub reaped_at : ℕ → List Bit → ℕ → Option Label
reaped_at node trace bit = option_and_then (λ (act : Act). act.reaped) (act_at node trace bit)

-- the request that a node begins to send at a bit
abbrev pub request_at : ℕ → List Bit → ℕ → Option Label
request_at node trace bit = option_and_then (λ (sent : Transmission). sent.label) (begun_at node trace bit)

-- The lines tell of an attempt: its first bit has the line `started` with its frame, and the line of its last bit tells
-- what
-- became of it, with its start.
pub record IsReported (node : ℕ) (trace : List Bit) (start : ℕ) (frame : FrameValue) (first end : ℕ)
    (outcome : Outcome) : Type 0 where
  pub sent : Transmission
  pub begins : begun_at node trace first ≡ Some sent
  pub start_is : sent.start ≡ start
  pub frame_is : sent.frame ≡ frame
  pub ends : sending_at node trace end ≡ Some sent
  pub outcome_is : outcome_at node trace end ≡ outcome

-- so they do of each
abbrev pub AttemptsAreReported : SegmentPlan → List Bit → Type 0
AttemptsAreReported plan trace =
    (node : ℕ) (past : Past) (start end : ℕ) (frame : FrameValue) (state : ErrorState) (outcome : Outcome) →
    IsPastOf plan trace node past →
    (attempt : IsAttempt past start frame state end outcome) →
    IsReported node trace start frame (first_bit attempt) end outcome

-- and what they tell of the end of a transmission, be it completed, lost, in an error or in bus off, is the end of an
-- attempt
abbrev pub EndsAreOfAttempts : SegmentPlan → List Bit → Type 0
EndsAreOfAttempts plan trace =
    (node end : ℕ) (past : Past) (sent : Transmission) → IsPastOf plan trace node past →
    sending_at node trace end ≡ Some sent → ends_sending (outcome_at node trace end) ≡ true →
    (state : ErrorState) × IsAttempt past sent.start sent.frame state end (outcome_at node trace end)

-- Of two attempts of one request of a controller the earlier one failed, and the request did not end by it.
abbrev pub RequestsTryFailures : SegmentPlan → List Bit → ℕ → Type 0
RequestsTryFailures plan trace node =
    (past : Past) (label : Label) (start end start' end' : ℕ) (frame frame' : FrameValue) (state state' : ErrorState)
    (outcome outcome' : Outcome) →
    IsPastOf plan trace node past →
    (earlier : IsAttempt past start frame state end outcome) →
    (later : IsAttempt past start' frame' state' end' outcome') → end < first_bit later →
    request_at node trace (first_bit earlier) ≡ Some label → request_at node trace (first_bit later) ≡ Some label →
    (is_failure outcome ≡ true) × (reaped_at node trace end ≡ None)
