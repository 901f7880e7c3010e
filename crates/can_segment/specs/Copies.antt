-- Copies on a line with faults: what the attempts of a sender and the takes of a receiver have to do with one another.
-- Bosch CAN Specification 2.0, part B, 5 MESSAGE VALIDATION; ISO 11898-1.
use Rattle.std.specs.Prelude.{◌≡◌, ℕ, ◌<◌, ◌≤◌, ◌+◌, ◌||◌, Bool, true, false, Some, List, slice_get, take}
use Rattle.std.specs.List.{list_any}
use Rattle.can_frame.specs.Frames.{FrameValue}
use Rattle.can_confinement.specs.declared.confinement.ErrorState.{ErrorState}
use Rattle.can_confinement.specs.declared.confinement.ErrorState.TheVariants.{Active}
use Rattle.can_node.specs.declared.outcome.ErrorKind.{ErrorKind}
use Rattle.can_node.specs.declared.outcome.Outcome.{Outcome}
use Rattle.can_node.specs.declared.outcome.Outcome.TheVariants.{Nothing, Took, Completed, Errored}
use Rattle.can_node.specs.Histories.{Past}
use Rattle.can_node.specs.Splits.{IsAttempt, IsTake, IsOpenTake}
use Rattle.can_node.specs.Attempts.{first_bit}
use Rattle.bx_core.specs.TxBus.{no_bus_past}
use Rattle.can_station.specs.declared.event.Event.{Event}
use Rattle.can_station.specs.declared.plan.LineFault.{LineFault}
use Rattle.can_station.specs.declared.plan.Talker.{Talker}
use Rattle.can_station.specs.declared.plan.SegmentPlan.{SegmentPlan}
use Rattle.can_station.specs.Faults.{is_inverted, stands}
use Rattle.can_segment.specs.Attempts.{IsPastOf, AttemptsAreReported, EndsAreOfAttempts, RequestsTryFailures}
use Rattle.can_segment.specs.Brought.{kinds_of, StartsUndone}
use Rattle.can_segment.specs.Traces.{Bit, completed_of}
use Rattle.can_station.specs.Outcomes.{is_failure}
use Rattle.can_segment.specs.Runs.{Run}

-- a fault of the line stands at this bit, or one of this node
abbrev pub is_falsified : SegmentPlan → ℕ → ℕ → Bool
is_falsified plan node bit =
    list_any (λ (fault : LineFault). stands fault.bit fault.until bit) plan.line_faults.items
    || is_inverted plan.node_faults.items node bit

-- An error of a sender that is error active comes not before the bit at which a receiver took the frame of that
-- attempt, if the receiver is not falsified behind the error.
abbrev pub ErrorsComeLate : SegmentPlan → List Bit → Type 0
ErrorsComeLate plan trace =
    (node other : ℕ) (sender receiver : Past) (start end took : ℕ) (frame given : FrameValue) (kind : ErrorKind) →
    IsPastOf plan trace node sender → IsPastOf plan trace other receiver →
    IsAttempt sender start frame Active end (Errored kind) → IsTake receiver start took (Took start given) →
    ((bit : ℕ) → end < bit → bit ≤ took → is_falsified plan other bit ≡ false) → took ≤ end

-- neither node is falsified from one bit to the bit before another
abbrev pub AreSound : SegmentPlan → (node other from end : ℕ) → Type 0
AreSound plan node other from end = (bit : ℕ) → from ≤ bit → bit < end →
    (is_falsified plan node bit ≡ false) × (is_falsified plan other bit ≡ false)

-- Where a send was completed, each take with its start ended one bit before it and took its frame, if neither node is
-- falsified from the start to that bit; unless that node itself began to send. None goes on.
abbrev pub CompletedAreTaken : SegmentPlan → List Bit → Type 0
CompletedAreTaken plan trace =
    (node other : ℕ) (sender receiver : Past) (start end took : ℕ) (frame : FrameValue) (state : ErrorState)
    (outcome : Outcome) →
    IsPastOf plan trace node sender → IsPastOf plan trace other receiver →
    IsAttempt sender start frame state end Completed → AreSound plan node other start end →
    IsTake receiver start took outcome → (outcome ≡ Nothing → ⊥) → (took + 1 ≡ end) × (outcome ≡ Took start frame)

abbrev pub NoTakeGoesOn : SegmentPlan → List Bit → Type 0
NoTakeGoesOn plan trace =
    (node other : ℕ) (sender receiver : Past) (start end : ℕ) (frame : FrameValue) (state : ErrorState) →
    IsPastOf plan trace node sender → IsPastOf plan trace other receiver →
    IsAttempt sender start frame state end Completed → AreSound plan node other start end →
    IsOpenTake receiver start → ⊥

-- A talker's request is the place of its frame in its list, which is how many were completed before. Of two attempts
-- of one request the earlier one failed: by lost arbitration, by an error, or by one that led to bus off.
abbrev pub TalkersTryFailures : SegmentPlan → List Bit → Type 0
TalkersTryFailures plan trace =
    (node : ℕ) (talker : Talker) (past : Past) (start end start' end' : ℕ) (frame frame' : FrameValue)
    (state state' : ErrorState) (outcome outcome' : Outcome) →
    slice_get plan.talkers.items node ≡ Some talker → IsPastOf plan trace node past →
    (earlier : IsAttempt past start frame state end outcome) →
    (later : IsAttempt past start' frame' state' end' outcome') → end < first_bit later →
    completed_of node (take (first_bit earlier) trace) ≡ completed_of node (take (first_bit later) trace) →
    is_failure outcome ≡ true

-- All of these hold behind a trace. A controller tries failures alone where no line tells that it starts what is over.
pub record KeepsCopies (plan : SegmentPlan) (trace : List Bit) (events : List Event) : Type 0 where
  pub errors : ErrorsComeLate plan trace
  pub completed : CompletedAreTaken plan trace
  pub no_open : NoTakeGoesOn plan trace
  pub talkers : TalkersTryFailures plan trace
  pub controllers : (node : ℕ) → StartsUndone no_bus_past (kinds_of node events) → RequestsTryFailures plan trace node
  pub reported : AttemptsAreReported plan trace
  pub ends : EndsAreOfAttempts plan trace

-- they hold for whatever trace tells these levels and events
abbrev pub Copies : SegmentPlan → List Bool → List Event → Type 0
Copies plan levels events = (trace : List Bit) → Run plan trace levels events → KeepsCopies plan trace events
