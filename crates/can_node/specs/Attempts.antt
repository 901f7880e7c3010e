-- The attempts of a history: their bits, and what is begun and reported at them.
use Rattle.std.specs.Prelude.{◌≡◌, ℕ, ◌+◌, ◌<◌, ◌≤◌, ◌⊎◌, Bool, Some, List, ◌++◌, length}
use Rattle.std.specs.List.{Contains}
use Rattle.can_frame.specs.Frames.{FrameValue}
use Rattle.can_confinement.specs.declared.confinement.ErrorEvent.{ErrorEvent}
use Rattle.can_confinement.specs.declared.confinement.ErrorState.{ErrorState}
use Rattle.can_node.specs.declared.outcome.Outcome.{Outcome}
use Rattle.can_node.specs.Pairs.{Pair}
use Rattle.can_node.specs.Phases.Phase.{Send}
use Rattle.can_node.specs.Histories.{Past, IsHistory}
use Rattle.can_node.specs.Node.{with_begin, IsSending}
use Rattle.can_node.specs.Splits.{HasLast, IsAttempt}

-- the bit at which an attempt drives its first level
abbrev pub first_bit : {past : Past} {start : ℕ} {frame : FrameValue} {state : ErrorState} {end : ℕ}
    {outcome : Outcome} →
    IsAttempt past start frame state end outcome → ℕ
first_bit attempt = attempt.done.first + length attempt.done.pairs

-- an attempt that drives its first level at this bit
pub record IsAttemptFrom (past : Past) (bit : ℕ) (frame : FrameValue) : Type 0 where
  pub start : ℕ
  pub state : ErrorState
  pub end : ℕ
  pub outcome : Outcome
  pub attempt : IsAttempt past start frame state end outcome
  pub first_is : first_bit attempt ≡ bit

-- a transmission from this bit on that goes on where the history ends
pub record IsOpenAttempt (past : Past) (bit : ℕ) (frame : FrameValue) : Type 0 where
  pub start : ℕ
  pub given : List Bool
  pub done : Past
  pub part : List Pair
  pub counting : List ErrorEvent
  pub here : HasLast past done (Send start given frame) part counting
  pub first_is : done.first + length done.pairs ≡ bit

-- From one bit to another a node does nothing but send one frame: the frame is begun at the first of these bits, its
-- outcome is reported at the last, and nothing else is begun or reported between them.
pub record SendsAlone (past : Past) (first end : ℕ) (frame : FrameValue) (outcome : Outcome) : Type 0 where
  pub in_order : first ≤ end
  pub begun : Contains past.begun (first, frame)
  pub reported : Contains past.outcomes (end, outcome)
  pub none_begun : (bit : ℕ) (other : FrameValue) → first < bit → bit ≤ end → Contains past.begun (bit, other) → ⊥
  pub none_reported : (bit : ℕ) (other : Outcome) → first ≤ bit → bit < end → Contains past.outcomes (bit, other) → ⊥

-- each attempt of a history is sent alone
abbrev pub AttemptsStandAlone : Type 0
AttemptsStandAlone = (past : Past) (start end : ℕ) (frame : FrameValue) (state : ErrorState) (outcome : Outcome) →
    (attempt : IsAttempt past start frame state end outcome) → SendsAlone past (first_bit attempt) end frame outcome

-- from the first bit of an attempt that goes on, nothing is reported
abbrev pub OpenAttemptsReportNothing : Type 0
OpenAttemptsReportNothing = (past : Past) (first : ℕ) (frame : FrameValue) → IsOpenAttempt past first frame →
    (bit : ℕ) (outcome : Outcome) → first ≤ bit → Contains past.outcomes (bit, outcome) → ⊥

-- what a node begins to send becomes an attempt, or goes on where the history ends
abbrev pub FramesBegunAreAttempts : Type 0
FramesBegunAreAttempts = (past : Past) (bit : ℕ) (frame : FrameValue) → IsHistory past →
    Contains past.begun (bit, frame) →
    IsAttemptFrom past bit frame ⊎ IsOpenAttempt past bit frame

-- The start of an attempt is the SOF that the node reported when it began, however its history up to there is split.
abbrev pub StartsAreSofs : Type 0
StartsAreSofs = (past before : Past) (more : List Pair) (start sof end : ℕ) (frame begun : FrameValue)
    (state : ErrorState) (outcome : Outcome) →
    (attempt : IsAttempt past start frame state end outcome) → past.first ≡ before.first →
    past.pairs ≡ before.pairs ++ more →
    first_bit attempt ≡ before.first + length before.pairs → IsSending (with_begin before begun) (Some sof) →
    sof ≡ start
