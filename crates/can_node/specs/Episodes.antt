-- The episodes of a node's history: what it drives and samples in each, what is counted, how the episode
-- ends and what comes next. Bosch CAN Specification 2.0, part B, 3.2 Frame Types, 5 MESSAGE VALIDATION,
-- 7 ERROR HANDLING and 8 FAULT CONFINEMENT; ISO 11898-1. docs/NODE.md says the same in words, and which of
-- the rules are this project's choice.
use Rattle.std.specs.Prelude.{◌≡◌, ℕ, ◌+◌, ◌<◌, Bool, true, false, not, List, [], ◌∷◌, ◌++◌, length}
use Rattle.can_frame.specs.Frames.{FrameValue, IsFrameValue}
use Rattle.can_frame.specs.Fronts.{IsFront}
use Rattle.can_frame.specs.declared.step.FaultKind.{FaultKind}
use Rattle.can_confinement.specs.declared.confinement.Role.{Role}
use Rattle.can_confinement.specs.declared.confinement.Role.TheVariants.{Sender, Receiver}
use Rattle.can_confinement.specs.declared.confinement.ErrorEvent.{ErrorEvent}
use Rattle.can_confinement.specs.declared.confinement.ErrorEvent.TheVariants.{ReceiverError}
use Rattle.can_confinement.specs.declared.confinement.ErrorEvent.TheVariants.{SenderError, Sent, Recovered}
use Rattle.can_confinement.specs.declared.confinement.ErrorState.{ErrorState}
use Rattle.can_confinement.specs.declared.confinement.ErrorState.TheVariants.{Active, Passive, Off}
use Rattle.can_node.specs.declared.outcome.ErrorKind.TheVariants.{Bit, Stuff, Form, Ack}
use Rattle.can_node.specs.declared.outcome.Outcome.{Outcome}
use Rattle.can_node.specs.declared.outcome.Outcome.TheVariants.{Nothing, Took, Completed}
use Rattle.can_node.specs.declared.outcome.Outcome.TheVariants.{Lost, Errored, WentOff, CameBack}
use Rattle.can_confinement.specs.Confinement.{is_off, counts_after, state_after}
use Rattle.can_node.specs.Pairs.{Pair, listening, dominating, driving, recessive, dominant}
use Rattle.can_node.specs.Sends.{IsSend, IsSendBit, IsArbitration, IsArbitrationStuffBit}
use Rattle.can_node.specs.Takes.{IsReadOn, Reads, name_of, IsFirstFault}
use Rattle.can_node.specs.Flags.{flag_bits, EndsInSix, IsWithoutSix, owed_events, dominant_end, dominant_events}
use Rattle.can_node.specs.declared.flag.FlagKind.{FlagKind}
use Rattle.can_node.specs.declared.flag.FlagKind.TheVariants.{ActiveError, PassiveError, Overload}
use Rattle.can_node.specs.Waits.{Broken, Recoveries}
use Rattle.can_node.specs.Phases.{Phase, flag_of, suspends}
use Rattle.can_node.specs.Phases.Phase.{Sync, Idle, Send, Take, LastBit, ActiveFlag}
use Rattle.can_node.specs.Phases.Phase.{OverloadFlag, PassiveFlag, Delimiter, Intermission, Suspend, BusOff}

-- an error that a node of this role detects
abbrev pub error_of : Role → ErrorEvent
error_of Sender = SenderError
error_of Receiver = ReceiverError

-- an error-passive sender that nobody acknowledges owes its error until it samples a dominant level in its
-- passive flag; one that is error active counts it at once
abbrev pub ack_events : ErrorState → List ErrorEvent
ack_events Active = SenderError ∷ []
ack_events Passive = []
ack_events Off = []

-- An episode that goes on: its pairs so far, and the events that they brought.
pub data Begun : Phase → List Pair → List ErrorEvent → Type 0 where
  syncing : (broken : List Bool) (n : ℕ) → Broken broken → n < 11 →
      Begun Sync (listening (broken ++ recessive n)) []
  idling : (n : ℕ) →
      Begun Idle (listening (recessive n)) []
  -- a frame is sent up to a bit that is still to come
  sending : (start : ℕ) (given : List Bool) (frame : FrameValue) (before seen : List Bool) (driven expected : Bool) →
      IsSendBit frame given before seen driven expected →
      Begun (Send start given frame) (driving before seen) []
  -- a frame is read, without an error and not yet up to where it is valid
  taking : (start : ℕ) (given : List Bool) (may_begin : Bool) (levels : List Bool) (pairs : List Pair)
      (events : List ErrorEvent) →
      IsReadOn (given ++ levels) → Reads given levels pairs events →
      Begun (Take start given may_begin) pairs events
  last_bit :
      Begun LastBit [] []
  active_flag : (role : Role) (levels : List Bool) → length levels < 6 →
      Begun (ActiveFlag role) (dominating levels) (flag_bits role levels)
  overload_flag : (role : Role) (levels : List Bool) → length levels < 6 →
      Begun (OverloadFlag role) (dominating levels) (flag_bits role levels)
  passive_flag : (owed : List ErrorEvent) (role : Role) (levels : List Bool) → IsWithoutSix levels →
      Begun (PassiveFlag owed role) (listening levels) (owed_events owed levels)
  -- any number of dominant levels, and fewer than eight recessive ones
  delimiting : (kind : FlagKind) (role : Role) (run n k : ℕ) → k < 8 →
      Begun (Delimiter kind role run) (listening (dominant n ++ recessive k)) (dominant_events kind role run n)
  in_pause : (role : Role) (k : ℕ) → k < 3 →
      Begun (Intermission role) (listening (recessive k)) []
  suspended : (k : ℕ) → k < 8 →
      Begun Suspend (listening (recessive k)) []
  recovering : (runs : ℕ) (text broken : List Bool) (n : ℕ) → runs < 128 → Recoveries runs text → Broken broken →
      n < 11 →
      Begun BusOff (listening (text ++ broken ++ recessive n)) []

-- A whole episode that ends with a bit, from the bit `at` on and after these events before it: its pairs, its
-- events, what its last bit brings to an end, and the next phase. That the node begins to send, and bus off, are
-- left to `Episode`, below.
pub data Course : (at : ℕ) (before : List ErrorEvent) → Phase → List Pair → List ErrorEvent → Outcome →
    Phase → Type 0 where
  -- eleven recessive levels in a row, for the first time
  synced : {at : ℕ} {before : List ErrorEvent} (broken : List Bool) → Broken broken →
      Course at before Sync (listening (broken ++ recessive 11)) [] Nothing Idle
  -- idle: a dominant level is the SOF of a frame that is read
  resumed : {at : ℕ} {before : List ErrorEvent} (n : ℕ) →
      Course at before Idle (listening (recessive n ++ false ∷ [])) [] Nothing (Take (at + n) (false ∷ []) false)
  -- sending: the whole spelling, acknowledged; it is valid for the sender at the last bit of EOF
  completed : {at : ℕ} {before : List ErrorEvent} (start : ℕ) (given : List Bool) (frame : FrameValue)
      (driven sampled : List Bool) →
      IsSend frame given driven sampled →
      Course at before (Send start given frame) (driving driven sampled) (Sent ∷ []) Completed (Intermission Sender)
  -- a recessive bit of the arbitration field is dominant on the bus: the node reads on as a receiver
  lost : {at : ℕ} {before : List ErrorEvent} (start : ℕ) (given : List Bool) (frame : FrameValue)
      (driven seen : List Bool) →
      IsSendBit frame given driven seen true true → IsArbitration frame (given ++ driven) →
      Course at before (Send start given frame)
      (driving driven seen ++ record { driven = true; sampled = false } ∷ []) []
      Lost (Take start (given ++ seen ++ false ∷ []) false)
  -- a recessive stuff bit before RTR is dominant on the bus: an error that is not counted
  stuff_lost : {at : ℕ} {before : List ErrorEvent} (start : ℕ) (given : List Bool) (frame : FrameValue)
      (driven seen : List Bool) →
      IsSendBit frame given driven seen true true → IsArbitrationStuffBit frame (given ++ driven) →
      Course at before (Send start given frame)
      (driving driven seen ++ record { driven = true; sampled = false } ∷ []) []
      (Errored Stuff) (flag_of (state_after before) [] Sender)
  -- the ACK slot is recessive
  unacknowledged : {at : ℕ} {before : List ErrorEvent} (start : ℕ) (given : List Bool) (frame : FrameValue)
      (driven seen : List Bool) →
      IsSendBit frame given driven seen true false →
      Course at before (Send start given frame) (driving driven seen ++ record { driven = true; sampled = true } ∷ [])
      (ack_events (state_after before)) (Errored Ack) (flag_of (state_after before) (SenderError ∷ []) Sender)
  -- any other bit differs from the bus
  bit_differs : {at : ℕ} {before : List ErrorEvent} (start : ℕ) (given : List Bool) (frame : FrameValue)
      (driven seen : List Bool) (level : Bool) →
      IsSendBit frame given driven seen level level →
      (level ≡ true → IsArbitration frame (given ++ driven) → ⊥) →
      (level ≡ true → IsArbitrationStuffBit frame (given ++ driven) → ⊥) →
      Course at before (Send start given frame)
      (driving driven seen ++ record { driven = level; sampled = not level } ∷ [])
      (SenderError ∷ []) (Errored Bit) (flag_of (state_after before) [] Sender)
  -- reading: the frame is valid for a receiver at the last but one bit of EOF
  took : {at : ℕ} {before : List ErrorEvent} (start : ℕ) (given : List Bool) (may_begin : Bool) (levels : List Bool)
      (pairs : List Pair)
      (events : List ErrorEvent) (frame : FrameValue) → Reads given levels pairs events →
      IsFront frame (given ++ levels) →
      Course at before (Take start given may_begin) pairs events (Took start frame) LastBit
  -- the first level with which no frame goes on, or that is an error of ACK slot or CRC; the flag is that of
  -- the state before this error, in which a frame that was acknowledged is counted
  spoiled : {at : ℕ} {before : List ErrorEvent} (start : ℕ) (given : List Bool) (may_begin : Bool)
      (levels : List Bool) (level : Bool) (pairs : List Pair)
      (events : List ErrorEvent) (kind : FaultKind) → Reads given (levels ++ level ∷ []) pairs events →
      IsFirstFault kind (given ++ levels) level →
      Course at before (Take start given may_begin) pairs (events ++ ReceiverError ∷ [])
      (Errored (name_of kind)) (flag_of (state_after (before ++ events)) [] Receiver)
  -- the last bit of EOF: recessive, or dominant, which asks for an overload frame and is no error
  recessive_last_bit : {at : ℕ} {before : List ErrorEvent} →
      Course at before LastBit (listening (true ∷ [])) [] Nothing (Intermission Receiver)
  late_overload : {at : ℕ} {before : List ErrorEvent} →
      Course at before LastBit (listening (false ∷ [])) [] Nothing (OverloadFlag Receiver)
  -- flags: six dominant bits, whatever is sampled; a passive one until six equal levels in a row were sampled
  flagged : {at : ℕ} {before : List ErrorEvent} (role : Role) (levels : List Bool) → length levels ≡ 6 →
      Course at before (ActiveFlag role) (dominating levels) (flag_bits role levels) Nothing
      (Delimiter ActiveError role (dominant_end levels))
  overload_flagged : {at : ℕ} {before : List ErrorEvent} (role : Role) (levels : List Bool) → length levels ≡ 6 →
      Course at before (OverloadFlag role) (dominating levels) (flag_bits role levels) Nothing
      (Delimiter Overload role (dominant_end levels))
  passive_flagged : {at : ℕ} {before : List ErrorEvent} (owed : List ErrorEvent) (role : Role) (levels : List Bool)
      (level : Bool) →
      IsWithoutSix levels → EndsInSix (levels ++ level ∷ []) →
      Course at before (PassiveFlag owed role) (listening (levels ++ level ∷ []))
      (owed_events owed (levels ++ level ∷ [])) Nothing
      (Delimiter PassiveError role 0)
  -- delimiter: any number of dominant levels, and then eight recessive ones
  delimited : {at : ℕ} {before : List ErrorEvent} (kind : FlagKind) (role : Role) (run n : ℕ) →
      Course at before (Delimiter kind role run) (listening (dominant n ++ recessive 8))
      (dominant_events kind role run n) Nothing (Intermission role)
  -- a dominant level in the place of the second to the seventh of these is an error
  truncated : {at : ℕ} {before : List ErrorEvent} (kind : FlagKind) (role : Role) (run n k : ℕ) → 0 < k → k < 7 →
      Course at before (Delimiter kind role run) (listening (dominant n ++ recessive k ++ false ∷ []))
      (dominant_events kind role run n ++ error_of role ∷ [])
      (Errored Form) (flag_of (state_after (before ++ dominant_events kind role run n)) [] role)
  -- in the place of the eighth it begins an overload frame
  overloaded : {at : ℕ} {before : List ErrorEvent} (kind : FlagKind) (role : Role) (run n : ℕ) →
      Course at before (Delimiter kind role run) (listening (dominant n ++ recessive 7 ++ false ∷ []))
      (dominant_events kind role run n)
      Nothing (OverloadFlag role)
  -- intermission: three recessive levels, behind which an error-passive sender waits and the bus is free else
  intermission_ended : {at : ℕ} {before : List ErrorEvent} (role : Role) → suspends role (state_after before) ≡ false →
      Course at before (Intermission role) (listening (recessive 3)) [] Nothing Idle
  intermission_suspended : {at : ℕ} {before : List ErrorEvent} (role : Role) → suspends role (state_after before) ≡ true →
      Course at before (Intermission role) (listening (recessive 3)) [] Nothing Suspend
  -- a dominant first or second bit begins an overload frame
  pressed : {at : ℕ} {before : List ErrorEvent} (role : Role) (k : ℕ) → k < 2 →
      Course at before (Intermission role) (listening (recessive k ++ false ∷ [])) [] Nothing (OverloadFlag role)
  -- a dominant third bit is SOF: the node reads, or begins to send at the next bit, unless it would have to wait
  hurried : {at : ℕ} {before : List ErrorEvent} (role : Role) →
      Course at before (Intermission role) (listening (recessive 2 ++ false ∷ [])) [] Nothing
      (Take (at + 2) (false ∷ []) (not (suspends role (state_after before))))
  -- suspend transmission: eight recessive levels; a dominant one is SOF of a frame that is read
  waited : {at : ℕ} {before : List ErrorEvent} →
      Course at before Suspend (listening (recessive 8)) [] Nothing Idle
  overtaken : {at : ℕ} {before : List ErrorEvent} (k : ℕ) → k < 8 →
      Course at before Suspend (listening (recessive k ++ false ∷ [])) [] Nothing (Take (at + k) (false ∷ []) false)
  -- bus off: 128 runs of eleven recessive levels
  recovered : {at : ℕ} {before : List ErrorEvent} (text : List Bool) → Recoveries 128 text →
      Course at before BusOff (listening text) (Recovered ∷ []) CameBack Idle

-- the events leave the node in bus off, or not
abbrev pub AreOff : List ErrorEvent → Type 0
AreOff events = is_off (counts_after events) ≡ true

abbrev pub AreOn : List ErrorEvent → Type 0
AreOn events = is_off (counts_after events) ≡ false

-- A whole episode. The node begins to send, behind the bits that it waited; or the episode runs its course; or
-- the event of one of its bits brings TEC to 256, and that bit ends it in bus off, whether it goes on otherwise
-- or its course ends there. No flag is sent then.
pub data Episode : (at : ℕ) (before : List ErrorEvent) → Phase → List Pair → List ErrorEvent → Outcome →
    Phase → Type 0 where
  -- idle: the node begins to send
  begun : {at : ℕ} {before : List ErrorEvent} (n : ℕ) (frame : FrameValue) → IsFrameValue frame → AreOn before →
      Episode at before Idle (listening (recessive n)) [] Nothing (Send (at + n) [] frame)
  -- it does so too behind a dominant third bit of intermission, which is its SOF
  joined : {at : ℕ} {before : List ErrorEvent} (start : ℕ) (given : List Bool) (frame : FrameValue) →
      IsFrameValue frame → AreOn before →
      Episode at before (Take start given true) [] [] Nothing (Send start given frame)
  ends : {at : ℕ} {before : List ErrorEvent} {phase next : Phase} {pairs : List Pair} {events : List ErrorEvent}
      {outcome : Outcome} →
      Course at before phase pairs events outcome next → AreOn (before ++ events) →
      Episode at before phase pairs events outcome next
  off_within : {at : ℕ} {before : List ErrorEvent} {phase : Phase} {pairs : List Pair} {events : List ErrorEvent}
      (pair : Pair) (event : ErrorEvent) →
      Begun phase pairs events → AreOn (before ++ events) →
      Begun phase (pairs ++ pair ∷ []) (events ++ event ∷ []) → AreOff (before ++ events ++ event ∷ []) →
      Episode at before phase (pairs ++ pair ∷ []) (events ++ event ∷ []) WentOff BusOff
  off_at_end : {at : ℕ} {before : List ErrorEvent} {phase next : Phase} {pairs : List Pair} {events : List ErrorEvent}
      {outcome : Outcome}
      (pair : Pair) (event : ErrorEvent) →
      Begun phase pairs events → AreOn (before ++ events) →
      Course at before phase (pairs ++ pair ∷ []) (events ++ event ∷ []) outcome next →
      AreOff (before ++ events ++ event ∷ []) →
      Episode at before phase (pairs ++ pair ∷ []) (events ++ event ∷ []) WentOff BusOff
