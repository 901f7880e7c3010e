-- How a node's state agrees with the episode that it is in, and what a sampled level makes of it. Private
-- clauses cite it.
use Rattle.std.specs.Prelude.{◌≡◌, ◌⊎◌, ℕ, ◌+◌, ◌*◌, ◌<◌, ◌≤◌, ◌==◌, Bool, true}
use Rattle.std.specs.Prelude.{false, not, Option, Some, None, List, [], ◌∷◌, ◌++◌, length}
use Rattle.std.specs.List.{list_any, suffix_len}
use Rattle.can_frame.specs.Frames.{FrameValue}
use Rattle.can_frame.specs.Fronts.{BeginsRegion}
use Rattle.can_frame.specs.Reading.{InTail, Next, StandsAfter as ReaderStandsAfter, IsReading}
use Rattle.can_frame.specs.declared.step.Step.{Step}
use Rattle.can_frame.specs.declared.step.Step.TheVariants.{More, StuffBit}
use Rattle.can_frame.specs.declared.reader.Reader.{Reader}
use Rattle.can_confinement.specs.declared.confinement.Role.{Role}
use Rattle.can_confinement.specs.declared.confinement.Role.TheVariants.{Sender, Receiver}
use Rattle.can_confinement.specs.declared.confinement.ErrorEvent.{ErrorEvent}
use Rattle.can_confinement.specs.declared.confinement.ErrorEvent.TheVariants.{SenderError}
use Rattle.can_confinement.specs.declared.confinement.ErrorState.{ErrorState}
use Rattle.can_node.specs.declared.flag.FlagKind.{FlagKind}
use Rattle.can_node.specs.declared.flag.FlagKind.TheVariants.{ActiveError, Overload}
use Rattle.can_node.specs.declared.outcome.Outcome.{Outcome}
use Rattle.can_node.specs.declared.outcome.ErrorKind.{ErrorKind}
use Rattle.can_node.specs.declared.outcome.Outcome.TheVariants.{Nothing, Errored, WentOff}
use Rattle.can_node.specs.declared.state.State.{State}
use Rattle.can_node.specs.declared.state.State.TheVariants.{Integrating, BusIdle, Receiving, LastEofBit, DominantFlag}
use Rattle.can_node.specs.declared.state.State.TheVariants.{PassiveErrorFlag, AwaitingDelimiter, InDelimiter}
use Rattle.can_node.specs.declared.state.State.TheVariants.{InIntermission}
use Rattle.can_node.specs.declared.state.State.TheVariants.{SuspendTransmission, BusOffRecovery, Transmitting}
use Rattle.can_node.specs.declared.state.Stage.{Stage}
use Rattle.can_node.specs.declared.state.Stage.TheVariants.{Region, AfterRegion, Slot, AfterSlot}
use Rattle.can_node.specs.declared.state.Transition.{Transition}
use Rattle.can_frame.specs.declared.spelling.Spelling.{Spelling}
use Rattle.can_confinement.specs.declared.counters.Counters.{Counters}
use Rattle.can_confinement.specs.Counters.{StandsAfter}
use Rattle.can_confinement.specs.Confinement.{state_after}
use Rattle.can_node.specs.Pairs.{Pair, listening, dominating, driving, recessive, dominant}
use Rattle.can_node.specs.Sends.{IsSendBit}
use Rattle.can_frame.specs.Sending.{IsSpelling, IsBitAt, level_at}
use Rattle.can_frame.specs.declared.spelling.SendBit.TheVariants.{Arbitration}
use Rattle.can_node.specs.Takes.{IsReadOn, Reads}
use Rattle.can_node.specs.Flags.{IsWithoutSix, owed_events, flag_bits, dominant_end, dominant_events, first_counted}
use Rattle.can_node.specs.Waits.{Broken, Recoveries}
use Rattle.can_node.specs.Phases.{Phase, wants_start}
use Rattle.can_node.specs.Phases.Phase.{Sync, Idle, Send, Take, LastBit, ActiveFlag}
use Rattle.can_node.specs.Phases.Phase.{OverloadFlag, PassiveFlag, Delimiter, Intermission, Suspend, BusOff}
use Rattle.can_node.specs.Episodes.{Course, AreOn, AreOff}
use Rattle.can_node.specs.Histories.{Past, Whole, with_episode, IsOnOutside, noted}

-- so many more dominant samples in a row are counted, behind a run of `run` in the flag and n behind it
pub record IsDue (kind : FlagKind) (run n until : ℕ) : Type 0 where
  pub eighths : ℕ
  pub due : run + n + until ≡ first_counted kind + 8 * eighths
  pub some : 0 < until
  pub near : (eighths ≡ 0 → ⊥) → until ≤ 8

-- a passive error flag with these samples goes on: how it ends, and what it owes still
pub record IsPassive (owes : Bool) (ones zeros : ℕ) (owed : List ErrorEvent) (levels : List Bool) : Type 0 where
  pub without_six : IsWithoutSix levels
  pub ones_is : suffix_len (λ level. level) levels ≡ ones
  pub zeros_is : dominant_end levels ≡ zeros
  pub owes_error : owes ≡ true → (owed ≡ SenderError ∷ []) × (list_any not levels ≡ false)
  pub none_yet : owes ≡ true → zeros ≡ 0
  pub owes_nothing : owes ≡ false → (more : List Bool) → owed_events owed (levels ++ more) ≡ owed_events owed levels

-- a node that sends a frame holds its spelling
abbrev pub Holds : Phase → Spelling → Type 0
Holds (Send start given frame) spelling = IsSpelling frame spelling
Holds phase spelling = Unit {0}

-- where the text of a frame ends: within the stuffed region, or with so many of the levels behind it
abbrev pub IsAt : Stage → List Bool → Type 0
IsAt Region text = BeginsRegion text
IsAt (AfterRegion right) text = (frame : FrameValue) × InTail frame right 0 text
IsAt (Slot right) text = (frame : FrameValue) × InTail frame right 1 text
IsAt AfterSlot text = (frame : FrameValue) × (right : Bool) × (seen : ℕ) × (2 ≤ seen) × InTail frame right seen text

-- the next level is that of the ACK slot of a frame whose CRC is right
abbrev pub is_own_slot : Stage → Bool
is_own_slot Region = false
is_own_slot (AfterRegion right) = false
is_own_slot (Slot right) = right
is_own_slot AfterSlot = false

-- The node in this state, whose reader has read this text if it reads, has made these pairs of an episode of
-- this phase that began at this bit, and they brought these events.
pub data Agrees : State → (text : List Bool) → (at : ℕ) → Phase → List Pair → List ErrorEvent → Type 0 where
  in_sync : {text : List Bool} {at n : ℕ} (broken : List Bool) → Broken broken → n < 11 →
      Agrees (Integrating n) text at Sync (listening (broken ++ recessive n)) []
  in_idle : {text : List Bool} {at : ℕ} (n : ℕ) →
      Agrees BusIdle text at Idle (listening (recessive n)) []
  in_take : {text : List Bool} {at start : ℕ} {may_start : Bool} {stage : Stage} (given levels : List Bool)
      (may_begin : Bool) (pairs : List Pair) (events : List ErrorEvent) →
      text ≡ given ++ levels → IsReadOn text → Reads given levels pairs events →
      may_start ≡ wants_start (Take start given may_begin) pairs →
      (may_begin ≡ true → given ≡ false ∷ []) →
      IsAt stage text →
      Agrees (Receiving start may_start stage) text at (Take start given may_begin) pairs events
  in_send : {text : List Bool} {at start place : ℕ} (given : List Bool) (frame : FrameValue) (before seen : List Bool)
      (driven expected : Bool) →
      text ≡ given ++ seen → IsSendBit frame given before seen driven expected →
      place ≡ length given + length before →
      Agrees (Transmitting start place) text at (Send start given frame) (driving before seen) []
  in_last : {text : List Bool} {at : ℕ} →
      Agrees LastEofBit text at LastBit [] []
  in_active : {text : List Bool} {at sent until : ℕ} {role : Role} (levels : List Bool) →
      length levels ≡ sent → sent < 6 → dominant_end levels + until ≡ 14 → dominant_end levels ≤ sent →
      Agrees (DominantFlag ActiveError role sent until) text at (ActiveFlag role) (dominating levels)
      (flag_bits role levels)
  in_overload : {text : List Bool} {at sent until : ℕ} {role : Role} (levels : List Bool) →
      length levels ≡ sent → sent < 6 → dominant_end levels + until ≡ 14 → dominant_end levels ≤ sent →
      Agrees (DominantFlag Overload role sent until) text at (OverloadFlag role) (dominating levels) (flag_bits role
      levels)
  in_passive : {text : List Bool} {at ones zeros : ℕ} {owes : Bool} {role : Role} (owed : List ErrorEvent)
      (levels : List Bool) →
      IsPassive owes ones zeros owed levels →
      Agrees (PassiveErrorFlag role owes ones zeros) text at (PassiveFlag owed role) (listening levels)
      (owed_events owed levels)
  in_wait : {text : List Bool} {at until : ℕ} {first : Bool} {kind : FlagKind} {role : Role} (run n : ℕ) →
      first ≡ (n == 0) → (n ≡ 0 → 8 ≤ until) → IsDue kind run n until →
      Agrees (AwaitingDelimiter kind role until first) text at (Delimiter kind role run) (listening (dominant n))
      (dominant_events kind role run n)
  in_delimiter : {text : List Bool} {at k : ℕ} {role : Role} (kind : FlagKind) (run n : ℕ) → 0 < k → k < 8 →
      Agrees (InDelimiter role k) text at (Delimiter kind role run) (listening (dominant n ++ recessive k))
      (dominant_events kind role run n)
  in_intermission : {text : List Bool} {at k : ℕ} {role : Role} → k < 3 →
      Agrees (InIntermission role k) text at (Intermission role) (listening (recessive k)) []
  in_suspend : {text : List Bool} {at k : ℕ} → k < 8 →
      Agrees (SuspendTransmission k) text at Suspend (listening (recessive k)) []
  in_off : {text : List Bool} {at runs n : ℕ} (rest broken : List Bool) → runs < 128 → Recoveries runs rest →
      Broken broken → n < 11 →
      Agrees (BusOffRecovery runs n) text at BusOff (listening (rest ++ broken ++ recessive n)) []

-- the level that a node in this state drives, if it sends no frame
abbrev pub level_of : State → Bool
level_of (DominantFlag kind role sent until) = false
level_of (Receiving start may_start stage) = not (is_own_slot stage)
level_of state = true

-- the level that it drives, if it holds this spelling
abbrev pub level_in : State → Spelling → Bool
level_in (Transmitting start place) spelling = level_at spelling place
level_in state spelling = level_of state

-- a node in this state reads a frame
abbrev pub is_taking : State → Bool
is_taking (Receiving start may_start stage) = true
is_taking state = false

-- a node in this state sends a frame
abbrev pub is_sending : State → Bool
is_sending (Transmitting start place) = true
is_sending state = false

-- a node in this state may begin to send a frame at the next bit
abbrev pub may_start : State → Bool
may_start BusIdle = true
may_start (Receiving start may_begin stage) = may_begin
may_start state = false

-- a node in this state reads on in the stuffed region of a frame, and may not begin to send instead
abbrev pub is_in_region : State → Bool
is_in_region (Receiving start false Region) = true
is_in_region state = false

-- where it stands behind a level of the end of a frame with which the frame goes on, but that of the ACK slot
abbrev pub behind_end : State → Option State
behind_end (Receiving start false (AfterRegion right)) = Some (Receiving start false (Slot right))
behind_end (Receiving start false AfterSlot) = Some (Receiving start false AfterSlot)
behind_end state = None

-- a receiver
abbrev pub is_receiver : Role → Bool
is_receiver Receiver = true
is_receiver Sender = false

-- a node in this state listens to the line as others may: it sends no frame, and has nothing left to do of one that
-- it sent
abbrev pub listens : State → Bool
listens (Transmitting start place) = false
listens (SuspendTransmission ones) = false
listens (BusOffRecovery runs ones) = false
listens (DominantFlag kind role sent until) = is_receiver role
listens (PassiveErrorFlag role owes ones zeros) = is_receiver role
listens (AwaitingDelimiter kind role until first) = is_receiver role
listens (InDelimiter role ones) = is_receiver role
listens (InIntermission role ones) = is_receiver role
listens state = true

-- A node in this state neither reads nor sends a frame, and what it makes of this level is the same in each error
-- state: where no error may be signalled, nor suspend transmission begin.
abbrev pub steps_alike : Bool → State → Bool
steps_alike level (Receiving start may_start stage) = false
steps_alike level (Transmitting start place) = false
steps_alike level (InDelimiter role ones) = level
steps_alike level (InIntermission role ones) = is_receiver role
steps_alike level state = true

-- the number of the SOF of the frame that a node in this state sends
abbrev pub sof_of : State → Option ℕ
sof_of (Transmitting start place) = Some start
sof_of state = None

-- if a node in this state reads a frame, its reader has read this text of it, and reads on
pub record ReaderStands (state : State) (reader : Reader) (text : List Bool) : Type 0 where
  pub stands : is_taking state ≡ true → ReaderStandsAfter reader text
  pub reading : is_taking state ≡ true → IsReading reader

-- what a node in this state makes of a bit at which it samples this level
abbrev pub pair_of : State → Bool → Pair
pair_of state level = record { driven = level_of state; sampled = level }

-- the event, if there is one
abbrev pub listed : Option ErrorEvent → List ErrorEvent
listed None = []
listed (Some event) = event ∷ []

-- Where a bit leaves a node, if its event does not cause bus off: the episode goes on, or it has run its
-- course. A reader has read the text `after` then.
pub data Lands (new : State) (outcome : Outcome) (after : List Bool) (at : ℕ) (before : List ErrorEvent)
    (phase : Phase) (pairs : List Pair) (events : List ErrorEvent) : Type 0 where
  goes_on : Agrees new after at phase pairs events → outcome ≡ Nothing →
      Lands new outcome after at before phase pairs events
  is_over : (next : Phase) → Course at before phase pairs events outcome next →
      ((later : ℕ) → Agrees new after later next [] []) →
      Lands new outcome after at before phase pairs events

-- A node in this state, at this bit and with this error state, that samples this level makes this transition,
-- whatever its episode was so far. It reads no frame yet; a reader that begins then has read SOF.
abbrev pub Goes : State → ℕ → ErrorState → Bool → Transition → Type 0
Goes state now errors level transition =
    (text : List Bool) (at : ℕ) (before : List ErrorEvent) (phase : Phase) (part : List Pair)
    (events : List ErrorEvent) →
    now ≡ at + length part → errors ≡ state_after (before ++ events) → Agrees state text at phase part events →
    Lands transition.state transition.outcome (false ∷ []) at before phase (part ++ pair_of state level ∷ [])
    (events ++ listed transition.event)

-- The same of a node that reads a frame, where its reader gives this answer to the level. If it reads on, so
-- does its reader.
abbrev pub GoesReading : State → ErrorState → Step → Bool → Transition → Type 0
GoesReading state errors step level transition =
    (reader : Reader) (text : List Bool) (at : ℕ) (before : List ErrorEvent) (phase : Phase) (part : List Pair)
    (events : List ErrorEvent) →
    errors ≡ state_after (before ++ events) → Agrees state text at phase part events → Next step reader text level →
    Lands transition.state transition.outcome (text ++ level ∷ []) at before phase (part ++ pair_of state level ∷ [])
    (events ++ listed transition.event)
    × (is_taking transition.state ≡ true → IsReading reader)

-- a transition that signals an error with this flag, which is that of the state before it
pub record Signals (transition : Transition) (flag : Phase) (event : Option ErrorEvent) (kind : ErrorKind) : Type 0
  where
    pub flags : (text : List Bool) (later : ℕ) → Agrees transition.state text later flag [] []
    pub event_is : transition.event ≡ event
    pub outcome_is : transition.outcome ≡ Errored kind

-- A node that sends a frame, with this spelling and this error state, makes this transition at a bit at which it
-- samples this level.
abbrev pub GoesSending : ℕ → ℕ → Spelling → ErrorState → Bool → Transition → Type 0
GoesSending start place spelling errors level transition =
    (text : List Bool) (at : ℕ) (before : List ErrorEvent) (phase : Phase) (part : List Pair)
    (events : List ErrorEvent) →
    errors ≡ state_after (before ++ events) → Agrees (Transmitting start place) text at phase part events →
    Holds phase spelling →
    Lands transition.state transition.outcome (text ++ level ∷ []) at before phase
    (part ++ record { driven = level_at spelling place; sampled = level } ∷ []) (events ++ listed transition.event)

-- where a bit leaves the state and the reader
pub record LandsWith (transition : Transition) (reader : Reader) (at : ℕ) (before : List ErrorEvent) (phase : Phase)
    (pairs : List Pair) (events : List ErrorEvent) : Type 0 where
  pub after : List Bool
  pub lands : Lands transition.state transition.outcome after at before phase pairs events
  pub reads : ReaderStands transition.state reader after

-- A node in this state, with this reader and this spelling, at this bit and with this error state, that samples this
-- level makes this transition, and has this reader then.
abbrev pub Advances : State → Reader → Spelling → ℕ → ErrorState → Bool → Transition → Reader → Type 0
Advances state old spelling now errors level transition new =
    (text : List Bool) (at : ℕ) (before : List ErrorEvent) (phase : Phase) (part : List Pair)
    (events : List ErrorEvent) →
    now ≡ at + length part → errors ≡ state_after (before ++ events) → Agrees state text at phase part events →
    Holds phase spelling → ReaderStands state old text →
    LandsWith transition new at before phase (part ++ record { driven = level_in state spelling; sampled = level } ∷ [])
    (events ++ listed transition.event)

-- the transition to this state that counts nothing and reports nothing
abbrev pub uneventful : State → Transition
uneventful state = record { state = state; event = None; outcome = Nothing }

-- a receiver that need not choose between reading and sending any more goes on in the stuffed region
pub record StaysInRegion (may_begin : Bool) (stage : Stage) (step : Step) : Type 0 where
  pub reads : may_begin ≡ false
  pub inside : stage ≡ Region
  pub goes_on : (step ≡ More) ⊎ (step ≡ StuffBit)

-- A node in this state begins to send at this bit. If it has read SOF it goes on behind it.
abbrev pub Begins : State → ℕ → State → Type 0
Begins (Receiving start may_begin stage) now next = next ≡ Transmitting start 1
Begins state now next = next ≡ Transmitting now 0

-- In this place of a spelling arbitration may be lost: a recessive bit of it stands there, and no stuff bit.
pub record LosesAt (place : ℕ) (spelling : Spelling) : Type 0 where
  pub bit_is : IsBitAt Arbitration spelling place
  pub drives : level_at spelling place ≡ true
  pub elsewhere : place + 9 ≡ length spelling.levels.items → ⊥

-- the effect of an event after the events before it: whether the node is then in bus off
pub data EventEffect (events : List ErrorEvent) : Option ErrorEvent → Bool → Type 0 where
  no_event : EventEffect events None false
  stays_on : (event : ErrorEvent) → AreOn (events ++ event ∷ []) → EventEffect events (Some event) false
  goes_off : (event : ErrorEvent) → AreOff (events ++ event ∷ []) → EventEffect events (Some event) true

-- the counters have counted the event too, if there is one
pub record Counts (old new : Counters) (event : Option ErrorEvent) (off : Bool)
    (events : List ErrorEvent) : Type 0 where
  pub stands : StandsAfter old events → StandsAfter new (events ++ listed event)
  pub effect : StandsAfter old events → EventEffect events event off

-- the state and the outcome after a transition, by whether its event causes bus off
abbrev pub EndsIn : Bool → Transition → State → Outcome → Type 0
EndsIn true transition state outcome = (state ≡ BusOffRecovery 0 0) × (outcome ≡ WentOff)
EndsIn false transition state outcome = (state ≡ transition.state) × (outcome ≡ transition.outcome)

-- the transition was made: the counters have counted its event, and the node is where that leaves it
pub record IsMade (transition : Transition) (old new : Counters) (state : State) (outcome : Outcome) : Type 0 where
  pub off : Bool
  pub counts : (events : List ErrorEvent) → Counts old new transition.event off events
  pub ends_in : EndsIn off transition state outcome

-- What a bit at which a node samples this level makes of its state, its counters and its reader, and what the node
-- reports at it.
pub record Steps (state : State) (counters : Counters) (reader : Reader) (spelling : Spelling) (now : ℕ)
    (level : Bool) (outcome : Outcome) (new_state : State) (new_counters : Counters)
    (new_reader : Reader) : Type 0 where
  pub transition : Transition
  pub errors : ErrorState
  pub shows : (events : List ErrorEvent) → StandsAfter counters events → errors ≡ state_after events
  pub advances : Advances state reader spelling now errors level transition new_reader
  pub is_made : IsMade transition counters new_counters new_state outcome

-- a past and one more bit
abbrev pub with_bit : Past → Pair → Option ErrorEvent → Outcome → Past
with_bit past pair event outcome = record {
  first = past.first;
  pairs = past.pairs ++ pair ∷ [];
  events = past.events ++ listed event;
  begun = past.begun;
  outcomes = past.outcomes ++ noted (past.first + length past.pairs) outcome;
}

-- the state and the spelling stand after this past: whole episodes, and one that they agree with
pub record InState (state : State) (spelling : Spelling) (text : List Bool) (past : Past) : Type 0 where
  pub done : Past
  pub phase : Phase
  pub part : List Pair
  pub counting : List ErrorEvent
  pub whole : Whole done phase
  pub agrees : Agrees state text (done.first + length done.pairs) phase part counting
  pub holds : Holds phase spelling
  pub on : IsOnOutside phase (done.events ++ counting)
  pub past_is : past ≡ with_episode done phase part counting Nothing
