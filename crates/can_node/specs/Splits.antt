-- Where an episode stands in a history: whole episodes before it, and the rest of the history behind it.
use Rattle.std.specs.Prelude.{◌≡◌, ℕ, ◌+◌, Bool, List, ◌++◌, length}
use Rattle.can_frame.specs.Frames.{FrameValue}
use Rattle.can_confinement.specs.declared.confinement.ErrorEvent.{ErrorEvent}
use Rattle.can_confinement.specs.declared.confinement.ErrorState.{ErrorState}
use Rattle.can_node.specs.declared.outcome.Outcome.{Outcome}
use Rattle.can_node.specs.declared.outcome.Outcome.TheVariants.{Nothing}
use Rattle.can_confinement.specs.Confinement.{state_after}
use Rattle.can_node.specs.Pairs.{Pair}
use Rattle.can_node.specs.Phases.{Phase}
use Rattle.can_node.specs.Phases.Phase.{Send, Take}
use Rattle.can_node.specs.Episodes.{Begun, Episode}
use Rattle.can_node.specs.Histories.{Past, Whole, with_episode, IsOnOutside}

-- whole episodes from one place of a history to a later one
pub data Onward : Past → Phase → Past → Phase → Type 0 where
  stays : {past : Past} {phase : Phase} → Onward past phase past phase
  goes_on : {past to : Past} {phase next last : Phase} {pairs : List Pair} {events : List ErrorEvent}
      {outcome : Outcome} →
      Episode (past.first + length past.pairs) past.events phase pairs events outcome next →
      Onward (with_episode past phase pairs events outcome) next to last → Onward past phase to last

-- the history goes on so behind these whole episodes
pub record Continues (from : Past) (phase : Phase) (past : Past) : Type 0 where
  pub to : Past
  pub last : Phase
  pub part : List Pair
  pub counting : List ErrorEvent
  pub onward : Onward from phase to last
  pub begun : Begun last part counting
  pub on : IsOnOutside last (to.events ++ counting)
  pub past_is : past ≡ with_episode to last part counting Nothing

-- the history has this whole episode, behind what was done before
pub record HasEpisode (past done : Past) (phase : Phase) (pairs : List Pair) (events : List ErrorEvent)
    (outcome : Outcome) (next : Phase) : Type 0 where
  pub whole : Whole done phase
  pub episode : Episode (done.first + length done.pairs) done.events phase pairs events outcome next
  pub continues : Continues (with_episode done phase pairs events outcome) next past

-- the history ends in this episode, which goes on
pub record HasLast (past done : Past) (phase : Phase) (part : List Pair) (counting : List ErrorEvent) : Type 0 where
  pub whole : Whole done phase
  pub begun : Begun phase part counting
  pub past_is : past ≡ with_episode done phase part counting Nothing

-- An attempt: the node sent this frame, whose SOF has the number `start`, in this error state, and this became of
-- it at the bit `end`.
pub record IsAttempt (past : Past) (start : ℕ) (frame : FrameValue) (state : ErrorState) (end : ℕ)
    (outcome : Outcome) : Type 0 where
  pub given : List Bool
  pub done : Past
  pub pairs : List Pair
  pub events : List ErrorEvent
  pub next : Phase
  pub here : HasEpisode past done (Send start given frame) pairs events outcome next
  pub end_is : done.first + length (done.pairs ++ pairs) ≡ end + 1
  pub state_is : state_after done.events ≡ state

-- A take: the node read a frame whose SOF has this number, and this became of it at the bit `end`. It is `Nothing`
-- where the node begins to send at once, in place of reading.
pub record IsTake (past : Past) (start end : ℕ) (outcome : Outcome) : Type 0 where
  pub given : List Bool
  pub may_begin : Bool
  pub done : Past
  pub pairs : List Pair
  pub events : List ErrorEvent
  pub next : Phase
  pub here : HasEpisode past done (Take start given may_begin) pairs events outcome next
  pub end_is : done.first + length (done.pairs ++ pairs) ≡ end + 1

-- a take that goes on where the history ends
pub record IsOpenTake (past : Past) (start : ℕ) : Type 0 where
  pub given : List Bool
  pub may_begin : Bool
  pub done : Past
  pub part : List Pair
  pub counting : List ErrorEvent
  pub here : HasLast past done (Take start given may_begin) part counting
