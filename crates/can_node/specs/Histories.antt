-- Histories of a node: whole episodes one after another, and one that goes on.
use Rattle.std.specs.Prelude.{◌≡◌, ℕ, ◌+◌, ◌-◌, true, List, [], ◌∷◌, ◌++◌, length}
use Rattle.can_frame.specs.Frames.{FrameValue}
use Rattle.can_confinement.specs.declared.confinement.ErrorEvent.{ErrorEvent}
use Rattle.can_node.specs.declared.outcome.Outcome.{Outcome}
use Rattle.can_node.specs.declared.outcome.Outcome.TheVariants.{Nothing, Took, Completed}
use Rattle.can_node.specs.declared.outcome.Outcome.TheVariants.{Lost, Errored, WentOff, CameBack}
use Rattle.can_node.specs.Pairs.{Pair}
use Rattle.can_node.specs.Phases.{Phase, wants_start}
use Rattle.can_node.specs.Phases.Phase.{Sync, Send, BusOff}
use Rattle.can_node.specs.Episodes.{Begun, Episode, AreOn}

-- an outcome with its bit, where there is something to report
abbrev pub noted : ℕ → Outcome → List (ℕ × Outcome)
noted at Nothing = []
noted at (Took start frame) = (at, Took start frame) ∷ []
noted at Completed = (at, Completed) ∷ []
noted at Lost = (at, Lost) ∷ []
noted at (Errored kind) = (at, Errored kind) ∷ []
noted at WentOff = (at, WentOff) ∷ []
noted at CameBack = (at, CameBack) ∷ []

-- the frame that the node begins to send with this episode, and the first bit that it drives of it
abbrev pub begins : ℕ → Phase → List (ℕ × FrameValue)
begins at (Send start given frame) = (at, frame) ∷ []
begins at phase = []

-- outside of bus off the counts are not those of bus off
abbrev pub IsOnOutside : Phase → List ErrorEvent → Type 0
IsOnOutside BusOff events = Unit {0}
IsOnOutside phase events = AreOn events

-- what a node has done since its first bit
pub record Past : Type 0 where
  -- the number of its first bit
  pub first : ℕ
  -- what it drove and sampled, bit by bit
  pub pairs : List Pair
  -- what changed its error counts
  pub events : List ErrorEvent
  -- the frames that it began to send, each with the first bit that it drives of it
  pub begun : List (ℕ × FrameValue)
  -- what it reported, each with its bit
  pub outcomes : List (ℕ × Outcome)

-- a node that has just been switched on
abbrev pub no_past : ℕ → Past
no_past first = record { first = first; pairs = []; events = []; begun = []; outcomes = [] }

-- a past and one more episode
abbrev pub with_episode : Past → Phase → List Pair → List ErrorEvent → Outcome → Past
with_episode past phase pairs events outcome = record {
  first = past.first;
  pairs = past.pairs ++ pairs;
  events = past.events ++ events;
  begun = past.begun ++ begins (past.first + length past.pairs) phase;
  outcomes = past.outcomes ++ noted (past.first + length (past.pairs ++ pairs) - 1) outcome;
}

-- whole episodes from the node's first bit on, and the phase after them
pub data Whole : Past → Phase → Type 0 where
  switched_on : (first : ℕ) → Whole (no_past first) Sync
  then : {past : Past} {phase next : Phase} {pairs : List Pair} {events : List ErrorEvent} {outcome : Outcome} →
      Whole past phase → Episode (past.first + length past.pairs) past.events phase pairs events outcome next →
      Whole (with_episode past phase pairs events outcome) next

-- A history: whole episodes, and one that goes on. The error counts are those of its events.
pub record IsHistory (past : Past) : Type 0 where
  pub done : Past
  pub phase : Phase
  pub part : List Pair
  pub counting : List ErrorEvent
  pub whole : Whole done phase
  pub goes_on : Begun phase part counting
  pub on : IsOnOutside phase (done.events ++ counting)
  pub past_is : past ≡ with_episode done phase part counting Nothing

-- the node that has this history is idle, or has just taken a dominant third bit of intermission as SOF and
-- need not wait
abbrev pub WantsStart : {past : Past} → IsHistory past → Type 0
WantsStart h = wants_start h.phase h.part ≡ true
