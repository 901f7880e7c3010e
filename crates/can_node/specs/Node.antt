-- What a node holds after what it has done since its first bit, and what a sampled bit does.
use Rattle.std.specs.Prelude.{◌≡◌, ℕ, ◌+◌, Bool, Option, List, [], ◌∷◌, ◌++◌, length}
use Rattle.can_frame.specs.Frames.{FrameValue}
use Rattle.can_confinement.specs.declared.confinement.ErrorEvent.{ErrorEvent}
use Rattle.can_node.specs.declared.outcome.Outcome.{Outcome}
use Rattle.can_confinement.specs.declared.counters.Counters.{Counters}
use Rattle.can_node.specs.declared.node.Node.{Node}
use Rattle.can_confinement.specs.Counters.{StandsAfter as CountersStandAfter}
use Rattle.can_node.specs.Phases.{wants_start, sent_from}
use Rattle.can_node.specs.Histories.{Past, IsHistory}
use Rattle.can_node.specs.Machine.{InState, ReaderStands, level_in, may_start, sof_of, with_bit}

-- the node stands after this past: it may have done this, and nothing else, since it was switched on
pub record StandsAfter (node : Node) (past : Past) : Type 0 where
  -- what its reader has read, if it reads a frame
  pub text : List Bool
  pub in_state : InState node.state node.spelling text past
  pub reads : ReaderStands node.state node.reader text
  pub clock_is : node.clock ≡ past.first + length past.pairs
  pub counted : CountersStandAfter node.counters past.events

-- the number of its next bit
abbrev pub bit_of : Node → ℕ
bit_of node = node.clock

-- the level that it drives at that bit
abbrev pub driven_by : Node → Bool
driven_by node = level_in node.state node.spelling

-- whether it may begin to send at that bit
abbrev pub may_begin : Node → Bool
may_begin node = may_start node.state

-- the number of the SOF of the frame that it sends
abbrev pub sends_from : Node → Option ℕ
sends_from node = sof_of node.state

-- its error counters
abbrev pub counters_in : Node → Counters
counters_in node = node.counters

-- a past in which the node begins to send this frame at its next bit
abbrev pub with_begin : Past → FrameValue → Past
with_begin past frame = record {
  first = past.first;
  pairs = past.pairs;
  events = past.events;
  begun = past.begun ++ (past.first + length past.pairs, frame) ∷ [];
  outcomes = past.outcomes;
}

-- What a bit does, whatever past the node stands after: it stands after that past and one more bit, at which
-- it drove this level and sampled that one, counted an event or none, and reported this outcome.
pub record IsSample (old : Node) (level : Bool) (outcome : Outcome) (new : Node) : Type 0 where
  pub event : Option ErrorEvent
  pub stands : (past : Past) → StandsAfter old past →
      StandsAfter new (with_bit past (record { driven = driven_by old; sampled = level }) event outcome)

-- this is whether a node with this past wants to start, in the history that the past is
pub record IsWanting (past : Past) (wants : Bool) : Type 0 where
  pub history : IsHistory past
  pub wants_is : wants ≡ wants_start history.phase history.part

-- this is the number of the SOF of the frame that a node with this past sends, in the history that the past is
pub record IsSending (past : Past) (start : Option ℕ) : Type 0 where
  pub history : IsHistory past
  pub start_is : start ≡ sent_from history.phase
