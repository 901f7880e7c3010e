-- The shared receiver: one state and one reader in place of nodes that listen to one line and have come equally far.
use Rattle.std.specs.Prelude.{◌≡◌, ◌⊎◌, ℕ, ◌+◌, ◌||◌, Bool, true, false, None, Some, IfSome, List, [], ◌∷◌}
use Rattle.std.specs.Prelude.{◌++◌}
use Rattle.can_confinement.specs.Counters.{StandsAfter as CountersStandAfter}
use Rattle.can_confinement.specs.declared.confinement.ErrorEvent.{ErrorEvent}
use Rattle.can_confinement.specs.declared.confinement.ErrorEvent.TheVariants.{Received}
use Rattle.can_node.specs.declared.outcome.Outcome.TheVariants.{Nothing, Took}
use Rattle.can_node.specs.declared.state.State.{State}
use Rattle.can_node.specs.declared.state.State.TheVariants.{LastEofBit, Receiving}
use Rattle.can_node.specs.declared.state.Stage.TheVariants.{AfterSlot}
use Rattle.can_node.specs.declared.shared_sample.HeardLevel.{HeardLevel}
use Rattle.can_node.specs.declared.shared_sample.SharedSample.{SharedSample}
use Rattle.can_node.specs.declared.shared_sample.SharedSample.TheVariants.{Takes, Hears}
use Rattle.can_node.specs.declared.taken_frame.TakenFrame.{TakenFrame}
use Rattle.can_frame.specs.Reading.{IsPush}
use Rattle.can_node.specs.declared.state.Transition.{Transition}
use Rattle.can_node.specs.declared.node.Node.{Node}
use Rattle.can_node.specs.declared.shared_receiver.SharedReceiver.{SharedReceiver}
use Rattle.can_confinement.specs.KnownCounts.{Knows}
use Rattle.can_confinement.specs.declared.known_counts.KnownCounts.{KnownCounts}
use Rattle.can_confinement.specs.declared.known_counts.KnownCounts.TheVariants.{Zero}
use Rattle.can_node.specs.Histories.{Past}
use Rattle.can_confinement.specs.declared.confinement.ErrorState.{ErrorState}
use Rattle.can_node.specs.Machine.{GoesReading, is_in_region, is_sending, listens}
use Rattle.can_node.specs.Node.{StandsAfter, IsSample, bit_of, counters_in, driven_by, may_begin}
use Rattle.can_node.specs.PlainBits.{stays_out}

-- a shared receiver sends no frame
abbrev pub IsListening : SharedReceiver → Type 0
IsListening shared_receiver = is_sending shared_receiver.state ≡ false

-- it receives within the stuffed region of a frame or behind the ACK slot, and may not begin to send instead, or
-- continues to wait with a recessive level
abbrev pub may_follow_by : State → Bool
may_follow_by (Receiving start false AfterSlot) = true
may_follow_by state = is_in_region state || stays_out true state

-- the shared receiver taken from this node
abbrev pub shared_receiver_of : Node → SharedReceiver
shared_receiver_of node = record { state = node.state; reader = node.reader }

-- a shared receiver may stand for the node
abbrev pub listens_in : Node → Bool
listens_in node = listens node.state

-- The materialized node: a deferred node with the state and the reader of its shared receiver copied into it, at the
-- bit up to which that has followed the line. Its counters and what it sends are its own.
abbrev pub materialized : Node → SharedReceiver → ℕ → Node
materialized node shared_receiver bit = record {
  state = shared_receiver.state;
  reader = shared_receiver.reader;
  spelling = node.spelling;
  counters = node.counters;
  clock = bit;
}

-- What a bit does to a shared receiver and to each node that it stands for: the node materialized before the bit
-- samples this level and reports nothing, and is then the node materialized after it. `known` holds of its counters.
abbrev pub Follows : KnownCounts → SharedReceiver → ℕ → Bool → SharedReceiver → Type 0
Follows known old bit level new =
    (node : Node) → Knows known (counters_in node) →
    IsSample (materialized node old bit) level Nothing (materialized node new (bit + 1))

-- the node has counted that it received a frame, and is otherwise as it was
pub record Receives (old new : Node) : Type 0 where
  pub state_is : new.state ≡ old.state
  pub reader_is : new.reader ≡ old.reader
  pub spelling_is : new.spelling ≡ old.spelling
  pub clock_is : new.clock ≡ old.clock
  pub counts : (events : List ErrorEvent) → CountersStandAfter old.counters events →
      CountersStandAfter new.counters (events ++ Received ∷ [])

-- What an ACK slot in which all nodes acknowledge a frame does to their shared receiver and to each of them: the node
-- materialized before it samples this level and reports nothing, and is then the node that has counted the frame,
-- materialized after it.
abbrev pub Acknowledges : SharedReceiver → Bool → SharedReceiver → Type 0
Acknowledges old level new = (node counted : Node) (bit : ℕ) → Receives node counted →
    IsSample (materialized node old bit) level Nothing (materialized counted new (bit + 1))

-- The shared receiver matches the node: the node materialized at its own next bit stands after each past after which
-- the node stands, and may begin to send exactly where the node may.
pub record Matches (node : Node) (shared_receiver : SharedReceiver) : Type 0 where
  pub stands : (past : Past) → StandsAfter node past → StandsAfter (materialized node shared_receiver (bit_of node))
      past
  pub begins : may_begin (materialized node shared_receiver (bit_of node)) ≡ may_begin node
  pub listening : IsListening shared_receiver

-- A transition that reports nothing, and changes no counter of a node of whose counters `known` holds: that a frame was
-- received changes no counter that is 0.
pub record IsUnseen (known : KnownCounts) (transition : Transition) : Type 0 where
  pub reports_none : transition.outcome ≡ Nothing
  pub counts_none : (transition.event ≡ None) ⊎ ((known ≡ Zero) × (transition.event ≡ Some Received))
  pub sends_none : is_sending transition.state ≡ false

-- One bit at which each node that the shared receiver stands for drives recessive and may not begin to send, as at most
-- bits of a frame that all receive, of a delimiter and of the intermission: each samples this level, and reports and
-- counts nothing.
pub record ReadsAlong (before : SharedReceiver) (level : Bool) (after : SharedReceiver) : Type 0 where
  pub drives : (node : Node) (bit : ℕ) → driven_by (materialized node before bit) ≡ true
  pub begins : (node : Node) (bit : ℕ) → may_begin (materialized node before bit) ≡ false
  pub follows : (known : KnownCounts) (bit : ℕ) → Follows known before bit level after
  pub listens : IsListening after

-- On an idle bus each node that the shared receiver stands for drives recessive, samples a recessive level at each bit,
-- reports nothing, and stays as it is.
pub record Idles (shared_receiver : SharedReceiver) : Type 0 where
  pub drives : (node : Node) (bit : ℕ) → driven_by (materialized node shared_receiver bit) ≡ true
  pub follows : (known : KnownCounts) (bit : ℕ) → Follows known shared_receiver bit true shared_receiver
  pub listens : IsListening shared_receiver

-- the same with these levels, one after another
abbrev pub ReadsAlongBy : SharedReceiver → List Bool → SharedReceiver → Type 0
ReadsAlongBy before [] after = after ≡ before
ReadsAlongBy before (level ∷ levels) after =
    (between : SharedReceiver) × ReadsAlong before level between × ReadsAlongBy between levels after

-- a node that was deferred up to this bit, at which it received a frame: its next bit is the last one of EOF
abbrev pub taken_up : Node → ℕ → Node
taken_up node bit = record {
  state = LastEofBit;
  reader = node.reader;
  spelling = node.spelling;
  counters = node.counters;
  clock = bit + 1;
}

-- What a bit does to each node that the shared receiver stands for: materialized before it, the node samples this level
-- and receives this frame.
abbrev pub AllTake : SharedReceiver → Bool → TakenFrame → Type 0
AllTake shared_receiver level taken = (node : Node) (bit : ℕ) →
    IsSample (materialized node shared_receiver bit) level (Took taken.start taken.frame) (taken_up node bit)

-- the transition that is kept of a level is the same in each error state
abbrev pub IsHeard : Bool → HeardLevel → Type 0
IsHeard level heard = IfSome heard.transition (λ transition. (errors : ErrorState) (may : Bool) →
    GoesReading (Receiving heard.start may heard.stage) errors heard.step level transition)

-- What this level means to each node that the shared receiver stands for, where these read a frame: the reader of each
-- gives this answer.
pub record AllHear (shared_receiver : SharedReceiver) (level : Bool) (heard : HeardLevel) : Type 0 where
  pub may_begin : Bool
  pub state_is : shared_receiver.state ≡ Receiving heard.start may_begin heard.stage
  pub push : IsPush shared_receiver.reader level heard.step heard.reader
  pub is_heard : IsHeard level heard

-- all nodes receive a frame, or the level means the same to all of them
abbrev pub AllShare : SharedReceiver → Bool → SharedSample → Type 0
AllShare shared_receiver level (Takes taken) = AllTake shared_receiver level taken
AllShare shared_receiver level (Hears heard) = AllHear shared_receiver level heard
