-- Nodes that were left alone at the ACK slot of a frame that they acknowledge.
use Rattle.std.proofs.Common.{◌≡◌, inl, inr, ℕ, ◌+◌, cond, Bool, true, false, Some, List, [], ◌∷◌, ◌++◌, length, refl}
use Rattle.std.proofs.Common.{sym, ap}
use Rattle.std.proofs.Common.{subst, ◌∙◌}
use Rattle.std.proofs.lemmas.List.Sums.{fold-append}
use Rattle.can_frame.specs.Reading.{IsPush}
use Rattle.can_frame.specs.declared.reader.Reader.{Reader}
use Rattle.can_frame.specs.declared.step.Step.TheVariants.{Tail}
use Rattle.can_confinement.specs.Confinement.{Counts as ErrorCounts, no_counts, is_off, after_event, counts_after}
use Rattle.can_confinement.specs.Confinement.{effect, state_of}
use Rattle.can_confinement.specs.Counters.{StandsAfter as CountersStandAfter, counts_of}
use Rattle.can_confinement.specs.declared.confinement.ErrorEvent.{ErrorEvent}
use Rattle.can_confinement.specs.declared.confinement.ErrorEvent.TheVariants.{Received}
use Rattle.can_confinement.specs.declared.counters.Counters.{Counters}
use Rattle.can_node.specs.declared.shared_receiver.SharedReceiver.{SharedReceiver}
use Rattle.can_node.specs.declared.node.Node.{Node}
use Rattle.can_node.specs.declared.outcome.Outcome.TheVariants.{Nothing}
use Rattle.can_node.specs.declared.state.Stage.{Stage}
use Rattle.can_node.specs.declared.state.Stage.TheVariants.{AfterSlot, Slot}
use Rattle.can_node.specs.declared.state.State.{State}
use Rattle.can_node.specs.declared.state.State.TheVariants.{Receiving}
use Rattle.can_node.specs.declared.state.Transition.{Transition}
use Rattle.can_node.specs.Histories.{Past}
use Rattle.can_node.specs.SharedReceiver.{Acknowledges, materialized}
use Rattle.can_node.specs.Machine.{Agrees, Counts, is_own_slot, is_taking}
use Rattle.can_node.specs.Machine.Agrees.{in_off}
use Rattle.can_node.specs.Machine.EventEffect.{stays_on}
use Rattle.can_node.specs.Node.{IsSample, StandsAfter}
use Rattle.can_node.specs.Pairs.{Pair}
use Rattle.can_node.specs.Phases.Phase.{BusOff}
use Rattle.can_node.proofs.Advancing.{reading_advances}
use Rattle.can_node.proofs.Samples.{on_or_off, samples}
use Rattle.can_node.proofs.TakeMoves.{tail_own_slot}

-- a received frame causes bus off of no node
still_on : (counts : ErrorCounts) → is_off counts ≡ false → is_off (after_event counts Received) ≡ false
still_on counts on = ap (λ b. is_off (cond b counts (effect counts Received))) on ∙ on

counts_received : (old new : Counters) → is_off (counts_of old) ≡ false →
    ((events : List ErrorEvent) → CountersStandAfter old events →
    CountersStandAfter new (events ++ Received ∷ [])) → (events : List ErrorEvent) →
    Counts old new (Some Received) false events
counts_received old new on counts events = record {
  stands = counts events;
  effect = λ h. stays_on Received
      (ap is_off (fold-append after_event no_counts events (Received ∷ []))
      ∙ ap (λ c. is_off (after_event c Received)) (sym h) ∙ still_on (counts_of old) on);
}

-- a node that reads a frame is not in bus off
not_off : {state : State} {text : List Bool} {at : ℕ} {pairs : List Pair} {events : List ErrorEvent} →
    Agrees state text at BusOff pairs events → is_taking state ≡ false
not_off (in_off rest broken below counted b short) = refl

reads_on_bus : (node : Node) (past : Past) → is_taking node.state ≡ true → StandsAfter node past →
    is_off (counts_of node.counters) ≡ false
reads_on_bus node past taking h =
    let st = h.in_state in
    elim (on_or_off st.phase (st.done.events ++ st.counting) st.on) [
      | inl on ↦ ap is_off h.counted ∙ ap (λ (p : Past). is_off (counts_after p.events)) st.past_is ∙ on
      | inr off ↦ absurd (let none = not_off (subst
          (λ p. Agrees node.state h.text (st.done.first + length st.done.pairs) p st.part st.counting) off st.agrees) in
          cc (taking, none))
    ]

-- the ACK slot of a frame whose CRC is right
own_slot : (stage : Stage) → is_own_slot stage ≡ true → stage ≡ Slot true
own_slot (Slot right) own = ap Slot own
own_slot stage own = absurd (cc own)

pub acknowledges : (shared_receiver : SharedReceiver) (start : ℕ) (may : Bool) (stage : Stage) (new : Reader) (level :
    Bool) →
    shared_receiver.state ≡ Receiving start may stage → is_own_slot stage ≡ true → IsPush shared_receiver.reader level
    Tail new →
    Acknowledges shared_receiver level (record { state = Receiving start false AfterSlot; reader = new })
acknowledges shared_receiver start may stage new level here own push node counted bit h =
    by (is_off (counts_of node.counters)) refl
  where
    is : shared_receiver.state ≡ Receiving start may (Slot true)
    is = here ∙ ap (Receiving start may) (own_slot stage own)

    transition : Transition
    transition = record { state = Receiving start false AfterSlot; event = Some Received; outcome = Nothing }

    before : Node
    before = materialized node shared_receiver bit

    behind : Node
    behind = materialized counted (record { state = Receiving start false AfterSlot; reader = new }) (bit + 1)

    by : (off : Bool) → is_off (counts_of node.counters) ≡ off → IsSample before level Nothing behind
    by false on = samples before behind level Nothing (rw is (record {
      transition = transition;
      errors = state_of (counts_of node.counters);
      shows = λ events s. ap state_of s;
      advances = reading_advances start may (Slot true) shared_receiver.reader new node.spelling bit
          (state_of (counts_of node.counters)) level Tail transition push
          (λ m. tail_own_slot start m (state_of (counts_of node.counters)) level);
      is_made = record {
        off = false;
        counts = counts_received node.counters counted.counters on h.counts;
        ends_in = (refl, refl);
      };
    })) h.spelling_is refl
    by true off = record {
      event = Some Received;
      stands = λ past stood. absurd (let on = reads_on_bus before past (ap is_taking is) stood in cc (on, off));
    }
