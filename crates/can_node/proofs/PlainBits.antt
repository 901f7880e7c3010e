-- Bits at which nodes go on.
use Rattle.std.proofs.Common.{arith, inl, inr, ◌≡◌, ℕ, ◌+◌, ◌<◌, ◌≤◌, ◌||◌, min, Bool, true, false, None, not, refl, ap}
use Rattle.std.proofs.Common.{subst, sym, ◌∙◌}
use Rattle.std.proofs.lemmas.Bool.Decides.{leb_tells}
use Rattle.can_frame.specs.Reading.{MayReadOn, ReadsOn}
use Rattle.can_frame.specs.declared.reader.Reader.{Reader}
use Rattle.can_confinement.specs.Confinement.{state_of}
use Rattle.can_confinement.specs.Counters.{counts_of}
use Rattle.can_confinement.specs.declared.confinement.ErrorState.{ErrorState}
use Rattle.can_confinement.specs.declared.known_counts.KnownCounts.TheVariants.{Any}
use Rattle.can_confinement.specs.declared.confinement.Role.{Role}
use Rattle.can_confinement.specs.declared.counters.Counters.{Counters}
use Rattle.can_node.specs.declared.node.Node.{Node}
use Rattle.can_node.specs.declared.outcome.Outcome.TheVariants.{Nothing}
use Rattle.can_node.specs.declared.state.State.{State}
use Rattle.can_node.specs.declared.state.State.TheVariants.{InDelimiter, DominantFlag, PassiveErrorFlag, BusOffRecovery}
use Rattle.can_node.specs.declared.state.State.TheVariants.{InIntermission}
use Rattle.can_node.specs.declared.state.State.TheVariants.{Transmitting, SuspendTransmission, Receiving}
use Rattle.can_node.specs.declared.state.State.TheVariants.{AwaitingDelimiter}
use Rattle.can_node.specs.declared.state.Transition.{Transition}
use Rattle.can_node.specs.Machine.{Goes, GoesSending, is_in_region, is_sending, is_taking, may_start, uneventful}
use Rattle.can_frame.specs.Sending.{SendsOn}
use Rattle.can_frame.specs.Sending.SendsOn.{acknowledged, echoed}
use Rattle.can_frame.specs.declared.spelling.Spelling.{Spelling}
use Rattle.can_node.specs.PlainBits.{GoesOn, IsPlain, LeavesPlainly, MayGoOn, is_plain, steps_plainly}
use Rattle.can_node.specs.PlainBits.MayGoOn.{is_in, reads, sends}
use Rattle.can_node.proofs.Listens.{region_begins, region_follows}
use Rattle.can_node.proofs.Moves.{off_broken, off_counts, off_longer}
use Rattle.can_node.proofs.SendMoves.{send_acknowledged, send_echoed}
use Rattle.can_node.proofs.PlainSteps.{plain_steps}
use Rattle.can_node.proofs.Samples.{uneventful_steps, samples}
use Rattle.can_node.proofs.Advancing.{sending_advances}
use Rattle.can_node.proofs.Samples.{stands_history}

-- in bus off
pub off_broken_plain : (runs ones : ℕ) (counters : Counters) (now : ℕ) →
    LeavesPlainly (BusOffRecovery runs ones) counters now false (BusOffRecovery runs 0)
off_broken_plain runs ones counters now =
    record { goes = off_broken runs ones now (state_of (counts_of counters)); reads_none = refl }

pub off_longer_plain : (runs ones : ℕ) (counters : Counters) (now : ℕ) → ones < 10 →
    LeavesPlainly (BusOffRecovery runs ones) counters now true (BusOffRecovery runs (ones + 1))
off_longer_plain runs ones counters now few =
    record { goes = off_longer runs ones now (state_of (counts_of counters)) few; reads_none = refl }

pub off_counts_plain : (runs ones : ℕ) (counters : Counters) (now : ℕ) → 10 ≤ ones → runs < 127 →
    LeavesPlainly (BusOffRecovery runs ones) counters now true (BusOffRecovery (runs + 1) 0)
off_counts_plain runs ones counters now whole few =
    record { goes = off_counts runs ones now (state_of (counts_of counters)) whole few; reads_none = refl }

pub not_the_last : (runs ones : ℕ) → is_plain true (BusOffRecovery runs ones) ≡ true → 10 ≤ ones → runs < 127
not_the_last runs ones aside whole = elim (leb_tells ones 9) [
  | inl is ↦ absurd (let few = is.1 in omega (arith, few, whole))
  | inr not ↦ elim (leb_tells runs 126) [
    | inl is ↦ (let few = is.1 in omega (arith, few))
    | inr more ↦ absurd (let no = not.0 in let none = more.0 in cc (no, none, aside))
  ]
]

-- in a passive error flag nothing is owed for this level
pub owes_none : (level : Bool) (role : Role) (owes : Bool) (ones zeros : ℕ) →
    is_plain level (PassiveErrorFlag role owes ones zeros) ≡ true → owes ≡ true → level ≡ false → 5 ≤ zeros
owes_none level role owes ones zeros aside owed dominant =
    absurd (let none : (level || not owes) ≡ false = ap (λ o. level || not o) owed ∙ ap (λ l. l || false) dominant in
    cc (none, aside))

-- elsewhere
transitioning : (level : Bool) (state : State) → ((runs ones : ℕ) → state ≡ BusOffRecovery runs ones → ⊥) →
    ((role : Role) (owes : Bool) (ones zeros : ℕ) → state ≡ PassiveErrorFlag role owes ones zeros → ⊥) →
    is_plain level state ≡ true → steps_plainly level state ≡ true
transitioning level (BusOffRecovery runs ones) not_off not_flag plain = absurd (not_off runs ones refl)
transitioning level (PassiveErrorFlag role owes ones zeros) not_off not_flag plain =
    absurd (not_flag role owes ones zeros refl)
transitioning level state not_off not_flag plain = plain

reads_none : (level : Bool) (state : State) → steps_plainly level state ≡ true → (is_taking state ≡ false)
    × (is_sending state ≡ false)
reads_none level (DominantFlag kind role sent until) is = (refl, refl)
reads_none level (AwaitingDelimiter kind role until first) is = (refl, refl)
reads_none level (InDelimiter role ones) is = (refl, refl)
reads_none level (InIntermission role ones) is = (refl, refl)
reads_none level (SuspendTransmission ones) is = (refl, refl)
reads_none level state is = absurd (cc is)

plain_is : (transition : Transition) → IsPlain transition → transition ≡ uneventful transition.state
plain_is transition plain = ap (λ e. record { state = transition.state; event = e; outcome = transition.outcome })
    plain.event_is
    ∙ ap (λ o. record { state = transition.state; event = None; outcome = o }) plain.outcome_is

pub transition_leaves : (state : State) (counters : Counters) (now : ℕ) (level : Bool) (errors : ErrorState) (transition
    : Transition) →
    ((runs ones : ℕ) → state ≡ BusOffRecovery runs ones → ⊥) →
    ((role : Role) (owes : Bool) (ones zeros : ℕ) → state ≡ PassiveErrorFlag role owes ones zeros → ⊥) →
    is_plain level state ≡ true → errors ≡ state_of (counts_of counters) →
    (is_taking state ≡ false → is_sending state ≡ false → Goes state now errors level transition) →
    (steps_plainly level state ≡ true → IsPlain transition) →
    LeavesPlainly state counters now level transition.state
transition_leaves state counters now level errors transition not_off not_flag is shown goes plain =
    let transitions = transitioning level state not_off not_flag is in
    let none = reads_none level state transitions in
    let made = plain transitions in
    record {
      goes = subst (λ e. Goes state now e level (uneventful transition.state)) shown
          (subst (Goes state now errors level) (plain_is transition made) (goes none.0 none.1));
      reads_none = made.reads_none;
    }

-- what is so of such a state
record IsOut (state : State) : Type 0 where
  begins_none : may_start state ≡ false
  sends_none : is_sending state ≡ false

is_out : (level : Bool) (state : State) → is_plain level state ≡ true → IsOut state
is_out level (BusOffRecovery runs ones) is = record { begins_none = refl; sends_none = refl }
is_out level (PassiveErrorFlag role owes ones zeros) is = record { begins_none = refl; sends_none = refl }
is_out level (DominantFlag kind role sent until) is = record { begins_none = refl; sends_none = refl }
is_out level (AwaitingDelimiter kind role until first) is = record { begins_none = refl; sends_none = refl }
is_out level (InDelimiter role ones) is = record { begins_none = refl; sends_none = refl }
is_out level (InIntermission role ones) is = record { begins_none = refl; sends_none = refl }
is_out level (SuspendTransmission ones) is = record { begins_none = refl; sends_none = refl }
is_out level state is = absurd (cc is)

-- the node behind a bit at which nothing but its state changes
abbrev pub behind : Node → State → Node
behind node state = record {
  state = state;
  reader = node.reader;
  spelling = node.spelling;
  counters = node.counters;
  clock = node.clock + 1;
}

pub goes_plainly : (node : Node) (level : Bool) (next : State) → is_plain level node.state ≡ true →
    LeavesPlainly node.state node.counters node.clock level next → GoesOn node level (behind node next)
goes_plainly node level next plain leaves =
    let out = is_out level node.state plain in
    record {
      begins_none = out.begins_none;
      samples = samples node (behind node next) level Nothing
          (plain_steps node.state next node.counters node.reader node.spelling node.clock level out.sends_none leaves)
          refl refl;
      history = stands_history (behind node next);
      bit_is = refl;
      counts_none = refl;
    }

-- or it reads on
pub goes_reading : (node : Node) (level : Bool) (reader : Reader) → is_in_region node.state ≡ true →
    ReadsOn node.reader level reader →
    GoesOn node level (record {
      state = node.state;
      reader = reader;
      spelling = node.spelling;
      counters = node.counters;
      clock = node.clock + 1;
    })
goes_reading node level reader inside on =
    let behind : Node = record {
      state = node.state;
      reader = reader;
      spelling = node.spelling;
      counters = node.counters;
      clock = node.clock + 1;
    } in
    record {
      begins_none = region_begins node.state inside;
      samples = region_follows Any node.state node.reader reader node.clock level inside on node tt;
      history = stands_history behind;
      bit_is = refl;
      counts_none = refl;
    }

-- or it sends on
sends_next : (start place next : ℕ) (spelling : Spelling) (errors : ErrorState) (level : Bool) →
    SendsOn level spelling place → next ≡ min (place + 1) 255 →
    GoesSending start place spelling errors level (uneventful (Transmitting start next))
sends_next start place next spelling errors level (acknowledged slot dominant) next_is =
    rw dominant (send_acknowledged start place next spelling errors slot next_is)
sends_next start place next spelling errors level (echoed slot last echo) next_is =
    send_echoed start place next spelling errors level slot echo last next_is

pub goes_sending : (node : Node) (start place next : ℕ) (level : Bool) → node.state ≡ Transmitting start place →
    SendsOn level node.spelling place →
    next ≡ min (place + 1) 255 → GoesOn node level (behind node (Transmitting start next))
goes_sending node start place next level here on next_is = record {
  begins_none = ap may_start here;
  samples = samples node (behind node (Transmitting start next)) level Nothing
      (rw here
      (uneventful_steps (Transmitting start place) (Transmitting start next) node.counters node.reader node.reader
      node.spelling
      node.clock level
      (λ errors. sending_advances start place node.reader node.reader node.spelling node.clock errors level
      (uneventful (Transmitting start next))
      (sends_next start place next node.spelling errors level on next_is) (λ is. absurd (cc is))
      (λ is. absurd (cc is))))) refl refl;
  history = stands_history (behind node (Transmitting start next));
  bit_is = refl;
  counts_none = refl;
}

-- its state determines which of these it is
pub in_plain : (node : Node) (level : Bool) → ((start place : ℕ) → node.state ≡ Transmitting start place → ⊥) →
    is_in_region node.state ≡ false → MayGoOn level node → is_plain level node.state ≡ true
in_plain node level not outside (is_in is) = is
in_plain node level not outside (reads inside may) = absurd (cc (inside, outside))
in_plain node level not outside (sends start place here on) = absurd (not start place here)

not_plain : (level : Bool) (state : State) → is_in_region state ≡ true → is_plain level state ≡ true → ⊥
not_plain level (Receiving start may stage) inside is = cc is
not_plain level (Transmitting start place) inside is = cc is
not_plain level state inside is = cc inside

pub in_region : (node : Node) (level : Bool) → is_in_region node.state ≡ true → MayGoOn level node →
    MayReadOn level node.reader
in_region node level inside (is_in is) = absurd (not_plain level node.state inside is)
in_region node level inside (reads here may) = may
in_region node level inside (sends start place here on) =
    absurd (let outside = ap is_in_region here in cc (inside, outside))

pub in_sending : (node : Node) (level : Bool) (start place : ℕ) → node.state ≡ Transmitting start place →
    MayGoOn level node → SendsOn level node.spelling place
in_sending node level start place here (is_in is) = absurd (let not = ap (is_plain level) here in cc (is, not))
in_sending node level start place here (reads inside may) =
    absurd (let outside = ap is_in_region here in cc (inside, outside))
in_sending node level start place here (sends s p there on) =
    let same : Transmitting s p ≡ Transmitting start place = sym there ∙ here in
    let is : p ≡ place = cc same in
    subst (SendsOn level node.spelling) is on
