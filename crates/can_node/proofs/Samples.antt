-- One bit of a node: its state and its reader, its counters, and the past that it stands after.
use Rattle.std.proofs.Common.{◌≡◌, ◌⊎◌, inl, inr, ℕ, ◌+◌, Bool, true, false, Option, Some, None, List, [], ◌∷◌, ◌++◌}
use Rattle.std.proofs.Common.{length, refl, sym, ap, subst, arith, ◌∙◌, length-append}
use Rattle.std.proofs.lemmas.List.{append_assoc, append-nil}
use Rattle.std.proofs.lemmas.List.Sums.{fold-append}
use Rattle.can_frame.specs.Answers.{Answers}
use Rattle.can_frame.specs.Reading.{StandsAfter as ReaderStandsAfter, IsReading, IsPush, Leaves}
use Rattle.can_frame.specs.declared.step.Step.TheVariants.{More}
use Rattle.can_frame.proofs.Regions.{completes}
use Rattle.can_frame.proofs.OneAnswer.{one_answer}
use Rattle.can_frame.specs.declared.reader.Reader.{Reader}
use Rattle.can_frame.specs.declared.step.Step.{Step}
use Rattle.can_confinement.specs.declared.confinement.ErrorEvent.{ErrorEvent}
use Rattle.can_confinement.specs.declared.confinement.ErrorEvent.TheVariants.{Recovered}
use Rattle.can_confinement.specs.declared.confinement.ErrorState.{ErrorState}
use Rattle.can_node.specs.declared.outcome.Outcome.{Outcome}
use Rattle.can_node.specs.declared.outcome.Outcome.TheVariants.{Nothing, WentOff}
use Rattle.can_node.specs.declared.state.State.{State}
use Rattle.can_frame.specs.declared.spelling.Spelling.{Spelling}
use Rattle.can_node.specs.declared.state.State.TheVariants.{Integrating, BusOffRecovery}
use Rattle.can_node.specs.declared.state.Transition.{Transition}
use Rattle.can_node.specs.declared.node.Node.{Node}
use Rattle.can_confinement.specs.Confinement.{no_counts, is_off, after_event, counts_after, state_of, state_after}
use Rattle.can_confinement.specs.declared.counters.Counters.{Counters}
use Rattle.can_confinement.specs.Counters.{StandsAfter as CountersStandAfter, counts_of}
use Rattle.can_node.specs.Pairs.{Pair}
use Rattle.can_node.specs.Waits.Broken.{none}
use Rattle.can_node.specs.Phases.{Phase, wants_start, sent_from}
use Rattle.can_node.specs.Phases.Phase.{Sync, Idle, Send, Take, LastBit, ActiveFlag, OverloadFlag, PassiveFlag}
use Rattle.can_node.specs.Phases.Phase.{Delimiter, Intermission, Suspend, BusOff}
use Rattle.can_node.specs.Episodes.{Course, AreOn, AreOff}
use Rattle.can_node.specs.Episodes.Course.{recovered}
use Rattle.can_node.specs.Episodes.Episode.{ends}
use Rattle.can_node.specs.Histories.{Past, no_past, IsHistory, IsOnOutside}
use Rattle.can_node.specs.Histories.Whole.{switched_on}
use Rattle.can_node.specs.Machine.{Agrees, Lands, Advances, EventEffect, Counts, InState, ReaderStands, listed, uneventful}
use Rattle.can_node.specs.Machine.{EndsIn, Steps, level_in, may_start, sof_of, with_bit}
use Rattle.can_node.specs.Machine.Agrees.{in_sync, in_idle, in_take, in_send, in_last, in_active, in_overload}
use Rattle.can_node.specs.Machine.Agrees.{in_passive, in_wait, in_delimiter, in_intermission, in_suspend, in_off}
use Rattle.can_node.specs.Machine.Lands.{goes_on, is_over}
use Rattle.can_node.specs.Machine.EventEffect.{no_event, stays_on, goes_off}
use Rattle.can_node.specs.Node.{StandsAfter, IsSample, IsWanting, IsSending}
use Rattle.can_node.proofs.Starts.{sof_inside}
use Rattle.can_node.proofs.Bits.{agrees_begun, in_state_history, course_uneventful, stands_on, stands_over, outside}
use Rattle.can_node.proofs.Bits.{lands_on, lands_off}

-- either the counts are not those of bus off, or the node is in bus off
pub on_or_off : (phase : Phase) (events : List ErrorEvent) → IsOnOutside phase events → AreOn events ⊎ (phase ≡ BusOff)
on_or_off Sync events on = inl on
on_or_off Idle events on = inl on
on_or_off (Send start given frame) events on = inl on
on_or_off (Take start given may_begin) events on = inl on
on_or_off LastBit events on = inl on
on_or_off (ActiveFlag role) events on = inl on
on_or_off (OverloadFlag role) events on = inl on
on_or_off (PassiveFlag owed role) events on = inl on
on_or_off (Delimiter kind role run) events on = inl on
on_or_off (Intermission role) events on = inl on
on_or_off Suspend events on = inl on
on_or_off BusOff events on = inr refl

-- bus off counts its end, and nothing before
course_off : {at : ℕ} {before : List ErrorEvent} {pairs : List Pair} {events : List ErrorEvent} {outcome : Outcome}
    {next : Phase} →
    Course at before BusOff pairs events outcome next → events ≡ Recovered ∷ []
course_off (recovered text whole) = refl

agrees_off : {state : State} {text : List Bool} {at : ℕ} {pairs : List Pair} {events : List ErrorEvent} →
    Agrees state text at BusOff pairs events → events ≡ []
agrees_off (in_off rest broken below counted b short) = refl

-- a bit that counts nothing
uneventful_bit : (old new : State) (spelling : Spelling) (text after : List Bool) (past : Past) (pair : Pair)
    (outcome : Outcome) (st : InState old spelling text past) →
    Lands new outcome after (st.done.first + length st.done.pairs) st.done.events st.phase (st.part ++ pair ∷ [])
    (st.counting ++ []) →
    InState new spelling after (with_bit past pair None outcome)
uneventful_bit old new spelling text after past pair outcome st (goes_on agrees nothing) =
    let same : st.done.events ++ st.counting ≡ st.done.events ++ (st.counting ++ []) =
    ap (λ es. st.done.events ++ es) (sym (append-nil st.counting)) in
    subst (λ o. InState new spelling after (with_bit past pair None o)) (sym nothing)
    (stands_on old new spelling text after past pair None st agrees (subst (IsOnOutside st.phase) same st.on))
uneventful_bit old new spelling text after past pair outcome st (is_over next course agrees) =
    elim (on_or_off st.phase (st.done.events ++ st.counting) st.on) [
      | inl on ↦
          let same : st.done.events ++ st.counting ≡ st.done.events ++ (st.counting ++ []) =
          ap (λ es. st.done.events ++ es) (sym (append-nil st.counting)) in
          let still : AreOn (st.done.events ++ (st.counting ++ [])) = subst AreOn same on in
          stands_over old new spelling text after past pair None outcome next st (course_uneventful course)
          (ends course still) agrees (outside next _ still)
      | inr off ↦
          let at = st.done.first + length st.done.pairs in
          let nothing : st.counting ≡ [] =
          agrees_off (subst (λ p. Agrees old text at p st.part st.counting) off st.agrees) in
          let one : st.counting ++ [] ≡ Recovered ∷ [] = course_off
          (subst (λ p. Course at st.done.events p (st.part ++ pair ∷ []) (st.counting ++ []) outcome next) off
          course) in
          let no_length : length (st.counting ++ []) ≡ 0 = ap (λ es. length (es ++ [])) nothing in
          absurd (omega (arith, no_length, ap length one))
    ]

so_far : (old : State) (spelling : Spelling) (text : List Bool) (past : Past) (st : InState old spelling text past)
    (event : ErrorEvent) →
    past.events ++ event ∷ [] ≡ (st.done.events ++ st.counting) ++ event ∷ []
so_far old spelling text past st event = ap (λ p. p.events ++ event ∷ []) st.past_is

-- a bit that does not cause bus off
bit_on : (old new : State) (spelling : Spelling) (text after : List Bool) (past : Past) (pair : Pair)
    (event : Option ErrorEvent) (outcome : Outcome) (st : InState old spelling text past) →
    Lands new outcome after (st.done.first + length st.done.pairs) st.done.events st.phase (st.part ++ pair ∷ [])
    (st.counting ++ listed event) →
    EventEffect past.events event false → InState new spelling after (with_bit past pair event outcome)
bit_on old new spelling text after past pair event outcome st lands no_event =
    uneventful_bit old new spelling text after past pair outcome st lands
bit_on old new spelling text after past pair event outcome st lands (stays_on counted on) =
    lands_on old new spelling text after past pair (Some counted) outcome st lands
    (subst AreOn (so_far old spelling text past st counted ∙ append_assoc st.done.events st.counting (counted ∷ [])) on)

-- behind the recovery both counts are 0
recovered_on : (events : List ErrorEvent) → AreOff (events ++ Recovered ∷ []) → ⊥
recovered_on events off =
    let counts : counts_after (events ++ Recovered ∷ []) ≡ no_counts =
    fold-append after_event no_counts events (Recovered ∷ []) in
    let is : true ≡ false = sym off ∙ ap is_off counts in
    cc

-- no event of bus off causes bus off
not_again : (old new : State) (spelling : Spelling) (text after : List Bool) (past : Past) (pair : Pair)
    (event : ErrorEvent) (outcome : Outcome) (st : InState old spelling text past) →
    Lands new outcome after (st.done.first + length st.done.pairs) st.done.events st.phase (st.part ++ pair ∷ [])
    (st.counting ++ event ∷ []) →
    AreOff ((st.done.events ++ st.counting) ++ event ∷ []) → st.phase ≡ BusOff → ⊥
not_again old new spelling text after past pair event outcome st (goes_on agrees nothing) counts off =
    let nothing = agrees_off
    (subst (λ p. Agrees new after (st.done.first + length st.done.pairs) p (st.part ++ pair ∷ [])
    (st.counting ++ event ∷ [])) off agrees) in
    omega (arith, ap length nothing, length-append st.counting (event ∷ []))
not_again old new spelling text after past pair event outcome st (is_over next course agrees) counts off =
    let one = course_off
    (subst (λ p. Course (st.done.first + length st.done.pairs) st.done.events p (st.part ++ pair ∷ [])
    (st.counting ++ event ∷ []) outcome next) off course) in
    recovered_on st.done.events
    (subst AreOff (append_assoc st.done.events st.counting (event ∷ []) ∙ ap (λ es. st.done.events ++ es) one)
    counts)

-- a bit that causes bus off
bit_off : (old new : State) (spelling : Spelling) (text after : List Bool) (past : Past) (pair : Pair)
    (event : Option ErrorEvent) (outcome : Outcome) (st : InState old spelling text past) →
    Lands new outcome after (st.done.first + length st.done.pairs) st.done.events st.phase (st.part ++ pair ∷ [])
    (st.counting ++ listed event) →
    EventEffect past.events event true → InState (BusOffRecovery 0 0) spelling after (with_bit past pair event WentOff)
bit_off old new spelling text after past pair event outcome st lands (goes_off counted off) =
    let counts : AreOff ((st.done.events ++ st.counting) ++ counted ∷ []) =
    subst AreOff (so_far old spelling text past st counted) off in
    elim (on_or_off st.phase (st.done.events ++ st.counting) st.on) [
      | inl on ↦ lands_off old new spelling text after past pair counted outcome st lands on counts
      | inr is ↦ absurd (not_again old new spelling text after past pair counted outcome st lands counts is)
    ]

-- the number of a bit that is still to come is that of the episode and of its bits
clock_here : (node : Node) (past : Past) (h : StandsAfter node past) →
    node.clock ≡ (h.in_state.done.first + length h.in_state.done.pairs) + length h.in_state.part
clock_here node past h =
    let st = h.in_state in
    omega (arith, h.clock_is, ap (λ p. p.first + length p.pairs) st.past_is, length-append st.done.pairs st.part)

-- one bit more
clock_next : (node : Node) (past : Past) (pair : Pair) → StandsAfter node past →
    node.clock + 1 ≡ past.first + length (past.pairs ++ pair ∷ [])
clock_next node past pair h = omega (arith, h.clock_is, length-append past.pairs (pair ∷ []))

-- the error state before a bit
errors_here : (node : Node) (past : Past) (errors : ErrorState) (h : StandsAfter node past) →
    ((events : List ErrorEvent) → CountersStandAfter node.counters events → errors ≡ state_after events) →
    errors ≡ state_after (h.in_state.done.events ++ h.in_state.counting)
errors_here node past errors h shows = shows past.events h.counted ∙ ap (λ p. state_after p.events) h.in_state.past_is

pub samples_on : (old new : Node) (level : Bool) (transition : Transition) (errors : ErrorState) →
    ((events : List ErrorEvent) → CountersStandAfter old.counters events → errors ≡ state_after events) →
    Advances old.state old.reader old.spelling old.clock errors level transition new.reader →
    ((events : List ErrorEvent) → Counts old.counters new.counters transition.event false events) →
    new.state ≡ transition.state → new.spelling ≡ old.spelling → new.clock ≡ old.clock + 1 →
    IsSample old level transition.outcome new
samples_on old new level transition errors shows advances counts state_is same clock_is = record {
  event = transition.event;
  stands = λ past h.
      let st = h.in_state in
      let pair : Pair = record { driven = level_in old.state old.spelling; sampled = level } in
      let left = advances h.text (st.done.first + length st.done.pairs) st.done.events st.phase st.part st.counting
      (clock_here old past h) (errors_here old past errors h shows) st.agrees st.holds h.reads in
      record {
        text = left.after;
        in_state =
            subst (λ s. InState s new.spelling left.after (with_bit past pair transition.event transition.outcome)) (sym
            state_is)
            (subst (λ s. InState transition.state s left.after (with_bit past pair transition.event transition.outcome))
            (sym same)
            (bit_on old.state transition.state old.spelling h.text left.after past pair transition.event
            transition.outcome st left.lands
            ((counts past.events).effect h.counted)));
        reads = subst (λ s. ReaderStands s new.reader left.after) (sym state_is) left.reads;
        clock_is = clock_is ∙ clock_next old past pair h;
        counted = (counts past.events).stands h.counted;
      };
}

pub samples_off : (old new : Node) (level : Bool) (transition : Transition) (errors : ErrorState) →
    ((events : List ErrorEvent) → CountersStandAfter old.counters events → errors ≡ state_after events) →
    Advances old.state old.reader old.spelling old.clock errors level transition new.reader →
    ((events : List ErrorEvent) → Counts old.counters new.counters transition.event true events) →
    new.state ≡ BusOffRecovery 0 0 → new.spelling ≡ old.spelling → new.clock ≡ old.clock + 1 →
    IsSample old level WentOff new
samples_off old new level transition errors shows advances counts state_is same clock_is = record {
  event = transition.event;
  stands = λ past h.
      let st = h.in_state in
      let pair : Pair = record { driven = level_in old.state old.spelling; sampled = level } in
      let left = advances h.text (st.done.first + length st.done.pairs) st.done.events st.phase st.part st.counting
      (clock_here old past h) (errors_here old past errors h shows) st.agrees st.holds h.reads in
      record {
        text = left.after;
        in_state = subst (λ s. InState s new.spelling left.after (with_bit past pair transition.event WentOff)) (sym
            state_is)
            (subst (λ s. InState (BusOffRecovery 0 0) s left.after (with_bit past pair transition.event WentOff)) (sym
            same)
            (bit_off old.state transition.state old.spelling h.text left.after past pair transition.event
            transition.outcome st left.lands
            ((counts past.events).effect h.counted)));
        reads = subst (λ s. ReaderStands s new.reader left.after) (sym state_is)
            (record { stands = λ is. absurd (cc is); reading = λ is. absurd (cc is) });
        clock_is = clock_is ∙ clock_next old past pair h;
        counted = (counts past.events).stands h.counted;
      };
}

samples_by : (off : Bool) (old new : Node) (level : Bool) (outcome : Outcome) (transition : Transition) (errors :
    ErrorState) →
    ((events : List ErrorEvent) → CountersStandAfter old.counters events → errors ≡ state_after events) →
    Advances old.state old.reader old.spelling old.clock errors level transition new.reader →
    ((events : List ErrorEvent) → Counts old.counters new.counters transition.event off events) →
    EndsIn off transition new.state outcome → new.spelling ≡ old.spelling → new.clock ≡ old.clock + 1 →
    IsSample old level outcome new
samples_by true old new level outcome transition errors shows advances counts leaves same clock_is =
    subst (λ o. IsSample old level o new) (sym leaves.1)
    (samples_off old new level transition errors shows advances counts leaves.0 same clock_is)
samples_by false old new level outcome transition errors shows advances counts leaves same clock_is =
    subst (λ o. IsSample old level o new) (sym leaves.1)
    (samples_on old new level transition errors shows advances counts leaves.0 same clock_is)

pub samples : (old new : Node) (level : Bool) (outcome : Outcome) →
    Steps old.state old.counters old.reader old.spelling old.clock level outcome new.state new.counters new.reader →
    new.spelling ≡ old.spelling → new.clock ≡ old.clock + 1 → IsSample old level outcome new
samples old new level outcome h same clock_is = samples_by h.is_made.off old new level outcome h.transition h.errors
    h.shows
    h.advances h.is_made.counts h.is_made.ends_in same clock_is

-- a reader that was pushed SOF reads on
pub sof_reading : (old new : Reader) (step : Step) → ReaderStandsAfter old [] → IsReading old →
    IsPush old false step new → IsReading new
sof_reading old new step stands reading push =
    let next = push.next [] reading stands in
    let more : Answers More [] false = (completes (false ∷ []) (false ∷ []) sof_inside, refl) in
    subst (λ s. Leaves s new) (one_answer step More [] false next.answer more) next.leaves

-- a node that was switched on
pub new_stands : (node : Node) → node.state ≡ Integrating 0 → CountersStandAfter node.counters [] →
    StandsAfter node (no_past node.clock)
new_stands node state_is counted = record {
  text = [];
  in_state = subst (λ s. InState s node.spelling [] (no_past node.clock)) (sym state_is) (record {
    done = no_past node.clock;
    phase = Sync;
    part = [];
    counting = [];
    whole = switched_on node.clock;
    agrees = in_sync {n = 0} [] none (omega arith);
    holds = tt;
    on = refl;
    past_is = refl;
  });
  reads = subst (λ s. ReaderStands s node.reader []) (sym state_is)
      (record { stands = λ is. absurd (cc is); reading = λ is. absurd (cc is) });
  clock_is = omega arith;
  counted = counted;
}

-- whether the node wants to start, in the history that it stands after
wants_by : {state : State} {text : List Bool} {at : ℕ} {phase : Phase} {part : List Pair} {events : List ErrorEvent} →
    Agrees state text at phase part events → may_start state ≡ wants_start phase part
wants_by (in_sync broken b below) = refl
wants_by (in_idle n) = refl
wants_by (in_take given levels may_begin pairs events is on reads may sof place) = may
wants_by (in_send given frame before seen driven expected is bit place) = refl
wants_by in_last = refl
wants_by (in_active levels size below runs few) = refl
wants_by (in_overload levels size below runs few) = refl
wants_by (in_passive owed levels h) = refl
wants_by (in_wait run n is far due) = refl
wants_by (in_delimiter kind run n some below) = refl
wants_by (in_intermission below) = refl
wants_by (in_suspend below) = refl
wants_by (in_off rest broken below counted b short) = refl

pub wanting : (node : Node) (wants : Bool) → wants ≡ may_start node.state → (past : Past) → StandsAfter node past →
    IsWanting past wants
wanting node wants e past h =
    let st = h.in_state in
    record {
      history = record {
        done = st.done;
        phase = st.phase;
        part = st.part;
        counting = st.counting;
        whole = st.whole;
        goes_on = agrees_begun st.agrees;
        on = st.on;
        past_is = st.past_is;
      };
      wants_is = e ∙ wants_by st.agrees;
    }

pub stands_history : (node : Node) (past : Past) → StandsAfter node past → IsHistory past
stands_history node past h = in_state_history node.state node.spelling h.text past h.in_state

-- one event is counted, or none
pub counts_none : (counters : Counters) (event : Option ErrorEvent) → event ≡ None → (events : List ErrorEvent) →
    Counts counters counters event false events
counts_none counters event is events = subst (λ e. Counts counters counters e false events) (sym is)
    (record { stands = λ h. h ∙ ap counts_after (sym (append-nil events)); effect = λ h. no_event })

-- a bit that counts nothing and reports nothing
pub uneventful_steps_now : (state next : State) (counters : Counters) (old new : Reader) (spelling : Spelling) (now : ℕ)
    (level : Bool) →
    Advances state old spelling now (state_of (counts_of counters)) level (uneventful next) new →
    Steps state counters old spelling now level Nothing next counters new
uneventful_steps_now state next counters old new spelling now level advances = record {
  transition = uneventful next;
  errors = state_of (counts_of counters);
  shows = λ events h. ap state_of h;
  advances = advances;
  is_made = record { off = false; counts = counts_none counters None refl; ends_in = (refl, refl) };
}

pub uneventful_steps : (state next : State) (counters : Counters) (old new : Reader) (spelling : Spelling) (now : ℕ)
    (level : Bool) →
    ((errors : ErrorState) → Advances state old spelling now errors level (uneventful next) new) →
    Steps state counters old spelling now level Nothing next counters new
uneventful_steps state next counters old new spelling now level advances =
    uneventful_steps_now state next counters old new spelling now level (advances (state_of (counts_of counters)))

effect_by : (events : List ErrorEvent) (event : ErrorEvent) (off b : Bool) → off ≡ b →
    is_off (counts_after (events ++ event ∷ [])) ≡ b → EventEffect events (Some event) off
effect_by events event off true e is = subst (EventEffect events (Some event)) (sym e) (goes_off event is)
effect_by events event off false e is = subst (EventEffect events (Some event)) (sym e) (stays_on event is)

pub counts_some : (old new : Counters) (given : Option ErrorEvent) (event : ErrorEvent) (off : Bool) →
    given ≡ Some event →
    ((events : List ErrorEvent) → CountersStandAfter old events → CountersStandAfter new (events ++ event ∷ [])) →
    off ≡ is_off (counts_of new) →
    (events : List ErrorEvent) → Counts old new given off events
counts_some old new given event off is applies e events = subst (λ g. Counts old new g off events) (sym is) (record {
  stands = applies events;
  effect = λ h. effect_by events event off (is_off (counts_of new)) e (ap is_off (sym (applies events h)));
})

-- the SOF of the frame that the node sends
sof_by : {state : State} {text : List Bool} {at : ℕ} {phase : Phase} {part : List Pair} {events : List ErrorEvent} →
    Agrees state text at phase part events → sof_of state ≡ sent_from phase
sof_by (in_sync broken b below) = refl
sof_by (in_idle n) = refl
sof_by (in_take given levels may_begin pairs events is on reads may sof place) = refl
sof_by (in_send given frame before seen driven expected is bit place) = refl
sof_by in_last = refl
sof_by (in_active levels size below runs few) = refl
sof_by (in_overload levels size below runs few) = refl
sof_by (in_passive owed levels h) = refl
sof_by (in_wait run n is far due) = refl
sof_by (in_delimiter kind run n some below) = refl
sof_by (in_intermission below) = refl
sof_by (in_suspend below) = refl
sof_by (in_off rest broken below counted b short) = refl

pub sending : (node : Node) (start : Option ℕ) → start ≡ sof_of node.state → (past : Past) → StandsAfter node past →
    IsSending past start
sending node start e past h =
    let st = h.in_state in
    record {
      history = record {
        done = st.done;
        phase = st.phase;
        part = st.part;
        counting = st.counting;
        whole = st.whole;
        goes_on = agrees_begun st.agrees;
        on = st.on;
        past_is = st.past_is;
      };
      start_is = e ∙ sof_by st.agrees;
    }
