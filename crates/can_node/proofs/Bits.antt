-- One more bit of a history: what a turn makes of the past that a state stands after.
use Rattle.std.proofs.Common.{◌≡◌, ℕ, ◌+◌, ◌-◌, Bool, true, false, Option, Some, List, [], ◌∷◌, ◌++◌, length, refl, sym}
use Rattle.std.proofs.Common.{ap, subst, arith, ◌∙◌, length-append}
use Rattle.std.proofs.lemmas.List.{append_assoc, append-nil}
use Rattle.can_frame.specs.Frames.{FrameValue}
use Rattle.can_confinement.specs.declared.confinement.ErrorEvent.{ErrorEvent}
use Rattle.can_confinement.specs.declared.confinement.Role.{Role}
use Rattle.can_confinement.specs.declared.confinement.Role.TheVariants.{Receiver}
use Rattle.can_confinement.specs.declared.confinement.ErrorState.{ErrorState}
use Rattle.can_confinement.specs.declared.confinement.ErrorState.TheVariants.{Active, Passive, Off}
use Rattle.can_node.specs.declared.outcome.Outcome.{Outcome}
use Rattle.can_node.specs.declared.outcome.Outcome.TheVariants.{Nothing, WentOff}
use Rattle.can_node.specs.declared.state.State.{State}
use Rattle.can_frame.specs.declared.spelling.Spelling.{Spelling}
use Rattle.can_node.specs.declared.state.State.TheVariants.{BusOffRecovery}
use Rattle.can_node.specs.Pairs.{Pair}
use Rattle.can_node.specs.Takes.{IsReadOn}
use Rattle.can_node.specs.Phases.{Phase, flag_of}
use Rattle.can_node.specs.Phases.Phase.{Sync, Idle, Send, Take, LastBit, ActiveFlag, OverloadFlag, PassiveFlag}
use Rattle.can_node.specs.Phases.Phase.{Delimiter, Intermission, Suspend, BusOff}
use Rattle.can_node.specs.Episodes.{Begun, Course, Episode, AreOn, AreOff}
use Rattle.can_node.specs.Episodes.Course.{synced, resumed, completed, lost, stuff_lost, unacknowledged, bit_differs}
use Rattle.can_node.specs.Episodes.Course.{took, spoiled, recessive_last_bit, late_overload, flagged, overload_flagged}
use Rattle.can_node.specs.Episodes.Course.{passive_flagged, delimited, truncated, overloaded, intermission_ended, intermission_suspended}
use Rattle.can_node.specs.Episodes.Course.{pressed, hurried, waited, overtaken, recovered}
use Rattle.can_node.specs.Episodes.Begun.{syncing, idling, sending, taking, last_bit, active_flag, overload_flag}
use Rattle.can_node.specs.Episodes.Begun.{passive_flag, delimiting, in_pause, suspended, recovering}
use Rattle.can_node.specs.Episodes.Episode.{ends, off_within, off_at_end}
use Rattle.can_node.specs.Histories.{Past, with_episode, IsOnOutside, IsHistory, noted, begins}
use Rattle.can_node.specs.Histories.Whole.{then}
use Rattle.can_node.specs.Machine.{Agrees, Holds, Lands, InState, with_bit, listed, is_sending}
use Rattle.can_node.specs.Machine.Agrees.{in_sync, in_idle, in_take, in_send, in_last, in_active, in_overload}
use Rattle.can_node.specs.Machine.Agrees.{in_passive, in_wait, in_delimiter, in_intermission, in_suspend, in_off}
use Rattle.can_node.specs.Machine.Lands.{goes_on, is_over}
use Rattle.can_node.proofs.ErrorMoves.{off_begins}

-- an episode that a state agrees with goes on
pub agrees_begun : {state : State} {text : List Bool} {at : ℕ} {phase : Phase} {part : List Pair}
    {events : List ErrorEvent} →
    Agrees state text at phase part events → Begun phase part events
agrees_begun (in_sync broken b below) = syncing broken _ b below
agrees_begun (in_idle n) = idling n
agrees_begun (in_take given levels may_begin pairs events is read_on reads may sof place) =
    taking _ given may_begin levels pairs events (subst IsReadOn is read_on) reads
agrees_begun (in_send given frame before seen driven expected is bit place) =
    sending _ given frame before seen driven expected bit
agrees_begun in_last = last_bit
agrees_begun (in_active levels size below runs few) = active_flag _ levels (omega (arith, size, below))
agrees_begun (in_overload levels size below runs few) = overload_flag _ levels (omega (arith, size, below))
agrees_begun (in_passive owed levels h) = passive_flag owed _ levels h.without_six
agrees_begun (in_wait {kind = kind} {role = role} run n is far due) =
    rw append-nil at (delimiting kind role run n 0 (omega arith))
agrees_begun (in_delimiter kind run n some below) = delimiting kind _ run n _ below
agrees_begun (in_intermission below) = in_pause _ _ below
agrees_begun (in_suspend below) = suspended _ below
agrees_begun (in_off rest broken below counted b short) = recovering _ rest broken _ below counted b short

-- a phase in which a frame is sent
pub is_send : Phase → Bool
is_send (Send start given frame) = true
is_send phase = false

-- no frame is begun with such a phase, and it asks for no spelling
pub record IsUneventful (phase : Phase) : Type 0 where
  pub no_send : is_send phase ≡ false
  pub begins_nothing : (n : ℕ) → begins n phase ≡ []
  pub holds : (spelling : Spelling) → Holds phase spelling

uneventful : (phase : Phase) → is_send phase ≡ false → IsUneventful phase
unfolding is_send
uneventful (Send start given frame) no_send = absurd (cc no_send)
uneventful Sync no_send = record { no_send = refl; begins_nothing = λ n. refl; holds = λ s. tt }
uneventful Idle no_send = record { no_send = refl; begins_nothing = λ n. refl; holds = λ s. tt }
uneventful (Take start given may_begin) no_send = record { no_send = refl; begins_nothing = λ n. refl; holds = λ s. tt }
uneventful LastBit no_send = record { no_send = refl; begins_nothing = λ n. refl; holds = λ s. tt }
uneventful (ActiveFlag role) no_send = record { no_send = refl; begins_nothing = λ n. refl; holds = λ s. tt }
uneventful (OverloadFlag role) no_send = record { no_send = refl; begins_nothing = λ n. refl; holds = λ s. tt }
uneventful (PassiveFlag owed role) no_send = record { no_send = refl; begins_nothing = λ n. refl; holds = λ s. tt }
uneventful (Delimiter kind role run) no_send = record { no_send = refl; begins_nothing = λ n. refl; holds = λ s. tt }
uneventful (Intermission role) no_send = record { no_send = refl; begins_nothing = λ n. refl; holds = λ s. tt }
uneventful Suspend no_send = record { no_send = refl; begins_nothing = λ n. refl; holds = λ s. tt }
uneventful BusOff no_send = record { no_send = refl; begins_nothing = λ n. refl; holds = λ s. tt }

uneventful_flag : (e : ErrorState) (owed : List ErrorEvent) (role : Role) → IsUneventful (flag_of e owed role)
unfolding is_send
uneventful_flag Active owed role = uneventful (ActiveFlag role) refl
uneventful_flag Passive owed role = uneventful (PassiveFlag owed role) refl
uneventful_flag Off owed role = uneventful BusOff refl

-- after a course that a bit ends, the node does not send
pub course_uneventful : {at : ℕ} {before : List ErrorEvent} {phase next : Phase} {pairs : List Pair}
    {events : List ErrorEvent} {outcome : Outcome} →
    Course at before phase pairs events outcome next → IsUneventful next
unfolding is_send
course_uneventful (synced broken b) = uneventful _ refl
course_uneventful (resumed n) = uneventful _ refl
course_uneventful (completed start given frame driven sampled send) = uneventful _ refl
course_uneventful (lost start given frame driven seen bit place) = uneventful _ refl
course_uneventful (stuff_lost start given frame driven seen bit place) = uneventful_flag _ _ _
course_uneventful (unacknowledged start given frame driven seen bit) = uneventful_flag _ _ _
course_uneventful (bit_differs start given frame driven seen level bit no_loss no_stuff) = uneventful_flag _ _ _
course_uneventful (took start given may_begin levels pairs events frame reads front) = uneventful _ refl
course_uneventful (spoiled start given may_begin levels level pairs events kind reads fault) = uneventful_flag _ _ _
course_uneventful recessive_last_bit = uneventful _ refl
course_uneventful late_overload = uneventful _ refl
course_uneventful (flagged role levels size) = uneventful _ refl
course_uneventful (overload_flagged role levels size) = uneventful _ refl
course_uneventful (passive_flagged owed role levels level before six) = uneventful _ refl
course_uneventful (delimited kind role run n) = uneventful _ refl
course_uneventful (truncated kind role run n k some below) = uneventful_flag _ _ _
course_uneventful (overloaded kind role run n) = uneventful _ refl
course_uneventful (intermission_ended role goes) = uneventful _ refl
course_uneventful (intermission_suspended role waits) = uneventful _ refl
course_uneventful (pressed role k below) = uneventful _ refl
course_uneventful (hurried role) = uneventful _ refl
course_uneventful waited = uneventful _ refl
course_uneventful (overtaken k below) = uneventful _ refl
course_uneventful (recovered text whole) = uneventful _ refl

-- a node sends a frame just in the episode of a send
send_phase : {state : State} {text : List Bool} {at : ℕ} {phase : Phase} {part : List Pair} {events : List ErrorEvent} →
    Agrees state text at phase part events → is_sending state ≡ is_send phase
unfolding is_send
send_phase (in_sync broken b below) = refl
send_phase (in_idle n) = refl
send_phase (in_take given levels may_begin pairs events is on reads may sof place) = refl
send_phase (in_send given frame before seen driven expected is bit place) = refl
send_phase in_last = refl
send_phase (in_active levels size below runs few) = refl
send_phase (in_overload levels size below runs few) = refl
send_phase (in_passive owed levels h) = refl
send_phase (in_wait run n is far due) = refl
send_phase (in_delimiter kind run n some below) = refl
send_phase (in_intermission below) = refl
send_phase (in_suspend below) = refl
send_phase (in_off rest broken below counted b short) = refl

-- a bit does not begin to send
pub no_send_behind : (old new : State) (text after : List Bool) (at : ℕ) (before : List ErrorEvent) (phase : Phase)
    (part more : List Pair) (events counted : List ErrorEvent) (outcome : Outcome) →
    is_sending old ≡ false → Agrees old text at phase part events →
    Lands new outcome after at before phase more counted → is_sending new ≡ false
no_send_behind old new text after at before phase part more events counted outcome none agrees (goes_on goes nothing) =
    send_phase goes ∙ sym (send_phase agrees) ∙ none
no_send_behind old new text after at before phase part more events counted outcome none agrees
    (is_over next course begins) = send_phase (begins 0) ∙ (course_uneventful course).no_send

-- what a state stands after is a history
pub in_state_history : (state : State) (spelling : Spelling) (text : List Bool) (past : Past) →
    InState state spelling text past → IsHistory past
in_state_history state spelling text past st = record {
  done = st.done;
  phase = st.phase;
  part = st.part;
  counting = st.counting;
  whole = st.whole;
  goes_on = agrees_begun st.agrees;
  on = st.on;
  past_is = st.past_is;
}

abbrev past_of : ℕ → List Pair → List ErrorEvent → List (ℕ × FrameValue) → List (ℕ × Outcome) → Past
past_of first pairs events begun outcomes =
    record { first = first; pairs = pairs; events = events; begun = begun; outcomes = outcomes }

pub same_past : (first : ℕ) (p q : List Pair) (d e : List ErrorEvent) (b c : List (ℕ × FrameValue))
    (o r : List (ℕ × Outcome)) →
    p ≡ q → d ≡ e → b ≡ c → o ≡ r → past_of first p d b o ≡ past_of first q e c r
same_past first p q d e b c o r pq de bc or =
    ap (λ x. past_of first x d b o) pq ∙ ap (λ x. past_of first q x b o) de ∙ ap (λ x. past_of first q e x o) bc
    ∙ ap (λ x. past_of first q e c x) or

-- the episode goes on with this bit
pub stands_on : (old new : State) (spelling : Spelling) (text after : List Bool) (past : Past) (pair : Pair)
    (event : Option ErrorEvent) (st : InState old spelling text past) →
    Agrees new after (st.done.first + length st.done.pairs) st.phase (st.part ++ pair ∷ [])
    (st.counting ++ listed event) →
    IsOnOutside st.phase (st.done.events ++ (st.counting ++ listed event)) →
    InState new spelling after (with_bit past pair event Nothing)
stands_on old new spelling text after past pair event st agrees on = record {
  done = st.done;
  phase = st.phase;
  part = st.part ++ pair ∷ [];
  counting = st.counting ++ listed event;
  whole = st.whole;
  agrees = agrees;
  holds = st.holds;
  on = on;
  past_is = ap (λ p. with_bit p pair event Nothing) st.past_is ∙
      same_past st.done.first _ _ _ _ _ _ _ _ (append_assoc st.done.pairs st.part (pair ∷ []))
      (append_assoc st.done.events st.counting (listed event)) refl (append-nil _);
}

-- outside of bus off, and so in any phase
pub outside : (phase : Phase) (events : List ErrorEvent) → AreOn events → IsOnOutside phase events
outside Sync events on = on
outside Idle events on = on
outside (Send start given frame) events on = on
outside (Take start given may_begin) events on = on
outside LastBit events on = on
outside (ActiveFlag role) events on = on
outside (OverloadFlag role) events on = on
outside (PassiveFlag owed role) events on = on
outside (Delimiter kind role run) events on = on
outside (Intermission role) events on = on
outside Suspend events on = on
outside BusOff events on = tt

-- the episode is over with this bit
pub stands_over : (old new : State) (spelling : Spelling) (text after : List Bool) (past : Past) (pair : Pair)
    (event : Option ErrorEvent) (outcome : Outcome) (next : Phase) (st : InState old spelling text past) →
    IsUneventful next →
    Episode (st.done.first + length st.done.pairs) st.done.events st.phase (st.part ++ pair ∷ [])
    (st.counting ++ listed event) outcome next →
    ((later : ℕ) → Agrees new after later next [] []) →
    IsOnOutside next (st.done.events ++ (st.counting ++ listed event)) →
    InState new spelling after (with_bit past pair event outcome)
stands_over old new spelling text after past pair event outcome next st silent episode agrees on =
    let done : Past = with_episode st.done st.phase (st.part ++ pair ∷ []) (st.counting ++ listed event) outcome in
    let here : st.done.first + length (st.done.pairs ++ (st.part ++ pair ∷ [])) - 1
    ≡ st.done.first + length (st.done.pairs ++ st.part) =
    omega (arith, length-append {A = Pair}) in
    record {
      done = done;
      phase = next;
      part = [];
      counting = [];
      whole = then st.whole episode;
      agrees = agrees _;
      holds = silent.holds spelling;
      on = rw append-nil on;
      past_is = ap (λ p. with_bit p pair event outcome) st.past_is ∙
          same_past st.done.first _ _ _ _ _ _ _ _ (append_assoc st.done.pairs st.part (pair ∷ []) ∙ sym (append-nil _))
          (append_assoc st.done.events st.counting (listed event) ∙ sym (append-nil _))
          (sym (ap (λ b. (st.done.begun ++ begins (st.done.first + length st.done.pairs) st.phase) ++ b)
          (silent.begins_nothing _) ∙ append-nil _))
          (ap (λ o. o ++ noted (st.done.first + length (st.done.pairs ++ st.part)) outcome)
          (append-nil st.done.outcomes)
          ∙ ap (λ n. st.done.outcomes ++ noted n outcome) (sym here) ∙ sym (append-nil _));
    }

-- a turn, where the node is not in bus off behind it
pub lands_on : (old new : State) (spelling : Spelling) (text after : List Bool) (past : Past) (pair : Pair)
    (event : Option ErrorEvent) (outcome : Outcome) (st : InState old spelling text past) →
    Lands new outcome after (st.done.first + length st.done.pairs) st.done.events st.phase (st.part ++ pair ∷ [])
    (st.counting ++ listed event) →
    AreOn (st.done.events ++ (st.counting ++ listed event)) →
    InState new spelling after (with_bit past pair event outcome)
lands_on old new spelling text after past pair event outcome st (goes_on agrees nothing) on =
    subst (λ o. InState new spelling after (with_bit past pair event o)) (sym nothing)
    (stands_on old new spelling text after past pair event st agrees (outside st.phase _ on))
lands_on old new spelling text after past pair event outcome st (is_over next course agrees) on =
    stands_over old new spelling text after past pair event outcome next st (course_uneventful course)
    (ends course on) agrees (outside next _ on)

-- a transition whose event causes bus off: in place of what it would have ended, the node went off
pub lands_off : (old new : State) (spelling : Spelling) (text after : List Bool) (past : Past) (pair : Pair)
    (event : ErrorEvent) (outcome : Outcome) (st : InState old spelling text past) →
    Lands new outcome after (st.done.first + length st.done.pairs) st.done.events st.phase (st.part ++ pair ∷ [])
    (st.counting ++ event ∷ []) →
    AreOn (st.done.events ++ st.counting) → AreOff (st.done.events ++ st.counting ++ event ∷ []) →
    InState (BusOffRecovery 0 0) spelling after (with_bit past pair (Some event) WentOff)
lands_off old new spelling text after past pair event outcome st (goes_on agrees nothing) on off =
    stands_over old (BusOffRecovery 0 0) spelling text after past pair (Some event) WentOff BusOff st
    (uneventful_flag Off [] Receiver)
    (off_within pair event (agrees_begun st.agrees) on (agrees_begun agrees) off) (off_begins after) tt
lands_off old new spelling text after past pair event outcome st (is_over next course agrees) on off =
    stands_over old (BusOffRecovery 0 0) spelling text after past pair (Some event) WentOff BusOff st
    (uneventful_flag Off [] Receiver)
    (off_at_end pair event (agrees_begun st.agrees) on course off) (off_begins after) tt
