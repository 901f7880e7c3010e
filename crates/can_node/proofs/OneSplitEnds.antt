-- How an episode ends: what it was before its last bit, and that equal pairs end it in one way.
use Rattle.std.proofs.Common.{◌≡◌, ℕ, ◌+◌, ◌<◌, Bool, true, false, List, [], ◌∷◌, ◌++◌, length, refl, sym, ap, subst}
use Rattle.std.proofs.Common.{arith, ◌∙◌}
use Rattle.std.proofs.lemmas.List.{append_assoc, append-nil, length-append}
use Rattle.can_frame.specs.Fronts.{IsFront}
use Rattle.can_confinement.specs.declared.confinement.ErrorEvent.{ErrorEvent}
use Rattle.can_confinement.specs.declared.confinement.ErrorEvent.TheVariants.{ReceiverError, SenderError, Sent}
use Rattle.can_confinement.specs.declared.confinement.ErrorEvent.TheVariants.{Recovered}
use Rattle.can_confinement.specs.declared.confinement.ErrorState.{ErrorState}
use Rattle.can_confinement.specs.declared.confinement.ErrorState.TheVariants.{Active, Passive, Off}
use Rattle.can_confinement.specs.declared.confinement.Role.{Role}
use Rattle.can_confinement.specs.declared.confinement.Role.TheVariants.{Receiver}
use Rattle.can_node.specs.declared.flag.FlagKind.TheVariants.{ActiveError, Overload}
use Rattle.can_node.specs.declared.outcome.Outcome.{Outcome}
use Rattle.can_node.specs.declared.outcome.Outcome.TheVariants.{Took, Errored}
use Rattle.can_confinement.specs.Confinement.{state_after}
use Rattle.can_node.specs.Pairs.{Pair, listening, dominating, driving, recessive, dominant}
use Rattle.can_node.specs.Waits.{Recoveries}
use Rattle.can_node.specs.Waits.Recoveries.{no_run, one_more}
use Rattle.can_node.specs.Flags.{flag_bits, owed_events, dominant_events}
use Rattle.can_node.specs.Takes.{name_of}
use Rattle.can_node.specs.Phases.{Phase, flag_of}
use Rattle.can_node.specs.Phases.Phase.{Sync, Idle, Send, Take, LastBit, ActiveFlag, OverloadFlag, PassiveFlag}
use Rattle.can_node.specs.Phases.Phase.{Delimiter, Intermission, Suspend, BusOff}
use Rattle.can_node.specs.Episodes.{Begun, Course, AreOn, ack_events}
use Rattle.can_node.specs.Episodes.Begun.{syncing, idling, sending, taking, last_bit, active_flag, overload_flag}
use Rattle.can_node.specs.Episodes.Begun.{passive_flag, delimiting, in_pause, suspended, recovering}
use Rattle.can_node.specs.Episodes.Course.{synced, resumed, completed, lost, stuff_lost, unacknowledged, bit_differs}
use Rattle.can_node.specs.Episodes.Course.{took, spoiled, recessive_last_bit, late_overload, flagged, overload_flagged}
use Rattle.can_node.specs.Episodes.Course.{passive_flagged, delimited, truncated, overloaded, intermission_ended, intermission_suspended}
use Rattle.can_node.specs.Episodes.Course.{pressed, hurried, waited, overtaken, recovered}
use Rattle.can_node.specs.Histories.{IsOnOutside}
use Rattle.can_node.proofs.Bits.{outside}
use Rattle.can_node.proofs.Moves.{listening_more, dominating_more}
use Rattle.can_node.proofs.SameFronts.{no_fault_behind}
use Rattle.can_node.proofs.OneSplitLists.{listening_same, dominating_same, has_last, last_same, run_is, no_dominant}
use Rattle.can_node.proofs.OneSplitEvents.{More, no_more, more_and_more, was_on, error_other, Fit, SameEnd, same_end}
use Rattle.can_node.proofs.OneSplitEvents.{one_more as one_event}
use Rattle.can_node.proofs.OneSplitTakes.{reads_levels, reads_same, read_before, front_read_on, front_some}
use Rattle.can_node.proofs.OneSplitTakes.{front_of_one, one_kind}
use Rattle.can_node.proofs.OneSplitSends.{send_end, send_same, last_of_send}
use Rattle.can_node.proofs.OneSplitFlags.{flag_bits_more, flag_same, owed_more, delimiter_end, delimiter_same}
use Rattle.can_node.proofs.OneSplitFlags.{intermission_end, intermission_same}

-- An episode that goes on, one bit before these pairs; and if the node is on behind their events, it was so then.
pub record BeforeLast (phase : Phase) (pairs : List Pair) (events : List ErrorEvent) : Type 0 where
  pub before : List Pair
  pub last : Pair
  pub counted : List ErrorEvent
  pub is : pairs ≡ before ++ last ∷ []
  pub begun : Begun phase before counted
  pub on : (past : List ErrorEvent) → AreOn (past ++ events) → IsOnOutside phase (past ++ counted)

behind : {phase : Phase} {pairs : List Pair} {events : List ErrorEvent} (before : List Pair) (last : Pair)
    (counted : List ErrorEvent) → pairs ≡ before ++ last ∷ [] → Begun phase before counted → More counted events →
    BeforeLast phase pairs events
behind {phase = phase} before last counted is begun more = record {
  before = before;
  last = last;
  counted = counted;
  is = is;
  begun = begun;
  on = λ past on. outside phase (past ++ counted) (was_on past more on);
}

-- the last level of a node that listens
heard_last : {phase : Phase} {events counted : List ErrorEvent} (levels : List Bool) (level : Bool) →
    Begun phase (listening levels) counted → More counted events →
    BeforeLast phase (listening (levels ++ level ∷ [])) events
heard_last {counted = counted} levels level begun more =
    behind (listening levels) (record { driven = true; sampled = level }) counted (sym (listening_more levels level))
    begun more

ack_more : (e : ErrorState) → More [] (ack_events e)
ack_more Active = one_event [] SenderError (λ e. cc e)
ack_more Passive = no_more []
ack_more Off = no_more []

-- the last level of a flag that drives dominant
flag_last : (phase : Phase) (role : Role) (levels : List Bool) → length levels ≡ 6 →
    ((before : List Bool) → length before < 6 → Begun phase (dominating before) (flag_bits role before)) →
    BeforeLast phase (dominating levels) (flag_bits role levels)
flag_last phase role [] size begun = absurd (omega (arith, size))
flag_last phase role (level ∷ levels) size begun =
    let h = has_last level levels in
    let few : length h.before < 6 = omega (arith, size, ap length h.is, length-append h.before (h.last ∷ [])) in
    behind (dominating h.before) (record { driven = false; sampled = h.last }) (flag_bits role h.before)
    (ap dominating h.is ∙ sym (dominating_more h.before h.last)) (begun h.before few)
    (subst (λ t. More (flag_bits role h.before) (flag_bits role t)) (sym h.is)
    (flag_bits_more role h.before (h.last ∷ [])))

recovered_last : (n : ℕ) (text : List Bool) → Recoveries n text → n ≡ 128 →
    BeforeLast BusOff (listening text) (Recovered ∷ [])
recovered_last n text no_run e = absurd (omega (arith, e))
recovered_last n text (one_more {n = runs} {text = rest} {broken = broken} all b) e = record {
  before = listening (rest ++ broken ++ recessive 10);
  last = record { driven = true; sampled = true };
  counted = [];
  is = ap listening (sym (append_assoc (rest ++ broken) (recessive 10) (true ∷ [])))
      ∙ sym (listening_more (rest ++ broken ++ recessive 10) true);
  begun = recovering runs rest broken 10 (omega (arith, e)) all b (omega arith);
  on = λ past on. tt;
}

-- Each episode that a bit ends went on before that bit.
pub course_last : {at : ℕ} {before : List ErrorEvent} {phase next : Phase} {pairs : List Pair}
    {events : List ErrorEvent} {outcome : Outcome} → Fit phase →
    Course at before phase pairs events outcome next → BeforeLast phase pairs events
course_last fit (synced broken b) =
    subst (λ t. BeforeLast Sync (listening t) []) (append_assoc broken (recessive 10) (true ∷ []))
    (heard_last (broken ++ recessive 10) true (syncing broken 10 b (omega arith)) (no_more []))
course_last fit (resumed n) = heard_last (recessive n) false (idling n) (no_more [])
course_last fit (completed start given frame driven sampled send) =
    let l = last_of_send frame given driven sampled fit send in
    behind (driving l.before l.seen) (record { driven = l.drives; sampled = l.expects }) [] l.is
    (sending start given frame l.before l.seen l.drives l.expects l.bit) (one_event [] Sent (λ e. cc e))
course_last fit (lost start given frame driven seen bit place) =
    behind (driving driven seen) _ [] refl (sending start given frame driven seen true true bit) (no_more [])
course_last fit (stuff_lost start given frame driven seen bit place) =
    behind (driving driven seen) _ [] refl (sending start given frame driven seen true true bit) (no_more [])
course_last fit (unacknowledged start given frame driven seen bit) =
    behind (driving driven seen) _ [] refl (sending start given frame driven seen true false bit) (ack_more _)
course_last fit (bit_differs start given frame driven seen level bit no_loss no_stuff) =
    behind (driving driven seen) _ [] refl (sending start given frame driven seen level level bit)
    (one_event [] SenderError (λ e. cc e))
course_last fit (took start given may_begin [] pairs events frame reads front) =
    absurd (front_some frame given fit.0 fit.1 front)
course_last fit (took start given may_begin (level ∷ levels) pairs events frame reads front) =
    let h = has_last level levels in
    let r = read_before h.before h.last reads h.is in
    let text : given ++ level ∷ levels ≡ (given ++ h.before) ++ h.last ∷ [] =
    ap (λ t. given ++ t) h.is ∙ sym (append_assoc given h.before (h.last ∷ [])) in
    behind r.before r.last r.counted r.is
    (taking start given may_begin h.before r.before r.counted
    (front_read_on frame (given ++ h.before) h.last (subst (IsFront frame) text front)) r.reads) r.more
course_last fit (spoiled start given may_begin levels level pairs events kind reads fault) =
    let r = read_before levels level reads refl in
    behind r.before r.last r.counted r.is
    (taking start given may_begin levels r.before r.counted fault.read_on r.reads)
    (more_and_more r.more (one_event events ReceiverError (λ e. cc e)))
course_last fit recessive_last_bit = behind [] (record { driven = true; sampled = true }) [] refl last_bit (no_more [])
course_last fit late_overload = behind [] (record { driven = true; sampled = false }) [] refl last_bit (no_more [])
course_last fit (flagged role levels size) =
    flag_last (ActiveFlag role) role levels size (λ before few. active_flag role before few)
course_last fit (overload_flagged role levels size) =
    flag_last (OverloadFlag role) role levels size (λ before few. overload_flag role before few)
course_last fit (passive_flagged owed role levels level none six) =
    heard_last levels level (passive_flag owed role levels none) (owed_more owed levels (level ∷ []) fit)
course_last fit (delimited kind role run n) =
    subst (λ t. BeforeLast (Delimiter kind role run) (listening t) (dominant_events kind role run n))
    (append_assoc (dominant n) (recessive 7) (true ∷ []))
    (heard_last (dominant n ++ recessive 7) true (delimiting kind role run n 7 (omega arith)) (no_more _))
course_last fit (truncated kind role run n k some below) =
    heard_last (dominant n ++ recessive k) false (delimiting kind role run n k (omega (arith, below)))
    (one_event _ _ (error_other role))
course_last fit (overloaded kind role run n) =
    heard_last (dominant n ++ recessive 7) false (delimiting kind role run n 7 (omega arith)) (no_more _)
course_last fit (intermission_ended role goes) = heard_last (recessive 2) true (in_pause role 2 (omega arith)) (no_more [])
course_last fit (intermission_suspended role waits) = heard_last (recessive 2) true (in_pause role 2 (omega arith)) (no_more [])
course_last fit (pressed role k below) =
    heard_last (recessive k) false (in_pause role k (omega (arith, below))) (no_more [])
course_last fit (hurried role) = heard_last (recessive 2) false (in_pause role 2 (omega arith)) (no_more [])
course_last fit waited = heard_last (recessive 7) true (suspended 7 (omega arith)) (no_more [])
course_last fit (overtaken k below) = heard_last (recessive k) false (suspended k below) (no_more [])
course_last fit (recovered text whole) = recovered_last 128 text whole refl

sync_same : {at : ℕ} {before : List ErrorEvent}
    {pairs more : List Pair} {events counted : List ErrorEvent} {outcome reported : Outcome} {next other : Phase} →
    Course at before Sync pairs events outcome next → Course at before Sync more counted reported other → more ≡ pairs →
    SameEnd events counted outcome reported next other
sync_same (synced broken b) (synced others c) e = same_end

idle_same : {at : ℕ} {before : List ErrorEvent}
    {pairs more : List Pair} {events counted : List ErrorEvent} {outcome reported : Outcome} {next other : Phase} →
    Course at before Idle pairs events outcome next → Course at before Idle more counted reported other → more ≡ pairs →
    SameEnd events counted outcome reported next other
idle_same {at = at} (resumed n) (resumed m) e =
    let same : m ≡ n =
    run_is true false m n [] [] (λ h. cc h)
    (listening_same (recessive m ++ false ∷ []) (recessive n ++ false ∷ []) e) in
    record { events_are = refl; outcome_is = refl; next_is = ap (λ k. Take (at + k) (false ∷ []) false) (sym same) }

take_same : {at : ℕ} {before : List ErrorEvent} {start : ℕ} {given : List Bool} {may_begin : Bool}
    {pairs more : List Pair} {events counted : List ErrorEvent} {outcome reported : Outcome} {next other : Phase} →
    Course at before (Take start given may_begin) pairs events outcome next →
    Course at before (Take start given may_begin) more counted reported other → more ≡ pairs →
    SameEnd events counted outcome reported next other
take_same (took start given may_begin levels pairs events frame reads front)
    (took s g m others longer counted other more behind) e =
    let same = reads_levels reads more e in record {
      events_are = reads_same reads more same;
      outcome_is = ap (Took start)
          (front_of_one frame other (given ++ levels) (given ++ others) front behind (ap (λ t. given ++ t) same));
      next_is = refl;
    }
take_same (took start given may_begin levels pairs events frame reads front)
    (spoiled s g m others level longer counted kind more fault) e =
    absurd (no_fault_behind frame kind (given ++ levels) (given ++ others) [] level front fault
    (append_assoc given others (level ∷ []) ∙ ap (λ t. given ++ t) (reads_levels reads more e)
    ∙ sym (append-nil (given ++ levels))))
take_same (spoiled start given may_begin levels level pairs events kind reads fault)
    (took s g m others longer counted frame more front) e =
    absurd (no_fault_behind frame kind (given ++ others) (given ++ levels) [] level front fault
    (append_assoc given levels (level ∷ []) ∙ ap (λ t. given ++ t) (sym (reads_levels reads more e))
    ∙ sym (append-nil (given ++ others))))
take_same {before = before} (spoiled start given may_begin levels level pairs events kind reads fault)
    (spoiled s g m others last longer counted other more behind) e =
    let all : others ++ last ∷ [] ≡ levels ++ level ∷ [] = reads_levels reads more e in
    let parts = last_same others levels last level all in
    let kinds : kind ≡ other =
    one_kind kind other (given ++ levels) (given ++ others) level last fault behind (ap (λ t. given ++ t) (sym parts.0))
    (sym parts.1) in
    let same : events ≡ counted = reads_same reads more all in record {
      events_are = ap (λ es. es ++ ReceiverError ∷ []) same;
      outcome_is = ap (λ k. Errored (name_of k)) kinds;
      next_is = ap (λ es. flag_of (state_after (before ++ es)) [] Receiver) same;
    }

last_bit_same : {at : ℕ} {before : List ErrorEvent}
    {pairs more : List Pair} {events counted : List ErrorEvent} {outcome reported : Outcome} {next other : Phase} →
    Course at before LastBit pairs events outcome next →
    Course at before LastBit more counted reported other → more ≡ pairs →
    SameEnd events counted outcome reported next other
last_bit_same recessive_last_bit recessive_last_bit e = same_end
last_bit_same recessive_last_bit late_overload e = absurd (not_equal (listening_same (false ∷ []) (true ∷ []) e))
  where
    not_equal : false ∷ [] ≡ true ∷ [] → ⊥
    not_equal h = cc h
last_bit_same late_overload recessive_last_bit e = absurd (not_equal (listening_same (true ∷ []) (false ∷ []) e))
  where
    not_equal : true ∷ [] ≡ false ∷ [] → ⊥
    not_equal h = cc h
last_bit_same late_overload late_overload e = same_end

active_same : {at : ℕ} {before : List ErrorEvent} {role : Role}
    {pairs more : List Pair} {events counted : List ErrorEvent} {outcome reported : Outcome} {next other : Phase} →
    Course at before (ActiveFlag role) pairs events outcome next →
    Course at before (ActiveFlag role) more counted reported other → more ≡ pairs →
    SameEnd events counted outcome reported next other
active_same (flagged role levels size) (flagged q others long) e =
    flag_same ActiveError role levels others (sym (dominating_same others levels e))

overload_same : {at : ℕ} {before : List ErrorEvent} {role : Role}
    {pairs more : List Pair} {events counted : List ErrorEvent} {outcome reported : Outcome} {next other : Phase} →
    Course at before (OverloadFlag role) pairs events outcome next →
    Course at before (OverloadFlag role) more counted reported other → more ≡ pairs →
    SameEnd events counted outcome reported next other
overload_same (overload_flagged role levels size) (overload_flagged q others long) e =
    flag_same Overload role levels others (sym (dominating_same others levels e))

passive_same : {at : ℕ} {before : List ErrorEvent} {owed : List ErrorEvent} {role : Role}
    {pairs more : List Pair} {events counted : List ErrorEvent} {outcome reported : Outcome} {next other : Phase} →
    Course at before (PassiveFlag owed role) pairs events outcome next →
    Course at before (PassiveFlag owed role) more counted reported other → more ≡ pairs →
    SameEnd events counted outcome reported next other
passive_same (passive_flagged owed role levels level none six) (passive_flagged o q others last never ends) e =
    record {
      events_are = ap (owed_events owed) (sym (listening_same (others ++ last ∷ []) (levels ++ level ∷ []) e));
      outcome_is = refl;
      next_is = refl;
    }

suspend_same : {at : ℕ} {before : List ErrorEvent}
    {pairs more : List Pair} {events counted : List ErrorEvent} {outcome reported : Outcome} {next other : Phase} →
    Course at before Suspend pairs events outcome next →
    Course at before Suspend more counted reported other → more ≡ pairs →
    SameEnd events counted outcome reported next other
suspend_same waited waited e = same_end
suspend_same waited (overtaken k few) e =
    absurd (no_dominant k 8 [] (sym (listening_same (recessive k ++ false ∷ []) (recessive 8) e)))
suspend_same (overtaken k few) waited e =
    absurd (no_dominant k 8 [] (listening_same (recessive 8) (recessive k ++ false ∷ []) e))
suspend_same {at = at} (overtaken n few) (overtaken m below) e =
    let same : m ≡ n =
    run_is true false m n [] [] (λ h. cc h)
    (listening_same (recessive m ++ false ∷ []) (recessive n ++ false ∷ []) e) in
    record { events_are = refl; outcome_is = refl; next_is = ap (λ k. Take (at + k) (false ∷ []) false) (sym same) }

off_same : {at : ℕ} {before : List ErrorEvent}
    {pairs more : List Pair} {events counted : List ErrorEvent} {outcome reported : Outcome} {next other : Phase} →
    Course at before BusOff pairs events outcome next → Course at before BusOff more counted reported other → more ≡ pairs →
    SameEnd events counted outcome reported next other
off_same (recovered text whole) (recovered other all) e = same_end

-- Equal pairs end each episode in one way.
pub course_same : (phase : Phase) {at : ℕ} {before : List ErrorEvent}
    {pairs more : List Pair} {events counted : List ErrorEvent} {outcome reported : Outcome} {next other : Phase} →
    Course at before phase pairs events outcome next → Course at before phase more counted reported other → more ≡ pairs →
    SameEnd events counted outcome reported next other
course_same Sync c d e = sync_same c d e
course_same Idle c d e = idle_same c d e
course_same (Send start given frame) c d e = send_same (send_end c) (send_end d) e
course_same (Take start given may_begin) c d e = take_same c d e
course_same LastBit c d e = last_bit_same c d e
course_same (ActiveFlag role) c d e = active_same c d e
course_same (OverloadFlag role) c d e = overload_same c d e
course_same (PassiveFlag owed role) c d e = passive_same c d e
course_same (Delimiter kind role run) c d e = delimiter_same (delimiter_end c) (delimiter_end d) e
course_same (Intermission role) c d e = intermission_same (intermission_end c) (intermission_end d) e
course_same Suspend c d e = suspend_same c d e
course_same BusOff c d e = off_same c d e
