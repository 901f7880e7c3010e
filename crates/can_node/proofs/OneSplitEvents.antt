-- Events that do not end bus off, and what each place of a history between two episodes is fit for.
use Rattle.std.proofs.Common.{◌≡◌, ℕ, zero, suc, ◌+◌, cond, Bool, true, false, List, [], ◌∷◌, ◌++◌, refl, sym, ap}
use Rattle.std.proofs.Common.{subst, arith, ◌∙◌}
use Rattle.std.proofs.lemmas.List.{append_assoc, append-nil}
use Rattle.std.proofs.lemmas.List.Sums.{fold-append}
use Rattle.can_frame.specs.Frames.{IsFrameValue}
use Rattle.can_confinement.specs.declared.confinement.Role.{Role}
use Rattle.can_confinement.specs.declared.confinement.Role.TheVariants.{Sender, Receiver}
use Rattle.can_confinement.specs.declared.confinement.ErrorEvent.{ErrorEvent}
use Rattle.can_confinement.specs.declared.confinement.ErrorEvent.TheVariants.{ReceiverError, ReceiverDominant}
use Rattle.can_confinement.specs.declared.confinement.ErrorEvent.TheVariants.{SenderError, FlagBit, DominantRun, Sent}
use Rattle.can_confinement.specs.declared.confinement.ErrorEvent.TheVariants.{Received, Recovered}
use Rattle.can_confinement.specs.declared.confinement.ErrorState.{ErrorState}
use Rattle.can_confinement.specs.declared.confinement.ErrorState.TheVariants.{Active, Passive, Off}
use Rattle.can_node.specs.declared.flag.FlagKind.{FlagKind}
use Rattle.can_node.specs.declared.flag.FlagKind.TheVariants.{ActiveError, PassiveError, Overload}
use Rattle.can_node.specs.declared.outcome.Outcome.{Outcome}
use Rattle.can_confinement.specs.Confinement.{Counts, no_counts, is_off, effect, after_event, counts_after}
use Rattle.can_node.specs.Pairs.{Pair}
use Rattle.can_node.specs.Takes.{acknowledged}
use Rattle.can_node.specs.Flags.{flag_bit, flag_bits, behind_flag, dominant_event, dominant_events}
use Rattle.can_node.specs.Phases.{Phase, flag_of}
use Rattle.can_node.specs.Phases.Phase.{Send, Take, PassiveFlag}
use Rattle.can_node.specs.Episodes.{Course, Episode, AreOn, AreOff, error_of}
use Rattle.can_node.specs.Episodes.Course.{synced, resumed, completed, lost, stuff_lost, unacknowledged, bit_differs}
use Rattle.can_node.specs.Episodes.Course.{took, spoiled, recessive_last_bit, late_overload, flagged, overload_flagged}
use Rattle.can_node.specs.Episodes.Course.{passive_flagged, delimited, truncated, overloaded, intermission_ended, intermission_suspended}
use Rattle.can_node.specs.Episodes.Course.{pressed, hurried, waited, overtaken, recovered}
use Rattle.can_node.specs.Episodes.Episode.{begun, joined, ends, off_within, off_at_end}
use Rattle.can_node.specs.Histories.{Past, Whole}
use Rattle.can_node.specs.Histories.Whole.{switched_on, then}

-- behind these events a node that was in bus off is so still
abbrev pub StayOff : List ErrorEvent → Type 0
StayOff events = (before : List ErrorEvent) → AreOff before → AreOff (before ++ events)

pub none_stay : StayOff []
none_stay before off = subst AreOff (sym (append-nil before)) off

pub both_stay : (events more : List ErrorEvent) → StayOff events → StayOff more → StayOff (events ++ more)
both_stay events more h k before off =
    subst AreOff (append_assoc before events more) (k (before ++ events) (h before off))

-- an event has no effect in bus off
off_stays : (b : Bool) (c d : Counts) → b ≡ true → is_off c ≡ true → is_off (cond b c d) ≡ true
off_stays true c d is off = off
off_stays false c d is off = absurd (cc is)

one_stays : (event : ErrorEvent) →
    ((c : Counts) → is_off c ≡ true → is_off (after_event c event) ≡ true) → StayOff (event ∷ [])
one_stays event step before off =
    ap is_off (fold-append after_event no_counts before (event ∷ [])) ∙ step (counts_after before) off

-- each event but the recovery
pub event_stays : (event : ErrorEvent) → (event ≡ Recovered → ⊥) → StayOff (event ∷ [])
event_stays Recovered other = absurd (other refl)
event_stays ReceiverError other =
    one_stays ReceiverError (λ c off. off_stays (is_off c) c (effect c ReceiverError) off off)
event_stays ReceiverDominant other =
    one_stays ReceiverDominant (λ c off. off_stays (is_off c) c (effect c ReceiverDominant) off off)
event_stays SenderError other =
    one_stays SenderError (λ c off. off_stays (is_off c) c (effect c SenderError) off off)
event_stays (FlagBit role) other =
    one_stays (FlagBit role) (λ c off. off_stays (is_off c) c (effect c (FlagBit role)) off off)
event_stays (DominantRun role) other =
    one_stays (DominantRun role) (λ c off. off_stays (is_off c) c (effect c (DominantRun role)) off off)
event_stays Sent other = one_stays Sent (λ c off. off_stays (is_off c) c (effect c Sent) off off)
event_stays Received other = one_stays Received (λ c off. off_stays (is_off c) c (effect c Received) off off)

-- the second list goes on behind the first, and does not end bus off
pub record More (events later : List ErrorEvent) : Type 0 where
  pub more : List ErrorEvent
  pub is : later ≡ events ++ more
  pub stays : StayOff more

pub no_more : (events : List ErrorEvent) → More events events
no_more events = record { more = []; is = sym (append-nil events); stays = none_stay }

pub one_more : (events : List ErrorEvent) (event : ErrorEvent) → (event ≡ Recovered → ⊥) →
    More events (events ++ event ∷ [])
one_more events event other = record { more = event ∷ []; is = refl; stays = event_stays event other }

pub more_and_more : {events later last : List ErrorEvent} → More events later → More later last → More events last
more_and_more {events = events} h k = record {
  more = h.more ++ k.more;
  is = k.is ∙ ap (λ es. es ++ k.more) h.is ∙ append_assoc events h.more k.more;
  stays = both_stay h.more k.more h.stays k.stays;
}

-- a node that is on behind the later events was so behind the earlier ones
pub was_on : {events later : List ErrorEvent} (before : List ErrorEvent) → More events later →
    AreOn (before ++ later) → AreOn (before ++ events)
was_on {events = events} before h on =
    by (is_off (counts_after (before ++ events))) refl
  where
    by : (b : Bool) → is_off (counts_after (before ++ events)) ≡ b → AreOn (before ++ events)
    by false e = e
    by true e =
        let all = ap (λ es. before ++ es) h.is ∙ sym (append_assoc before events h.more) in
        let off = subst AreOff (sym all) (h.stays (before ++ events) e) in
        absurd (cc (on, off))

flag_bit_stays : (role : Role) (level : Bool) → StayOff (flag_bit role level)
flag_bit_stays role true = event_stays (FlagBit role) (λ e. cc e)
flag_bit_stays role false = none_stay

pub flag_bits_stay : (role : Role) (levels : List Bool) → StayOff (flag_bits role levels)
flag_bits_stay role [] = none_stay
flag_bits_stay role (level ∷ levels) =
    both_stay (flag_bit role level) (flag_bits role levels) (flag_bit_stays role level) (flag_bits_stay role levels)

pub acknowledged_stays : (slot : Bool) → StayOff (acknowledged slot)
acknowledged_stays true = none_stay
acknowledged_stays false = event_stays Received (λ e. cc e)

behind_stays : (kind : FlagKind) (role : Role) → StayOff (behind_flag kind role)
behind_stays ActiveError Receiver = event_stays ReceiverDominant (λ e. cc e)
behind_stays PassiveError Receiver = event_stays ReceiverDominant (λ e. cc e)
behind_stays Overload Receiver = none_stay
behind_stays ActiveError Sender = none_stay
behind_stays PassiveError Sender = none_stay
behind_stays Overload Sender = none_stay

if_stays : (b : Bool) (events : List ErrorEvent) → StayOff events → StayOff (cond b events [])
if_stays true events h = h
if_stays false events h = none_stay

dominant_stays : (kind : FlagKind) (role : Role) (run n : ℕ) → StayOff (dominant_event kind role run n)
dominant_stays kind role run n = both_stay _ _ (if_stays _ (behind_flag kind role) (behind_stays kind role))
    (if_stays _ (DominantRun role ∷ []) (event_stays (DominantRun role) (λ e. cc e)))

-- more dominant samples behind a flag bring more events
pub dominant_more : (kind : FlagKind) (role : Role) (run n k m : ℕ) → m ≡ k + n →
    More (dominant_events kind role run n) (dominant_events kind role run m)
unfolding dominant_events
dominant_more kind role run n zero m e =
    let same : n ≡ m = omega (arith, e) in
    subst (λ x. More (dominant_events kind role run n) (dominant_events kind role run x)) same (no_more _)
dominant_more kind role run n (suc k) zero e = absurd (omega (arith, e))
dominant_more kind role run n (suc k) (suc m) e =
    more_and_more (dominant_more kind role run n k m (omega (arith, e)))
    (record { more = dominant_event kind role run m; is = refl; stays = dominant_stays kind role run m })

pub error_other : (role : Role) → error_of role ≡ Recovered → ⊥
error_other Sender e = cc e
error_other Receiver e = cc e

-- What each episode of a history can begin with: a frame that is sent is one, the text of a frame that is read ends in
-- a dominant level, and what a passive error flag owes does not end bus off.
abbrev pub Fit : Phase → Type 0
Fit (Send start given frame) = IsFrameValue frame
Fit (Take start given may_begin) = (before : List Bool) × (given ≡ before ++ false ∷ [])
Fit (PassiveFlag owed role) = StayOff owed
Fit phase = Unit {0}

flag_fits : (e : ErrorState) (owed : List ErrorEvent) (role : Role) → StayOff owed → Fit (flag_of e owed role)
flag_fits Active owed role h = tt
flag_fits Passive owed role h = h
flag_fits Off owed role h = tt

course_fits : {at : ℕ} {before : List ErrorEvent} {phase next : Phase} {pairs : List Pair} {events : List ErrorEvent}
    {outcome : Outcome} →
    Course at before phase pairs events outcome next → Fit next
course_fits (synced broken b) = tt
course_fits (resumed n) = ([], refl)
course_fits (completed start given frame driven sampled send) = tt
course_fits (lost start given frame driven seen bit place) = (given ++ seen, refl)
course_fits (stuff_lost start given frame driven seen bit place) = flag_fits _ _ _ none_stay
course_fits (unacknowledged start given frame driven seen bit) =
    flag_fits _ _ _ (event_stays SenderError (λ e. cc e))
course_fits (bit_differs start given frame driven seen level bit no_loss no_stuff) = flag_fits _ _ _ none_stay
course_fits (took start given may_begin levels pairs events frame reads front) = tt
course_fits (spoiled start given may_begin levels level pairs events kind reads fault) = flag_fits _ _ _ none_stay
course_fits recessive_last_bit = tt
course_fits late_overload = tt
course_fits (flagged role levels size) = tt
course_fits (overload_flagged role levels size) = tt
course_fits (passive_flagged owed role levels level before six) = tt
course_fits (delimited kind role run n) = tt
course_fits (truncated kind role run n k some below) = flag_fits _ _ _ none_stay
course_fits (overloaded kind role run n) = tt
course_fits (intermission_ended role goes) = tt
course_fits (intermission_suspended role waits) = tt
course_fits (pressed role k below) = tt
course_fits (hurried role) = ([], refl)
course_fits waited = tt
course_fits (overtaken k below) = ([], refl)
course_fits (recovered text whole) = tt

pub fits : {at : ℕ} {before : List ErrorEvent} {phase next : Phase} {pairs : List Pair} {events : List ErrorEvent}
    {outcome : Outcome} →
    Episode at before phase pairs events outcome next → Fit next
fits (begun n frame is on) = is
fits (joined start given frame is on) = is
fits (ends course on) = course_fits course
fits (off_within pair event goes on more off) = tt
fits (off_at_end pair event goes on course off) = tt

-- so each place of a history between two episodes is fit for the next
pub place_fits : {past : Past} {phase : Phase} → Whole past phase → Fit phase
place_fits (switched_on first) = tt
place_fits (then whole episode) = fits episode

-- two ways in which an episode ends are one
pub record SameEnd (events counted : List ErrorEvent) (outcome reported : Outcome) (next other : Phase) : Type 0 where
  pub events_are : events ≡ counted
  pub outcome_is : outcome ≡ reported
  pub next_is : next ≡ other

pub same_end : {events : List ErrorEvent} {outcome : Outcome} {next : Phase} →
    SameEnd events events outcome outcome next next
same_end = record { events_are = refl; outcome_is = refl; next_is = refl }
