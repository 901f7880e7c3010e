-- Of two episodes from one place whose pairs agree neither ends before the other, and they end in one way.
use Rattle.std.proofs.Common.{◌≡◌, ◌⊎◌, inl, inr, ℕ, ◌+◌, Bool, true, List, [], ◌∷◌, ◌++◌, length, refl, sym, ap, subst}
use Rattle.std.proofs.Common.{arith, ◌∙◌}
use Rattle.std.proofs.lemmas.List.{append_assoc, append-nil, length-append}
use Rattle.can_frame.specs.Frames.{FrameValue}
use Rattle.can_confinement.specs.declared.confinement.ErrorEvent.{ErrorEvent}
use Rattle.can_node.specs.declared.outcome.Outcome.{Outcome}
use Rattle.can_node.specs.declared.outcome.Outcome.TheVariants.{Nothing, WentOff}
use Rattle.can_node.specs.Pairs.{Pair, listening, recessive}
use Rattle.can_node.specs.Phases.{Phase}
use Rattle.can_node.specs.Phases.Phase.{Idle, Send, Take, BusOff}
use Rattle.can_node.specs.Episodes.{Begun, Course, Episode, AreOn, AreOff}
use Rattle.can_node.specs.Episodes.Begun.{recovering}
use Rattle.can_node.specs.Episodes.Episode.{begun, joined, ends, off_within, off_at_end}
use Rattle.can_node.specs.Histories.{IsOnOutside}
use Rattle.can_node.proofs.Bits.{outside}
use Rattle.can_node.proofs.Samples.{on_or_off}
use Rattle.can_node.proofs.OneSplitLists.{fronts, before_last, both_ways}
use Rattle.can_node.proofs.OneSplitEvents.{was_on, Fit, SameEnd}
use Rattle.can_node.proofs.OneSplitCourses.{grows, course_over}
use Rattle.can_node.proofs.OneSplitEnds.{course_last, course_same}

-- an episode that a bit ends
pub data Ending (at : ℕ) (before : List ErrorEvent) :
    Phase → List Pair → List ErrorEvent → Outcome → Phase → Type 0 where
  by_course : {phase next : Phase} {pairs : List Pair} {events : List ErrorEvent} {outcome : Outcome} →
      Course at before phase pairs events outcome next → AreOn (before ++ events) →
      Ending at before phase pairs events outcome next
  within : {phase : Phase} {pairs : List Pair} {events : List ErrorEvent} (pair : Pair) (event : ErrorEvent) →
      Begun phase pairs events → AreOn (before ++ events) → Begun phase (pairs ++ pair ∷ []) (events ++ event ∷ []) →
      AreOff (before ++ (events ++ event ∷ [])) →
      Ending at before phase (pairs ++ pair ∷ []) (events ++ event ∷ []) WentOff BusOff
  at_end : {phase next : Phase} {pairs : List Pair} {events : List ErrorEvent} {outcome : Outcome} (pair : Pair)
      (event : ErrorEvent) →
      Begun phase pairs events → AreOn (before ++ events) →
      Course at before phase (pairs ++ pair ∷ []) (events ++ event ∷ []) outcome next →
      AreOff (before ++ (events ++ event ∷ [])) →
      Ending at before phase (pairs ++ pair ∷ []) (events ++ event ∷ []) WentOff BusOff

-- one in which the node begins to send
pub data Starting (at : ℕ) (before : List ErrorEvent) : Phase → List Pair → FrameValue → Phase → Type 0 where
  from_idle : (n : ℕ) (frame : FrameValue) → AreOn before →
      Starting at before Idle (listening (recessive n)) frame (Send (at + n) [] frame)
  from_sof : (start : ℕ) (given : List Bool) (frame : FrameValue) →
      Starting at before (Take start given true) [] frame (Send start given frame)

-- each episode is one of these
pub data Kind (at : ℕ) (before : List ErrorEvent) :
    Phase → List Pair → List ErrorEvent → Outcome → Phase → Type 0 where
  starting : {phase next : Phase} {pairs : List Pair} (frame : FrameValue) →
      Starting at before phase pairs frame next → Kind at before phase pairs [] Nothing next
  ending : {phase next : Phase} {pairs : List Pair} {events : List ErrorEvent} {outcome : Outcome} →
      Ending at before phase pairs events outcome next → Kind at before phase pairs events outcome next

pub kind : {at : ℕ} {before : List ErrorEvent} {phase next : Phase} {pairs : List Pair} {events : List ErrorEvent}
    {outcome : Outcome} →
    Episode at before phase pairs events outcome next → Kind at before phase pairs events outcome next
kind (begun n frame is on) = starting frame (from_idle n frame on)
kind (joined start given frame is on) = starting frame (from_sof start given frame)
kind (ends course on) = ending (by_course course on)
kind {before = before} (off_within {events = events} pair event goes on more off) =
    ending (within pair event goes on more (subst AreOff (append_assoc before events (event ∷ [])) off))
kind {before = before} (off_at_end {events = events} pair event goes on course off) =
    ending (at_end pair event goes on course (subst AreOff (append_assoc before events (event ∷ [])) off))

-- bus off counts nothing before its end
off_counts_nothing : {pairs : List Pair} {events : List ErrorEvent} → Begun BusOff pairs events → events ≡ []
off_counts_nothing (recovering runs text broken n few counted b short) = refl

not_both : (events : List ErrorEvent) → AreOn events → AreOff events → ⊥
not_both events on off = cc (on, off)

-- an episode that ends in bus off does not go on where the node is on
not_off : {phase : Phase} {pairs longer : List Pair} {counted : List ErrorEvent} (before events : List ErrorEvent)
    (event : ErrorEvent) (r : List Pair) → Fit phase → Begun phase pairs (events ++ event ∷ []) →
    AreOff (before ++ (events ++ event ∷ [])) → Begun phase longer counted → longer ≡ pairs ++ r →
    AreOn (before ++ counted) ⊎ (phase ≡ BusOff) → ⊥
not_off before events event r fit off counts on e (inl still) =
    not_both (before ++ (events ++ event ∷ [])) (was_on before (grows r fit off on e) still) counts
not_off {pairs = pairs} before events event r fit off counts on e (inr is) =
    let none = off_counts_nothing (subst (λ p. Begun p pairs (events ++ event ∷ [])) is off) in
    omega (arith, ap length none, length-append events (event ∷ []))

-- an episode that goes on does not begin with a whole one
pub not_within : {at : ℕ} {before : List ErrorEvent} {phase next : Phase} {pairs longer : List Pair}
    {events counted : List ErrorEvent} {outcome : Outcome} (r : List Pair) → Fit phase →
    Ending at before phase pairs events outcome next → Begun phase longer counted →
    IsOnOutside phase (before ++ counted) → longer ≡ pairs ++ r → ⊥
not_within r fit (by_course course on) goes still e = course_over r course goes e
not_within {before = before} {phase = phase} {counted = counted} r fit
    (within {events = events} pair event b on more off) goes still e =
    not_off before events event r fit more off goes e (on_or_off phase (before ++ counted) still)
not_within r fit (at_end pair event b on course off) goes still e = course_over r course goes e

-- one that is over went on before its last bit
pub record WentOn (before : List ErrorEvent) (phase : Phase) (pairs : List Pair) : Type 0 where
  pub shorter : List Pair
  pub last : Pair
  pub counted : List ErrorEvent
  pub is : pairs ≡ shorter ++ last ∷ []
  pub goes : Begun phase shorter counted
  pub on : IsOnOutside phase (before ++ counted)

pub went_on : {at : ℕ} {before : List ErrorEvent} {phase next : Phase} {pairs : List Pair} {events : List ErrorEvent}
    {outcome : Outcome} → Fit phase → Ending at before phase pairs events outcome next → WentOn before phase pairs
went_on {before = before} fit (by_course course on) =
    let l = course_last fit course in
    record { shorter = l.before; last = l.last; counted = l.counted; is = l.is; goes = l.begun; on = l.on before on }
went_on {before = before} {phase = phase} fit
    (within {pairs = pairs} {events = events} pair event b on more off) = record {
      shorter = pairs;
      last = pair;
      counted = events;
      is = refl;
      goes = b;
      on = outside phase (before ++ events) on;
    }
went_on {before = before} {phase = phase} fit
    (at_end {pairs = pairs} {events = events} pair event b on course off) = record {
      shorter = pairs;
      last = pair;
      counted = events;
      is = refl;
      goes = b;
      on = outside phase (before ++ events) on;
    }

no_longer : {at : ℕ} {before : List ErrorEvent} {phase next other : Phase} {pairs more : List Pair}
    {events counted : List ErrorEvent} {outcome reported : Outcome} (r : List Pair) → Fit phase →
    Ending at before phase pairs events outcome next → Ending at before phase more counted reported other →
    more ≡ pairs ++ r → more ≡ pairs
no_longer {pairs = pairs} r fit h k e =
    let w = went_on fit k in
    elim (before_last w.shorter pairs r w.last (sym w.is ∙ e)) [
      | inl whole ↦ w.is ∙ sym whole
      | inr part ↦ absurd (not_within part.0 fit h w.goes w.on part.1)
    ]

-- two that are over have the same pairs
pub same_pairs : {at : ℕ} {before : List ErrorEvent} {phase next other : Phase} {pairs more : List Pair}
    {events counted : List ErrorEvent} {outcome reported : Outcome} (r s : List Pair) → Fit phase →
    Ending at before phase pairs events outcome next → Ending at before phase more counted reported other →
    pairs ++ r ≡ more ++ s → more ≡ pairs
same_pairs {pairs = pairs} {more = more} r s fit h k e = elim (fronts pairs more r s e) [
  | inl longer ↦ no_longer longer.0 fit h k longer.1
  | inr shorter ↦ sym (no_longer shorter.0 fit k h shorter.1)
]

same_off : {phase : Phase} {pairs more : List Pair} {events counted : List ErrorEvent} → Fit phase →
    Begun phase pairs events → Begun phase more counted → more ≡ pairs →
    SameEnd events counted WentOff WentOff BusOff BusOff
same_off {pairs = pairs} {more = more} {events = events} {counted = counted} fit h k e =
    let up = grows [] fit h k (e ∙ sym (append-nil pairs)) in
    let down = grows [] fit k h (sym e ∙ sym (append-nil more)) in
    record { events_are = both_ways events counted up.more down.more up.is down.is; outcome_is = refl; next_is = refl }

one_ends : (before events counted : List ErrorEvent) → events ≡ counted → AreOn (before ++ events) →
    AreOff (before ++ counted) → ⊥
one_ends before events counted e on off =
    not_both (before ++ counted) (subst (λ es. AreOn (before ++ es)) e on) off

-- and they end in one way
pub ending_same : {at : ℕ} {before : List ErrorEvent} {phase next other : Phase} {pairs more : List Pair}
    {events counted : List ErrorEvent} {outcome reported : Outcome} → Fit phase →
    Ending at before phase pairs events outcome next → Ending at before phase more counted reported other →
    more ≡ pairs → SameEnd events counted outcome reported next other
ending_same {phase = phase} fit (by_course c on) (by_course d still) e = course_same phase c d e
ending_same {pairs = pairs} fit (by_course c on) (within pair event b still more off) e =
    absurd (course_over [] c more (e ∙ sym (append-nil pairs)))
ending_same {before = before} {phase = phase} {events = events} {counted = counted} fit (by_course c on)
    (at_end pair event b still d off) e =
    absurd (one_ends before events counted (course_same phase c d e).events_are on off)
ending_same {more = longer} fit (within pair event b on more off) (by_course c still) e =
    absurd (course_over [] c more (sym e ∙ sym (append-nil longer)))
ending_same fit (within pair event b on more off) (within last counted c still longer gone) e =
    same_off fit more longer e
ending_same {more = longer} fit (within pair event b on more off) (at_end last counted c still d gone) e =
    absurd (course_over [] d more (sym e ∙ sym (append-nil longer)))
ending_same {before = before} {phase = phase} {events = events} {counted = counted} fit (at_end pair event b on c off)
    (by_course d still) e =
    absurd (one_ends before counted events (sym (course_same phase c d e).events_are) still off)
ending_same {pairs = pairs} fit (at_end pair event b on c off) (within last counted d still more gone) e =
    absurd (course_over [] c more (e ∙ sym (append-nil pairs)))
ending_same {phase = phase} fit (at_end pair event b on c off) (at_end last counted d still f gone) e =
    record { events_are = (course_same phase c f e).events_are; outcome_is = refl; next_is = refl }
