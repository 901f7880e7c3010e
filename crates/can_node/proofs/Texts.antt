-- What a node samples of a frame from its SOF on.
use Rattle.std.proofs.Common.{◌≡◌, ℕ, ◌+◌, Bool, true, false, List, [], ◌∷◌, ◌++◌, length, refl, sym, ap, subst, arith}
use Rattle.std.proofs.Common.{◌∙◌}
use Rattle.std.proofs.lemmas.List.{append_assoc, append-nil, map-append, length-append, length-map, length-replicate}
use Rattle.can_frame.specs.Frames.{FrameValue, IsFrameValue}
use Rattle.can_frame.proofs.Spellings.{one_spelling, slot_stands_alone}
use Rattle.can_confinement.specs.declared.confinement.ErrorEvent.{ErrorEvent}
use Rattle.can_confinement.specs.declared.confinement.Role.{Role}
use Rattle.can_confinement.specs.declared.confinement.ErrorState.{ErrorState}
use Rattle.can_confinement.specs.declared.confinement.ErrorState.TheVariants.{Active, Passive, Off}
use Rattle.can_node.specs.declared.outcome.Outcome.{Outcome}
use Rattle.can_node.specs.declared.outcome.Outcome.TheVariants.{Lost}
use Rattle.can_node.specs.Pairs.{Pair, listening, dominating, driving, recessive}
use Rattle.can_node.specs.Sends.{IsSend}
use Rattle.can_node.specs.Takes.{Reads}
use Rattle.can_node.specs.Takes.Reads.{no_slot, with_slot}
use Rattle.can_node.specs.Phases.{Phase, flag_of}
use Rattle.can_node.specs.Phases.Phase.{Send, Take}
use Rattle.can_node.specs.Episodes.{Course, Episode}
use Rattle.can_node.specs.Episodes.Course.{synced, resumed, completed, lost, stuff_lost, unacknowledged, bit_differs}
use Rattle.can_node.specs.Episodes.Course.{took, spoiled, recessive_last_bit, late_overload, flagged, overload_flagged}
use Rattle.can_node.specs.Episodes.Course.{passive_flagged, delimited, truncated, overloaded, intermission_ended, intermission_suspended}
use Rattle.can_node.specs.Episodes.Course.{pressed, hurried, waited, overtaken, recovered}
use Rattle.can_node.specs.Episodes.Episode.{begun, joined, ends, off_within, off_at_end}
use Rattle.can_node.specs.Histories.{Past, Whole, with_episode}
use Rattle.can_node.specs.Histories.Whole.{switched_on, then}
use Rattle.can_node.specs.Copies.{sampled_in}

pub sampled_listening : (ls : List Bool) → sampled_in (listening ls) ≡ ls
sampled_listening [] = refl
sampled_listening (l ∷ ls) = ap (λ t. l ∷ t) (sampled_listening ls)

pub sampled_dominating : (ls : List Bool) → sampled_in (dominating ls) ≡ ls
sampled_dominating [] = refl
sampled_dominating (l ∷ ls) = ap (λ t. l ∷ t) (sampled_dominating ls)

pub sampled_driving : (ds ls : List Bool) → length ds ≡ length ls → sampled_in (driving ds ls) ≡ ls
sampled_driving [] [] e = refl
sampled_driving [] (l ∷ ls) e = absurd (omega (arith, e))
sampled_driving (d ∷ ds) [] e = absurd (omega (arith, e))
sampled_driving (d ∷ ds) (l ∷ ls) e = ap (λ t. l ∷ t) (sampled_driving ds ls (omega (arith, e)))

pub sampled_append : (p q : List Pair) → sampled_in (p ++ q) ≡ sampled_in p ++ sampled_in q
sampled_append p q = map-append (λ (pair : Pair). pair.sampled) p q

pub reads_samples : {given levels : List Bool} {pairs : List Pair} {events : List ErrorEvent} →
    Reads given levels pairs events → sampled_in pairs ≡ levels
reads_samples (no_slot levels none) = sampled_listening levels
reads_samples (with_slot before more slot is) =
    ap sampled_in (append_assoc (listening before) (dominating (slot ∷ [])) (listening more))
    ∙ sampled_append (listening before) (dominating (slot ∷ []) ++ listening more)
    ∙ ap (λ t. t ++ (slot ∷ sampled_in (listening more))) (sampled_listening before)
    ∙ ap (λ t. before ++ slot ∷ t) (sampled_listening more)

-- a completed send has driven as many levels as it sampled
pub send_lengths : (frame : FrameValue) (given driven sampled : List Bool) → IsSend frame given driven sampled →
    length driven ≡ length sampled
send_lengths frame given driven sampled send =
    let s = slot_stands_alone frame _ true false (given ++ driven) send.drives in
    let same = one_spelling frame _ false (given ++ sampled) (s.0 ++ false ∷ _) send.samples s.2 in
    omega (
      arith,
      ap length s.1,
      ap length same,
      length-append given driven,
      length-append given sampled,
      length-append s.0,
    )

-- from the bit `start` on a node with this past sampled these levels, up to its end
pub record From (past : Past) (start : ℕ) (text : List Bool) : Type 0 where
  pub before : List Pair
  pub during : List Pair
  pub pairs_are : past.pairs ≡ before ++ during
  pub text_is : sampled_in during ≡ text
  pub start_is : start ≡ past.first + length before

-- at the beginning of a send or a take: what was given
abbrev pub Starts : Past → Phase → Type 0
Starts past (Send start given frame) = From past start given × IsFrameValue frame
Starts past (Take start given may_begin) = From past start given
Starts past phase = Unit {0}

flag_starts : (past : Past) (e : ErrorState) (owed : List ErrorEvent) (role : Role) → Starts past (flag_of e owed role)
flag_starts past Active owed role = tt
flag_starts past Passive owed role = tt
flag_starts past Off owed role = tt

-- more levels
pub from_more : (past : Past) (start : ℕ) (given levels : List Bool) (pairs : List Pair) (after : Past) →
    From past start given → sampled_in pairs ≡ levels → after.first ≡ past.first → after.pairs ≡ past.pairs ++ pairs →
    From after start (given ++ levels)
from_more past start given levels pairs after h e first more = record {
  before = h.before;
  during = h.during ++ pairs;
  pairs_are = more ∙ ap (λ p. p ++ pairs) h.pairs_are ∙ append_assoc h.before h.during pairs;
  text_is = sampled_append h.during pairs ∙ ap (λ t. t ++ sampled_in pairs) h.text_is ∙ ap (λ t. given ++ t) e;
  start_is = h.start_is ∙ ap (λ n. n + length h.before) (sym first);
}

pub sof_place : (first n : ℕ) (pairs : List Pair) (now : ℕ) → now ≡ first →
    first + length pairs + n ≡ now + length (pairs ++ listening (recessive n))
sof_place first n pairs now e =
    omega (
      arith,
      e,
      length-append pairs (listening (recessive n)),
      length-map {B = Pair} (recessive n) (λ (l : Bool). record { driven = true; sampled = l }),
      length-replicate n true,
    )

-- SOF behind n recessive levels
sof_behind : (past : Past) (n : ℕ) (after : Past) → after.first ≡ past.first →
    after.pairs ≡ past.pairs ++ listening (recessive n ++ false ∷ []) →
    From after (past.first + length past.pairs + n) (false ∷ [])
sof_behind past n after first is = record {
  before = past.pairs ++ listening (recessive n);
  during = record { driven = true; sampled = false } ∷ [];
  pairs_are = is ∙ ap (λ p. past.pairs ++ p)
      (map-append (λ (l : Bool). record { driven = true; sampled = l }) (recessive n) (false ∷ []))
      ∙ sym (append_assoc past.pairs (listening (recessive n)) _);
  text_is = refl;
  start_is = sof_place past.first n past.pairs after.first first;
}

-- where a send or a take begins after an episode, that is what it sampled from there on
course_starts : (past : Past) {phase next : Phase} {pairs : List Pair} {events : List ErrorEvent} {outcome : Outcome} →
    Starts past phase →
    Course (past.first + length past.pairs) past.events phase pairs events outcome next →
    Starts (with_episode past phase pairs events outcome) next
course_starts past h (synced broken b) = tt
course_starts past h (resumed n) = sof_behind past n _ refl refl
course_starts past h (completed start given frame driven sampled send) = tt
course_starts past h (lost start given frame driven seen bit place) =
    subst (From (with_episode past (Send start given frame)
    (driving driven seen ++ record { driven = true; sampled = false } ∷ []) [] Lost) start)
    (sym (append_assoc given seen (false ∷ [])))
    (from_more past start given (seen ++ false ∷ []) _ _ h.0
    (sampled_append (driving driven seen) _ ∙ ap (λ t. t ++ false ∷ []) (sampled_driving driven seen bit.same_place))
    refl refl)
course_starts past h (stuff_lost start given frame driven seen bit place) = flag_starts _ _ _ _
course_starts past h (unacknowledged start given frame driven seen bit) = flag_starts _ _ _ _
course_starts past h (bit_differs start given frame driven seen level bit no_loss no_stuff) = flag_starts _ _ _ _
course_starts past h (took start given may_begin levels pairs events frame reads front) = tt
course_starts past h (spoiled start given may_begin levels level pairs events kind reads fault) = flag_starts _ _ _ _
course_starts past h recessive_last_bit = tt
course_starts past h late_overload = tt
course_starts past h (flagged role levels size) = tt
course_starts past h (overload_flagged role levels size) = tt
course_starts past h (passive_flagged owed role levels level before six) = tt
course_starts past h (delimited kind role run n) = tt
course_starts past h (truncated kind role run n k some below) = flag_starts _ _ _ _
course_starts past h (overloaded kind role run n) = tt
course_starts past h (intermission_ended role goes) = tt
course_starts past h (intermission_suspended role waits) = tt
course_starts past h (pressed role k below) = tt
course_starts past h (hurried role) = sof_behind past 2 _ refl refl
course_starts past h waited = tt
course_starts past h (overtaken k below) = sof_behind past k _ refl refl
course_starts past h (recovered text whole) = tt

episode_starts : (past : Past) {phase next : Phase} {pairs : List Pair} {events : List ErrorEvent} {outcome : Outcome} →
    Starts past phase →
    Episode (past.first + length past.pairs) past.events phase pairs events outcome next →
    Starts (with_episode past phase pairs events outcome) next
episode_starts past h (begun n frame is on) = (
  record {
    before = past.pairs ++ listening (recessive n);
    during = [];
    pairs_are = sym (append-nil _);
    text_is = refl;
    start_is = sof_place past.first n past.pairs past.first refl;
  },
  is,
)
episode_starts past h (joined start given frame is on) = (
  record {
    before = h.before;
    during = h.during;
    pairs_are = append-nil past.pairs ∙ h.pairs_are;
    text_is = h.text_is;
    start_is = h.start_is;
  },
  is,
)
episode_starts past h (ends course on) = course_starts past h course
episode_starts past h (off_within pair event goes on then_goes off) = tt
episode_starts past h (off_at_end pair event goes on course off) = tt

-- the samples of a node from the SOF of the frame that it sends or takes are those that were given
pub starts : {past : Past} {phase : Phase} → Whole past phase → Starts past phase
starts (switched_on first) = tt
starts (then whole episode) = episode_starts _ (starts whole) episode
