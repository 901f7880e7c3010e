-- A past is split into episodes in one way only.
use Rattle.std.proofs.Common.{◌≡◌, ℕ, ◌+◌, ◌≤◌, inl, inr, Bool, true, List, [], ◌∷◌, ◌++◌, length, refl, sym, ap, subst}
use Rattle.std.proofs.Common.{arith, ◌∙◌}
use Rattle.std.specs.List.{Contains}
use Rattle.std.proofs.lemmas.List.{append_assoc, append-nil, append_cancel_left, length-append, length-map}
use Rattle.std.proofs.lemmas.List.{length-replicate}
use Rattle.std.proofs.lemmas.List.Elements.{Contains-append_cases}
use Rattle.can_frame.specs.Frames.{FrameValue}
use Rattle.can_confinement.specs.declared.confinement.ErrorEvent.{ErrorEvent}
use Rattle.can_node.specs.declared.outcome.Outcome.{Outcome}
use Rattle.can_node.specs.declared.outcome.Outcome.TheVariants.{Nothing}
use Rattle.can_node.specs.Pairs.{Pair, listening, recessive}
use Rattle.can_node.specs.Phases.{Phase, wants_start, sent_from}
use Rattle.can_node.specs.Phases.Phase.{Sync, Send}
use Rattle.can_node.specs.Episodes.{Begun, AreOn}
use Rattle.can_node.specs.Episodes.Begun.{idling}
use Rattle.can_node.specs.Histories.{Past, Whole, IsOnOutside, no_past, with_episode, begins}
use Rattle.can_node.specs.Histories.Whole.{switched_on, then}
use Rattle.can_node.specs.Splits.{Onward, Continues}
use Rattle.can_node.specs.Splits.Onward.{stays, goes_on}
use Rattle.can_node.specs.UniqueSplits.{OneSplit, OneWanting, OneSending}
use Rattle.can_node.proofs.Heard.{continues_grows}
use Rattle.can_node.proofs.Located.{one_more}
use Rattle.can_node.proofs.Stamps.{begins_is}
use Rattle.can_node.proofs.OneSplitLists.{fronts}
use Rattle.can_node.proofs.OneSplitEvents.{Fit, place_fits, SameEnd}
use Rattle.can_node.proofs.OneSplitEpisodes.{Ending, Starting, Kind, kind, not_within, went_on, same_pairs}
use Rattle.can_node.proofs.OneSplitEpisodes.{ending_same}
use Rattle.can_node.proofs.OneSplitEpisodes.Starting.{from_idle, from_sof}
use Rattle.can_node.proofs.OneSplitEpisodes.Kind.{starting, ending}

-- What is begun behind a place of a history: what its phase begins there, and more, which is no earlier.
record BegunLater (past from : Past) (phase : Phase) : Type 0 where
  more : List (ℕ × FrameValue)
  is : past.begun ≡ from.begun ++ (begins (from.first + length from.pairs) phase ++ more)
  late : (bit : ℕ) (frame : FrameValue) → Contains more (bit, frame) → from.first + length from.pairs ≤ bit

late_begins : (at bit : ℕ) (phase : Phase) (frame : FrameValue) (more : List (ℕ × FrameValue)) →
    ((bit : ℕ) (frame : FrameValue) → Contains more (bit, frame) → at ≤ bit) →
    Contains (begins at phase ++ more) (bit, frame) → at ≤ bit
late_begins at bit phase frame more late c = elim (Contains-append_cases (begins at phase) more (bit, frame) c) [
  | inl now ↦ (let b = begins_is at bit phase frame now in omega (arith, b.bit_is))
  | inr later ↦ late bit frame later
]

begun_onward : {from to : Past} {phase last : Phase} (past : Past) → Onward from phase to last →
    past.begun ≡ to.begun ++ begins (to.first + length to.pairs) last → BegunLater past from phase
begun_onward {from = from} {phase = phase} past stays e = record {
  more = [];
  is = e ∙ ap (λ b. from.begun ++ b) (sym (append-nil (begins (from.first + length from.pairs) phase)));
  late = λ bit frame c. absurd (omega (arith, c.1));
}
begun_onward past (goes_on {past = from} {phase = phase} {next = next} {pairs = pairs} episode onward) e =
    let h = begun_onward past onward e in
    let at : ℕ = from.first + length (from.pairs ++ pairs) in record {
      more = begins at next ++ h.more;
      is = h.is ∙ append_assoc from.begun (begins (from.first + length from.pairs) phase) (begins at next ++ h.more);
      late = λ bit frame c.
          omega (arith, late_begins at bit next frame h.more h.late c, length-append from.pairs pairs);
    }

begun_later : {from past : Past} {phase : Phase} → Continues from phase past → BegunLater past from phase
begun_later {past = past} h = begun_onward past h.onward (ap (λ (p : Past). p.begun) h.past_is)

-- nothing is begun where an episode starts that is left to begin a send
start_begins_none : {at : ℕ} {before : List ErrorEvent} {phase next : Phase} {pairs : List Pair} {frame : FrameValue}
    (bit : ℕ) → Starting at before phase pairs frame next → begins bit phase ≡ []
start_begins_none bit (from_idle n frame on) = refl
start_begins_none bit (from_sof start given frame) = refl

start_begins : {at : ℕ} {before : List ErrorEvent} {phase next : Phase} {pairs : List Pair} {frame : FrameValue}
    (bit : ℕ) → Starting at before phase pairs frame next → begins bit next ≡ (bit, frame) ∷ []
start_begins bit (from_idle n frame on) = refl
start_begins bit (from_sof start given frame) = refl

-- the first frame that is begun behind that place is that of the send
record BegunNow (past from : Past) (bit : ℕ) (frame : FrameValue) : Type 0 where
  more : List (ℕ × FrameValue)
  is : past.begun ≡ from.begun ++ (bit, frame) ∷ more

begun_now : {at : ℕ} {before : List ErrorEvent} {from past : Past} {phase next : Phase} {pairs : List Pair}
    {frame : FrameValue} → Starting at before phase pairs frame next →
    Continues (with_episode from phase pairs [] Nothing) next past →
    BegunNow past from (from.first + length (from.pairs ++ pairs)) frame
begun_now {from = from} {phase = phase} {next = next} {pairs = pairs} h continues =
    let l = begun_later continues in
    let bit : ℕ = from.first + length (from.pairs ++ pairs) in record {
      more = l.more;
      is = l.is ∙ ap (λ b. (from.begun ++ b) ++ (begins bit next ++ l.more))
          (start_begins_none (from.first + length from.pairs) h)
          ∙ ap (λ b. b ++ (begins bit next ++ l.more)) (append-nil from.begun)
          ∙ ap (λ b. from.begun ++ (b ++ l.more)) (start_begins bit h);
    }

-- what the pairs are behind a place
pairs_behind : {past : Past} (from : Past) (phase next : Phase) (pairs : List Pair) (events : List ErrorEvent)
    (outcome : Outcome) → Continues (with_episode from phase pairs events outcome) next past →
    (r : List Pair) × (past.pairs ≡ from.pairs ++ (pairs ++ r))
pairs_behind from phase next pairs events outcome continues =
    let g = continues_grows continues in (g.more, g.pairs_are ∙ append_assoc from.pairs pairs g.more)

-- the waiting before a send holds no whole episode
none_waiting : {at : ℕ} {before : List ErrorEvent} {phase next other : Phase} {pairs more : List Pair}
    {frame : FrameValue} {events : List ErrorEvent} {outcome : Outcome} (r : List Pair) → Fit phase →
    Starting at before phase pairs frame next → Ending at before phase more events outcome other →
    pairs ≡ more ++ r → ⊥
none_waiting {before = before} r fit (from_idle n frame on) h e =
    not_within r fit h (idling n) (subst AreOn (sym (append-nil before)) on) e
none_waiting {more = more} r fit (from_sof start given frame) h e =
    let w = went_on fit h in
    omega (
      arith,
      ap length e,
      ap length w.is,
      length-append more r,
      length-append w.shorter (w.last ∷ []),
    )

same_length : {X : Type 0} (xs ys m : List X) → ys ≡ xs ++ m → length ys ≤ length xs → xs ≡ ys ++ []
same_length xs ys [] e few = sym (append-nil xs) ∙ sym e ∙ sym (append-nil ys)
same_length xs ys (x ∷ m) e few = absurd (omega (arith, ap length e, few, length-append xs (x ∷ m)))

-- so where one history begins to send the other does not end an episode
start_or_end : {past : Past} {phase next other : Phase} {pairs more : List Pair} {frame : FrameValue}
    {events : List ErrorEvent} {outcome : Outcome} (from : Past) → Fit phase →
    Starting (from.first + length from.pairs) from.events phase pairs frame next →
    Continues (with_episode from phase pairs [] Nothing) next past →
    Ending (from.first + length from.pairs) from.events phase more events outcome other →
    Continues (with_episode from phase more events outcome) other past → ⊥
start_or_end {phase = phase} {next = next} {other = other} {pairs = pairs} {more = more} {frame = frame}
    {events = events} {outcome = outcome} from fit h first k second =
    let now = begun_now h first in
    let later = begun_later second in
    let bit : ℕ = from.first + length (from.pairs ++ pairs) in
    let end : ℕ = from.first + length (from.pairs ++ more) in
    let rest = begins end other ++ later.more in
    let same : (bit, frame) ∷ now.more ≡ rest =
    append_cancel_left from.begun ((bit, frame) ∷ now.more) rest
    (sym now.is ∙ later.is
    ∙ ap (λ b. (from.begun ++ b) ++ rest) (start_begins_none (from.first + length from.pairs) h)
    ∙ ap (λ b. b ++ rest) (append-nil from.begun)) in
    let late : end ≤ bit =
    late_begins end bit other frame later.more later.late
    (subst (λ b. Contains b (bit, frame)) same (0, omega arith, refl)) in
    let few : length more ≤ length pairs =
    omega (arith, late, length-append from.pairs pairs, length-append from.pairs more) in
    let p = pairs_behind from phase next pairs [] Nothing first in
    let q = pairs_behind from phase other more events outcome second in
    let both : pairs ++ p.0 ≡ more ++ q.0 =
    append_cancel_left from.pairs (pairs ++ p.0) (more ++ q.0) (sym p.1 ∙ q.1) in
    elim (fronts pairs more p.0 q.0 both) [
      | inl longer ↦ none_waiting [] fit h k (same_length pairs more longer.0 longer.1 few)
      | inr shorter ↦ none_waiting shorter.0 fit h k shorter.1
    ]

-- one step of two splits
pub record SameStep (pairs more : List Pair) (events counted : List ErrorEvent) (outcome reported : Outcome)
    (next other : Phase) : Type 0 where
  pub pairs_are : more ≡ pairs
  pub end : SameEnd events counted outcome reported next other

start_is : {at : ℕ} {before : List ErrorEvent} {phase next other : Phase} {pairs more : List Pair}
    {frame begun : FrameValue} → Starting at before phase pairs frame next →
    Starting at before phase more begun other → length more ≡ length pairs → frame ≡ begun →
    SameStep pairs more [] [] Nothing Nothing next other
start_is {at = at} (from_idle n frame on) (from_idle m begun still) size same =
    let waits : m ≡ n =
    omega (
      arith,
      size,
      length-map {B = Pair} (recessive m) (λ (l : Bool). record { driven = true; sampled = l }),
      length-map {B = Pair} (recessive n) (λ (l : Bool). record { driven = true; sampled = l }),
      length-replicate m true,
      length-replicate n true,
    ) in record {
      pairs_are = ap (λ k. listening (recessive k)) waits;
      end = record {
        events_are = refl;
        outcome_is = refl;
        next_is = ap (λ k. Send (at + k) [] frame) (sym waits) ∙ ap (λ f. Send (at + m) [] f) same;
      };
    }
start_is (from_sof start given frame) (from_sof s g begun) size same =
    record {
      pairs_are = refl;
      end = record { events_are = refl; outcome_is = refl; next_is = ap (Send start given) same };
    }

both_start : {past : Past} {phase next other : Phase} {pairs more : List Pair} {frame begun : FrameValue}
    (from : Past) →
    Starting (from.first + length from.pairs) from.events phase pairs frame next →
    Continues (with_episode from phase pairs [] Nothing) next past →
    Starting (from.first + length from.pairs) from.events phase more begun other →
    Continues (with_episode from phase more [] Nothing) other past → SameStep pairs more [] [] Nothing Nothing next other
both_start {pairs = pairs} {more = more} {frame = frame} {begun = begun} from h first k second =
    let now = begun_now h first in
    let later = begun_now k second in
    let bit : ℕ = from.first + length (from.pairs ++ pairs) in
    let place : ℕ = from.first + length (from.pairs ++ more) in
    let same : (bit, frame) ∷ now.more ≡ (place, begun) ∷ later.more =
    append_cancel_left from.begun ((bit, frame) ∷ now.more) ((place, begun) ∷ later.more) (sym now.is ∙ later.is) in
    let heads : ◌≡◌ {A = ℕ × FrameValue} (bit, frame) (place, begun) = cc same in
    let bits : bit ≡ place = ap (λ (x : ℕ × FrameValue). x.0) heads in
    start_is h k (omega (arith, bits, length-append from.pairs pairs, length-append from.pairs more))
    (ap (λ (x : ℕ × FrameValue). x.1) heads)

-- two episodes that stand at one place of a past are one
pub same_step : {past : Past} {phase next other : Phase} {pairs more : List Pair} {events counted : List ErrorEvent}
    {outcome reported : Outcome} (from : Past) → Fit phase →
    Kind (from.first + length from.pairs) from.events phase pairs events outcome next →
    Continues (with_episode from phase pairs events outcome) next past →
    Kind (from.first + length from.pairs) from.events phase more counted reported other →
    Continues (with_episode from phase more counted reported) other past →
    SameStep pairs more events counted outcome reported next other
same_step from fit (starting frame h) first (starting begun k) second = both_start from h first k second
same_step from fit (starting frame h) first (ending k) second = absurd (start_or_end from fit h first k second)
same_step from fit (ending h) first (starting begun k) second = absurd (start_or_end from fit k second h first)
same_step {phase = phase} {next = next} {other = other} {pairs = pairs} {more = more} {events = events}
    {counted = counted} {outcome = outcome} {reported = reported} from fit (ending h) first (ending k) second =
    let p = pairs_behind from phase next pairs events outcome first in
    let q = pairs_behind from phase other more counted reported second in
    let same = same_pairs p.0 q.0 fit h k
    (append_cancel_left from.pairs (pairs ++ p.0) (more ++ q.0) (sym p.1 ∙ q.1)) in
    record { pairs_are = same; end = ending_same fit h k same }

-- the last episode of a past, which goes on
record Last (past done : Past) (phase : Phase) (part : List Pair) (counting : List ErrorEvent) : Type 0 where
  goes : Begun phase part counting
  on : IsOnOutside phase (done.events ++ counting)
  past_is : past ≡ with_episode done phase part counting Nothing

continues : {from to past : Past} {phase last : Phase} {part : List Pair} {counting : List ErrorEvent} →
    Onward from phase to last → Last past to last part counting → Continues from phase past
continues {to = to} {last = last} {part = part} {counting = counting} onward h = record {
  to = to;
  last = last;
  part = part;
  counting = counting;
  onward = onward;
  begun = h.goes;
  on = h.on;
  past_is = h.past_is;
}

-- where one history goes on to its end the other does not end an episode, nor begin to send
no_stop : {past : Past} {phase next : Phase} {part pairs : List Pair} {counting events : List ErrorEvent}
    {outcome : Outcome} (from : Past) → Fit phase → Last past from phase part counting →
    Kind (from.first + length from.pairs) from.events phase pairs events outcome next →
    Continues (with_episode from phase pairs events outcome) next past → ⊥
no_stop {phase = phase} {pairs = pairs} from fit l (starting frame h) behind =
    let now = begun_now h behind in
    let none : from.begun ++ [] ≡ from.begun ++ (from.first + length (from.pairs ++ pairs), frame) ∷ now.more =
    ap (λ b. from.begun ++ b) (sym (start_begins_none (from.first + length from.pairs) h))
    ∙ sym (ap (λ (p : Past). p.begun) l.past_is) ∙ now.is in
    omega (arith, ap length (append_cancel_left from.begun [] _ none))
no_stop {phase = phase} {next = next} {part = part} {pairs = pairs} {events = events} {outcome = outcome} from fit l
    (ending h) behind =
    let p = pairs_behind from phase next pairs events outcome behind in
    not_within p.0 fit h l.goes l.on
    (append_cancel_left from.pairs part (pairs ++ p.0) (sym (ap (λ (q : Past). q.pairs) l.past_is) ∙ p.1))

record SameSplit (to other : Past) (last final : Phase) (part longer : List Pair)
    (counting counted : List ErrorEvent) : Type 0 where
  done_is : to ≡ other
  phase_is : last ≡ final
  part_is : part ≡ longer
  counting_is : counting ≡ counted

-- Two splits of a past from one place on are the same.
same_split : {from to other past : Past} {phase last final : Phase} {part longer : List Pair}
    {counting counted : List ErrorEvent} → Whole from phase → Onward from phase to last →
    Last past to last part counting → Onward from phase other final → Last past other final longer counted →
    SameSplit to other last final part longer counting counted
same_split {from = from} {part = part} {longer = longer} {counting = counting} {counted = counted} whole stays l stays m =
    record {
      done_is = refl;
      phase_is = refl;
      part_is = append_cancel_left from.pairs part longer
          (sym (ap (λ (p : Past). p.pairs) l.past_is) ∙ ap (λ (p : Past). p.pairs) m.past_is);
      counting_is = append_cancel_left from.events counting counted
          (sym (ap (λ (p : Past). p.events) l.past_is) ∙ ap (λ (p : Past). p.events) m.past_is);
    }
same_split {from = from} whole stays l (goes_on episode onward) m =
    absurd (no_stop from (place_fits whole) l (kind episode) (continues onward m))
same_split {from = from} whole (goes_on episode onward) l stays m =
    absurd (no_stop from (place_fits whole) m (kind episode) (continues onward l))
same_split {from = from} {other = to} {phase = phase} {final = final} whole
    (goes_on {next = next} {pairs = pairs} {events = events} {outcome = outcome} episode onward) l
    (goes_on {next = other} {pairs = more} {events = counted} {outcome = reported} second rest) m =
    let s = same_step from (place_fits whole) (kind episode) (continues onward l) (kind second) (continues rest m) in
    let moved : Onward (with_episode from phase pairs events outcome) next to final =
    subst (λ n. Onward (with_episode from phase pairs events outcome) n to final) (sym s.end.next_is)
    (subst (λ o. Onward (with_episode from phase pairs events o) other to final) (sym s.end.outcome_is)
    (subst (λ es. Onward (with_episode from phase pairs es reported) other to final) (sym s.end.events_are)
    (subst (λ ps. Onward (with_episode from phase ps counted reported) other to final) s.pairs_are rest))) in
    same_split (then whole episode) onward l moved m

-- whole episodes follow from the first bit
pub from_first : {to : Past} {last : Phase} → Whole to last → Onward (no_past to.first) Sync to last
from_first (switched_on first) = stays
from_first (then whole episode) = one_more (from_first whole) episode

-- a past is split into episodes in one way only
pub one_split : OneSplit
one_split past a b =
    let first : a.done.first ≡ b.done.first =
    sym (ap (λ (p : Past). p.first) a.past_is) ∙ ap (λ (p : Past). p.first) b.past_is in
    let s = same_split (switched_on a.done.first) (from_first a.whole)
    (record { goes = a.goes_on; on = a.on; past_is = a.past_is })
    (subst (λ n. Onward (no_past n) Sync b.done b.phase) (sym first) (from_first b.whole))
    (record { goes = b.goes_on; on = b.on; past_is = b.past_is }) in
    (s.done_is, s.phase_is, s.part_is, s.counting_is)

pub one_wanting : OneWanting
one_wanting past x y h k =
    let same = one_split past h.history k.history in
    h.wants_is ∙ ap (λ p. wants_start p h.history.part) same.1 ∙ ap (wants_start k.history.phase) same.2
    ∙ sym k.wants_is

pub one_sending : OneSending
one_sending past x y h k =
    h.start_is ∙ ap sent_from (one_split past h.history k.history).1 ∙ sym k.start_is
