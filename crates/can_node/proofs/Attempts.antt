-- What is begun and reported at the bits of an attempt.
use Rattle.std.proofs.Common.{◌≡◌, inl, inr, ◌⊎◌, ℕ, ◌+◌, ◌-◌, ◌≤◌, Bool, List, [], ◌∷◌, ◌++◌, length, refl, sym, ap}
use Rattle.std.proofs.Common.{subst, arith, ◌∙◌}
use Rattle.std.specs.List.{Contains}
use Rattle.std.proofs.lemmas.List.{append-nil, append_assoc, length-append}
use Rattle.std.proofs.lemmas.List.Elements.{Contains-append_cases, Contains-append_left, Contains-append_right}
use Rattle.can_frame.specs.Frames.{FrameValue}
use Rattle.can_confinement.specs.declared.confinement.ErrorEvent.{ErrorEvent}
use Rattle.can_confinement.specs.declared.confinement.ErrorState.{ErrorState}
use Rattle.can_node.specs.declared.outcome.Outcome.{Outcome}
use Rattle.can_node.specs.declared.outcome.Outcome.TheVariants.{Completed}
use Rattle.can_confinement.specs.Confinement.{state_after}
use Rattle.can_node.specs.Pairs.{Pair}
use Rattle.can_node.specs.Phases.{Phase}
use Rattle.can_node.specs.Phases.Phase.{Send}
use Rattle.can_node.specs.Episodes.{Episode}
use Rattle.can_node.specs.Episodes.Course.{completed, lost, stuff_lost, unacknowledged, bit_differs}
use Rattle.can_node.specs.Episodes.Episode.{ends, off_within, off_at_end}
use Rattle.can_node.specs.Histories.{Past, Whole, with_episode, noted, begins, IsHistory}
use Rattle.can_node.specs.Histories.Whole.{switched_on, then}
use Rattle.can_node.specs.Splits.{Onward, Continues, HasLast, IsAttempt}
use Rattle.can_node.specs.Splits.Onward.{stays, goes_on}
use Rattle.can_node.specs.Attempts.{first_bit, IsAttemptFrom, IsOpenAttempt, SendsAlone}
use Rattle.can_node.proofs.Texts.{starts}
use Rattle.can_node.proofs.Outcomes.{IsEnd, attempt_end, completed_some, continues_reports}
use Rattle.can_node.proofs.Outcomes.IsEnd.{is_completed, is_lost, is_error, is_off}
use Rattle.can_node.proofs.Located.{one_more}
use Rattle.can_node.proofs.Stamps.{noted_is, begins_is, some_bits, reported_before, begun_before, reported_behind, begun_behind}

-- a send that is over has driven some level
some_last : (pairs : List Pair) (pair : Pair) → 1 ≤ length (pairs ++ pair ∷ [])
some_last pairs pair = omega (arith, length-append pairs (pair ∷ []))

sent_some : {at start : ℕ} {before : List ErrorEvent} {given : List Bool} {pairs : List Pair} {events : List ErrorEvent}
    {outcome : Outcome} {next : Phase} {frame : FrameValue} →
    Episode at before (Send start given frame) pairs events outcome next → (outcome ≡ Completed → 1 ≤ length pairs) →
    1 ≤ length pairs
sent_some (ends (completed start given frame driven sampled send) on) whole = whole refl
sent_some (ends (lost start given frame driven seen bit place) on) whole = some_last _ _
sent_some (ends (stuff_lost start given frame driven seen bit place) on) whole = some_last _ _
sent_some (ends (unacknowledged start given frame driven seen bit) on) whole = some_last _ _
sent_some (ends (bit_differs start given frame driven seen level bit no_loss no_stuff) on) whole = some_last _ _
sent_some (off_within pair event goes on more off) whole = some_last _ _
sent_some (off_at_end pair event goes on course off) whole = some_last _ _

pub attempt_some : {past : Past} {start end : ℕ} {frame : FrameValue} {state : ErrorState} {outcome : Outcome}
    (h : IsAttempt past start frame state end outcome) → 1 ≤ length h.pairs
attempt_some h = sent_some h.here.episode (λ e. completed_some h.here.episode e (starts h.here.whole).1)

-- how a send ends is reported
noted_end : {outcome : Outcome} (at : ℕ) → IsEnd outcome → Contains (noted at outcome) (at, outcome)
noted_end at is_completed = (0, omega arith, refl)
noted_end at is_lost = (0, omega arith, refl)
noted_end at (is_error kind) = (0, omega arith, refl)
noted_end at is_off = (0, omega arith, refl)

-- what was begun stays so behind it
record Keeps (from to : Past) : Type 0 where
  more : List (ℕ × FrameValue)
  begun_is : to.begun ≡ from.begun ++ more

keeps : {from to : Past} {phase last : Phase} → Onward from phase to last → Keeps from to
keeps {from = from} stays = record { more = []; begun_is = sym (append-nil from.begun) }
keeps (goes_on {past = past} {phase = phase} episode onward) =
    let h = keeps onward in
    let here = begins (past.first + length past.pairs) phase in
    record { more = here ++ h.more; begun_is = h.begun_is ∙ append_assoc past.begun here h.more }

stays_begun : {from past : Past} {phase : Phase} (x : ℕ × FrameValue) → Continues from phase past → Contains from.begun x →
    Contains past.begun x
stays_begun {from = from} x h c =
    let k = keeps h.onward in
    let last = begins (h.to.first + length h.to.pairs) h.last in
    subst (λ bs. Contains bs x) (sym (ap (λ (p : Past). p.begun) h.past_is ∙ ap (λ bs. bs ++ last) k.begun_is))
    (Contains-append_left (from.begun ++ k.more) last x (Contains-append_left from.begun k.more x c))

-- the outcome of an attempt is reported, and in its bits nothing else
pub attempts_stand_alone : (past : Past) (start end : ℕ) (frame : FrameValue) (state : ErrorState) (outcome : Outcome)
    (attempt : IsAttempt past start frame state end outcome) →
    SendsAlone past (first_bit attempt) end frame outcome
attempts_stand_alone past start end frame state outcome h =
    let first : ℕ = h.done.first + length h.done.pairs in
    let size = length-append h.done.pairs h.pairs in
    let some = attempt_some h in
    let last : h.done.first + length (h.done.pairs ++ h.pairs) - 1 ≡ end = omega (arith, h.end_is) in
    let reported : Contains (noted (h.done.first + length (h.done.pairs ++ h.pairs) - 1) outcome) (end, outcome) =
    subst (λ n. Contains (noted n outcome) (end, outcome)) (sym last)
    (noted_end end (attempt_end past start end frame state outcome h)) in
    record {
      in_order = omega (arith, h.end_is, size, some);
      begun = stays_begun (first, frame) h.here.continues
          (Contains-append_right h.done.begun ((first, frame) ∷ []) (first, frame) (0, omega arith, refl));
      reported = continues_reports (end, outcome) h.here.continues (Contains-append_right h.done.outcomes _ (end, outcome) reported);
      none_begun = λ bit other from to c. elim (begun_behind bit other h.here.continues c) [
        | inl whole ↦ elim (Contains-append_cases h.done.begun ((first, frame) ∷ []) (bit, other) whole) [
          | inl before ↦ omega (arith, begun_before bit other h.here.whole before, from)
          | inr now ↦ (let b = begins_is first bit (Send start h.given frame) other now in
              omega (arith, b.bit_is, from))
        ]
        | inr later ↦ omega (arith, later, h.end_is, to)
      ];
      none_reported = λ bit other from to c. elim (reported_behind bit other h.here.continues c) [
        | inl whole ↦ elim (Contains-append_cases h.done.outcomes
            (noted (h.done.first + length (h.done.pairs ++ h.pairs) - 1) outcome) (bit, other) whole) [
              | inl before ↦ omega (arith, reported_before bit other h.here.whole before, from)
              | inr now ↦ (let n = noted_is _ bit outcome other now in omega (arith, n.0, last, to))
            ]
        | inr later ↦ omega (arith, later, h.end_is, to)
      ];
    }

-- from the first bit of a transmission that goes on, nothing is reported
pub open_reports_nothing : (past : Past) (first : ℕ) (frame : FrameValue) → IsOpenAttempt past first frame →
    (bit : ℕ) (outcome : Outcome) → first ≤ bit → Contains past.outcomes (bit, outcome) → ⊥
open_reports_nothing past first frame h bit outcome from c =
    let before : Contains h.done.outcomes (bit, outcome) =
    subst (λ os. Contains os (bit, outcome))
    (ap (λ (p : Past). p.outcomes) h.here.past_is ∙ append-nil h.done.outcomes) c in
    omega (arith, reported_before bit outcome h.here.whole before, h.first_is, from)

-- the send that began with this bit
record Located (to : Past) (last : Phase) (bit : ℕ) (frame : FrameValue) : Type 0 where
  done : Past
  start : ℕ
  given : List Bool
  pairs : List Pair
  events : List ErrorEvent
  outcome : Outcome
  next : Phase
  whole : Whole done (Send start given frame)
  episode : Episode (done.first + length done.pairs) done.events (Send start given frame) pairs events outcome next
  onward : Onward (with_episode done (Send start given frame) pairs events outcome) next to last
  first_is : done.first + length done.pairs ≡ bit

located_now : {past : Past} {phase next : Phase} {pairs : List Pair} {events : List ErrorEvent} {outcome : Outcome}
    (bit start : ℕ) (given : List Bool) (frame : FrameValue) → phase ≡ Send start given frame → Whole past phase →
    Episode (past.first + length past.pairs) past.events phase pairs events outcome next →
    past.first + length past.pairs ≡ bit → Located (with_episode past phase pairs events outcome) next bit frame
located_now {past = past} {next = next} {pairs = pairs} {events = events} {outcome = outcome} bit start given frame is
    whole episode first =
    let P : Phase → Type 0 = λ phase. Whole past phase →
    Episode (past.first + length past.pairs) past.events phase pairs events outcome next →
    Located (with_episode past phase pairs events outcome) next bit frame in
    subst P (sym is) (λ w e. record {
      done = past;
      start = start;
      given = given;
      pairs = pairs;
      events = events;
      outcome = outcome;
      next = next;
      whole = w;
      episode = e;
      onward = stays;
      first_is = first;
    }) whole episode

locate : {to : Past} {last : Phase} (bit : ℕ) (frame : FrameValue) → Whole to last → Contains to.begun (bit, frame) →
    Located to last bit frame
locate bit frame (switched_on first) c = absurd (omega (arith, c.1))
locate bit frame (then {past = past} {phase = phase} {next = next} {pairs = pairs} {events = events} {outcome = reported}
    whole episode) c =
    elim (Contains-append_cases past.begun (begins (past.first + length past.pairs) phase) (bit, frame) c) [
      | inl before ↦ (let l = locate bit frame whole before in record {
        done = l.done;
        start = l.start;
        given = l.given;
        pairs = l.pairs;
        events = l.events;
        outcome = l.outcome;
        next = l.next;
        whole = l.whole;
        episode = l.episode;
        onward = one_more l.onward episode;
        first_is = l.first_is;
      })
      | inr now ↦ (let b = begins_is (past.first + length past.pairs) bit phase frame now in
          located_now bit b.start b.given frame b.phase_is whole episode (sym b.bit_is))
    ]

open_now : {past done : Past} {phase : Phase} {part : List Pair} {counting : List ErrorEvent} (bit start : ℕ)
    (given : List Bool) (frame : FrameValue) → phase ≡ Send start given frame → HasLast past done phase part counting →
    done.first + length done.pairs ≡ bit → IsOpenAttempt past bit frame
open_now {past = past} {done = done} {part = part} {counting = counting} bit start given frame is h first = record {
  start = start;
  given = given;
  done = done;
  part = part;
  counting = counting;
  here = subst (λ phase. HasLast past done phase part counting) is h;
  first_is = first;
}

-- what a node begins to send becomes an attempt, or goes on
pub begun_attempts : (past : Past) (bit : ℕ) (frame : FrameValue) → IsHistory past → Contains past.begun (bit, frame) →
    IsAttemptFrom past bit frame ⊎ IsOpenAttempt past bit frame
begun_attempts past bit frame h c =
    elim (Contains-append_cases h.done.begun (begins (h.done.first + length h.done.pairs) h.phase) (bit, frame)
    (subst (λ bs. Contains bs (bit, frame)) (ap (λ (p : Past). p.begun) h.past_is) c)) [
      | inl before ↦ (let l = locate bit frame h.whole before in
          let bits = some_bits l.whole l.episode in
          inl (record {
            start = l.start;
            state = state_after l.done.events;
            end = l.done.first + length (l.done.pairs ++ l.pairs) - 1;
            outcome = l.outcome;
            attempt = record {
              given = l.given;
              done = l.done;
              pairs = l.pairs;
              events = l.events;
              next = l.next;
              here = record {
                whole = l.whole;
                episode = l.episode;
                continues = record {
                  to = h.done;
                  last = h.phase;
                  part = h.part;
                  counting = h.counting;
                  onward =
                      l.onward;
                  begun = h.goes_on;
                  on = h.on;
                  past_is = h.past_is;
                };
              };
              end_is = omega (arith, bits);
              state_is = refl;
            };
            first_is = l.first_is;
          }))
      | inr now ↦ (let b = begins_is (h.done.first + length h.done.pairs) bit h.phase frame now in
          inr (open_now bit b.start b.given frame b.phase_is
          (record { whole = h.whole; begun = h.goes_on; past_is = h.past_is }) (sym b.bit_is)))
    ]
