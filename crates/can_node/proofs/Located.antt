-- Each completion and each frame taken that a history reports is that of an attempt or a take.
use Rattle.std.proofs.Common.{◌≡◌, inl, inr, ℕ, ◌+◌, ◌-◌, Bool, false, List, ◌++◌, length, refl, ap, subst, arith, ◌∙◌}
use Rattle.std.specs.List.{Contains}
use Rattle.std.proofs.lemmas.List.{append-nil, length-append}
use Rattle.std.proofs.lemmas.List.Elements.{Contains-append_cases}
use Rattle.can_frame.specs.Frames.{FrameValue}
use Rattle.can_confinement.specs.declared.confinement.ErrorEvent.{ErrorEvent}
use Rattle.can_confinement.specs.declared.confinement.ErrorState.{ErrorState}
use Rattle.can_node.specs.declared.outcome.Outcome.{Outcome}
use Rattle.can_node.specs.declared.outcome.Outcome.TheVariants.{Took, Completed}
use Rattle.can_confinement.specs.Confinement.{state_after}
use Rattle.can_node.specs.Pairs.{Pair}
use Rattle.can_node.specs.Phases.{Phase}
use Rattle.can_node.specs.Phases.Phase.{Send, Take}
use Rattle.can_node.specs.Episodes.{Course, Episode}
use Rattle.can_node.specs.Episodes.Course.{synced, resumed, completed, lost, stuff_lost, unacknowledged, bit_differs}
use Rattle.can_node.specs.Episodes.Course.{took, spoiled, recessive_last_bit, late_overload, flagged, overload_flagged}
use Rattle.can_node.specs.Episodes.Course.{passive_flagged, delimited, truncated, overloaded, intermission_ended, intermission_suspended}
use Rattle.can_node.specs.Episodes.Course.{pressed, hurried, waited, overtaken, recovered}
use Rattle.can_node.specs.Episodes.Episode.{begun, joined, ends, off_within, off_at_end}
use Rattle.can_node.specs.Histories.{Past, Whole, with_episode, noted, IsHistory}
use Rattle.can_node.specs.Histories.Whole.{switched_on, then}
use Rattle.can_node.specs.Splits.{Onward, HasEpisode, IsAttempt, IsTake}
use Rattle.can_node.specs.Splits.Onward.{stays, goes_on}
use Rattle.can_node.proofs.Texts.{starts}
use Rattle.can_frame.specs.Fronts.{front_tail}
use Rattle.can_frame.proofs.FrontLaws.{parts}
use Rattle.can_node.proofs.Heard.{read, heard}
use Rattle.can_node.proofs.Outcomes.{completed_some}
use Rattle.can_node.proofs.Stamps.{noted_is}

-- one whole episode more
pub one_more : {from to : Past} {phase last next : Phase} {pairs : List Pair} {events : List ErrorEvent}
    {outcome : Outcome} → Onward from phase to last →
    Episode (to.first + length to.pairs) to.events last pairs events outcome next →
    Onward from phase (with_episode to last pairs events outcome) next
one_more stays episode = goes_on episode stays
one_more (goes_on first onward) episode = goes_on first (one_more onward episode)

-- the episode that ended so at this bit
record Located (to : Past) (last : Phase) (end : ℕ) (outcome : Outcome) : Type 0 where
  done : Past
  phase : Phase
  pairs : List Pair
  events : List ErrorEvent
  next : Phase
  whole : Whole done phase
  episode : Episode (done.first + length done.pairs) done.events phase pairs events outcome next
  onward : Onward (with_episode done phase pairs events outcome) next to last
  end_is : end ≡ done.first + length (done.pairs ++ pairs) - 1

locate : {to : Past} {last : Phase} (end : ℕ) (outcome : Outcome) → Whole to last →
    Contains to.outcomes (end, outcome) → Located to last end outcome
locate end outcome (switched_on first) c = absurd (omega (arith, c.1))
locate end outcome (then {past = past} {phase = phase} {next = next} {pairs = pairs} {events = events} {outcome = reported}
    whole episode) c =
    elim (Contains-append_cases past.outcomes (noted (past.first + length (past.pairs ++ pairs) - 1) reported)
    (end, outcome) c) [
      | inl before ↦ (let l = locate end outcome whole before in
          record {
            done = l.done;
            phase = l.phase;
            pairs = l.pairs;
            events = l.events;
            next = l.next;
            whole =
                l.whole;
            episode = l.episode;
            onward = one_more l.onward episode;
            end_is = l.end_is;
          })
      | inr now ↦ (let n = noted_is (past.first + length (past.pairs ++ pairs) - 1) end reported outcome now in
          subst (Located (with_episode past phase pairs events reported) next end) n.1
          (record {
            done = past;
            phase = phase;
            pairs = pairs;
            events = events;
            next = next;
            whole = whole;
            episode =
                episode;
            onward = stays;
            end_is = n.0;
          }))
    ]

record Found (past : Past) (end : ℕ) (outcome : Outcome) : Type 0 where
  done : Past
  phase : Phase
  pairs : List Pair
  events : List ErrorEvent
  next : Phase
  here : HasEpisode past done phase pairs events outcome next
  end_is : end ≡ done.first + length (done.pairs ++ pairs) - 1

find : (past : Past) (end : ℕ) (outcome : Outcome) → IsHistory past → Contains past.outcomes (end, outcome) →
    Found past end outcome
find past end outcome h c =
    let l = locate end outcome h.whole
    (subst (λ os. Contains os (end, outcome)) (ap (λ (p : Past). p.outcomes) h.past_is ∙ append-nil h.done.outcomes)
    c) in
    record {
      done = l.done;
      phase = l.phase;
      pairs = l.pairs;
      events = l.events;
      next = l.next;
      here = record {
        whole = l.whole;
        episode = l.episode;
        continues =
            record {
              to = h.done;
              last = h.phase;
              part = h.part;
              counting = h.counting;
              onward = l.onward;
              begun =
                  h.goes_on;
              on = h.on;
              past_is = h.past_is;
            };
      };
      end_is = l.end_is;
    }

record IsSendOf (phase : Phase) : Type 0 where
  start : ℕ
  given : List Bool
  frame : FrameValue
  is : phase ≡ Send start given frame

course_completed : {at : ℕ} {before : List ErrorEvent} {phase next : Phase} {pairs : List Pair}
    {events : List ErrorEvent} {outcome : Outcome} →
    Course at before phase pairs events outcome next → outcome ≡ Completed → IsSendOf phase
course_completed (synced broken b) e = absurd (cc e)
course_completed (resumed n) e = absurd (cc e)
course_completed (completed start given frame driven sampled send) e =
    record { start = start; given = given; frame = frame; is = refl }
course_completed (lost start given frame driven seen bit place) e = absurd (cc e)
course_completed (stuff_lost start given frame driven seen bit place) e = absurd (cc e)
course_completed (unacknowledged start given frame driven seen bit) e = absurd (cc e)
course_completed (bit_differs start given frame driven seen level bit no_loss no_stuff) e = absurd (cc e)
course_completed (took start given may_begin levels pairs events frame reads front) e = absurd (cc e)
course_completed (spoiled start given may_begin levels level pairs events kind reads fault) e = absurd (cc e)
course_completed recessive_last_bit e = absurd (cc e)
course_completed late_overload e = absurd (cc e)
course_completed (flagged role levels size) e = absurd (cc e)
course_completed (overload_flagged role levels size) e = absurd (cc e)
course_completed (passive_flagged owed role levels level before six) e = absurd (cc e)
course_completed (delimited kind role run n) e = absurd (cc e)
course_completed (truncated kind role run n k some below) e = absurd (cc e)
course_completed (overloaded kind role run n) e = absurd (cc e)
course_completed (intermission_ended role goes) e = absurd (cc e)
course_completed (intermission_suspended role waits) e = absurd (cc e)
course_completed (pressed role k below) e = absurd (cc e)
course_completed (hurried role) e = absurd (cc e)
course_completed waited e = absurd (cc e)
course_completed (overtaken k below) e = absurd (cc e)
course_completed (recovered text whole) e = absurd (cc e)

was_send : {at : ℕ} {before : List ErrorEvent} {phase next : Phase} {pairs : List Pair} {events : List ErrorEvent}
    {outcome : Outcome} →
    Episode at before phase pairs events outcome next → outcome ≡ Completed → IsSendOf phase
was_send (begun n frame is on) e = absurd (cc e)
was_send (joined start given frame is on) e = absurd (cc e)
was_send (ends course on) e = course_completed course e
was_send (off_within pair event goes on more off) e = absurd (cc e)
was_send (off_at_end pair event goes on course off) e = absurd (cc e)

-- each completion that a history reports is that of an attempt
pub completed_attempt : (past : Past) (end : ℕ) → IsHistory past → Contains past.outcomes (end, Completed) →
    (start : ℕ) × (frame : FrameValue) × (state : ErrorState) × IsAttempt past start frame state end Completed
completed_attempt past end h c =
    let f = find past end Completed h c in
    let s = was_send f.here.episode refl in
    let here = subst (λ phase. HasEpisode past f.done phase f.pairs f.events Completed f.next) s.is f.here in
    let some = completed_some here.episode refl (starts here.whole).1 in (
      s.start,
      s.frame,
      state_after f.done.events,
      record {
        given = s.given;
        done = f.done;
        pairs = f.pairs;
        events = f.events;
        next = f.next;
        here = here;
        end_is = omega (arith, f.end_is, some, length-append f.done.pairs f.pairs);
        state_is = refl;
      },
    )

record IsTakeOf (phase : Phase) (start : ℕ) (frame : FrameValue) : Type 0 where
  given : List Bool
  may_begin : Bool
  is : phase ≡ Take start given may_begin

took_is : (start : ℕ) (given : List Bool) (may_begin : Bool) (frame : FrameValue) {s : ℕ} {f : FrameValue}
    (unused : ℕ) → Took start frame ≡ Took s f → IsTakeOf (Take start given may_begin) s f
took_is start given may_begin frame {s} {f} unused e = let same : start ≡ s =
    cc e in record { given = given; may_begin = may_begin; is = ap (λ n. Take n given may_begin) same }

course_took : {at s : ℕ} {f : FrameValue} {before : List ErrorEvent} {phase next : Phase} {pairs : List Pair}
    {events : List ErrorEvent} {outcome : Outcome} →
    Course at before phase pairs events outcome next → outcome ≡ Took s f → IsTakeOf phase s f
course_took (synced broken b) e = absurd (cc e)
course_took (resumed n) e = absurd (cc e)
course_took (completed start given frame driven sampled send) e = absurd (cc e)
course_took (lost start given frame driven seen bit place) e = absurd (cc e)
course_took (stuff_lost start given frame driven seen bit place) e = absurd (cc e)
course_took (unacknowledged start given frame driven seen bit) e = absurd (cc e)
course_took (bit_differs start given frame driven seen level bit no_loss no_stuff) e = absurd (cc e)
course_took (took start given may_begin levels pairs events frame reads front) e =
    took_is start given may_begin frame 0 e
course_took (spoiled start given may_begin levels level pairs events kind reads fault) e = absurd (cc e)
course_took recessive_last_bit e = absurd (cc e)
course_took late_overload e = absurd (cc e)
course_took (flagged role levels size) e = absurd (cc e)
course_took (overload_flagged role levels size) e = absurd (cc e)
course_took (passive_flagged owed role levels level before six) e = absurd (cc e)
course_took (delimited kind role run n) e = absurd (cc e)
course_took (truncated kind role run n k some below) e = absurd (cc e)
course_took (overloaded kind role run n) e = absurd (cc e)
course_took (intermission_ended role goes) e = absurd (cc e)
course_took (intermission_suspended role waits) e = absurd (cc e)
course_took (pressed role k below) e = absurd (cc e)
course_took (hurried role) e = absurd (cc e)
course_took waited e = absurd (cc e)
course_took (overtaken k below) e = absurd (cc e)
course_took (recovered text whole) e = absurd (cc e)

was_take : {at s : ℕ} {f : FrameValue} {before : List ErrorEvent} {phase next : Phase} {pairs : List Pair}
    {events : List ErrorEvent} {outcome : Outcome} →
    Episode at before phase pairs events outcome next → outcome ≡ Took s f → IsTakeOf phase s f
was_take (begun n frame is on) e = absurd (cc e)
was_take (joined start given frame is on) e = absurd (cc e)
was_take (ends course on) e = course_took course e
was_take (off_within pair event goes on more off) e = absurd (cc e)
was_take (off_at_end pair event goes on course off) e = absurd (cc e)

-- each frame that a history reports as taken is that of a take
pub reported_take : (past : Past) (end start : ℕ) (frame : FrameValue) → IsHistory past →
    Contains past.outcomes (end, Took start frame) → IsTake past start end (Took start frame)
reported_take past end start frame h c =
    let f = find past end (Took start frame) h c in
    let s = was_take f.here.episode refl in
    let here = subst (λ phase. HasEpisode past f.done phase f.pairs f.events (Took start frame) f.next) s.is f.here in
    let r = read here.episode refl in
    let text = heard past f.done _ f.next f.pairs f.events _ start s.given r.levels here
    (starts here.whole) r.samples in
    let p = parts frame (s.given ++ r.levels) r.front in
    record {
      given = s.given;
      may_begin = s.may_begin;
      done = f.done;
      pairs = f.pairs;
      events = f.events;
      next = f.next;
      here = here;
      end_is = omega (arith, f.end_is, text.stop_is, ap length p.whole, length-append p.region (front_tail false));
    }
