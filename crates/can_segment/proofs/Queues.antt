-- Each talker sends the frames of its queue in order, and none before it is due.
use Rattle.std.proofs.Common.{◌≡◌, inl, inr, ℕ, ◌+◌, ◌<◌, ◌≤◌, cond, Bool, true, false, Option, Some, None, List}
use Rattle.std.proofs.Common.{[], ◌∷◌, ◌++◌, length, map, take, slice_get, option_map, refl, sym, ap, subst, arith, ◌∙◌}
use Rattle.std.specs.Prelude.{option_and_then}
use Rattle.std.specs.List.{Contains}
use Rattle.std.proofs.lemmas.Bool.{cases_lt}
use Rattle.std.proofs.lemmas.Bool.Decides.{leb_tells}
use Rattle.std.proofs.lemmas.List.{append-nil, length-append}
use Rattle.std.proofs.lemmas.List.Sums.{fold-append}
use Rattle.std.proofs.lemmas.Option.{slice_get_within}
use Rattle.can_frame.specs.Frames.{FrameValue}
use Rattle.can_node.specs.declared.outcome.Outcome.{Outcome}
use Rattle.can_node.specs.declared.outcome.Outcome.TheVariants.{Nothing, Took, Completed, Lost, Errored, WentOff}
use Rattle.can_node.specs.declared.outcome.Outcome.TheVariants.{CameBack}
use Rattle.can_node.specs.Histories.{noted}
use Rattle.can_node.proofs.Located.{completed_attempt}
use Rattle.can_station.specs.declared.due_frame.DueFrame.{DueFrame}
use Rattle.can_station.specs.declared.event.Event.{Event}
use Rattle.can_station.specs.declared.plan.Controller.{Controller}
use Rattle.can_station.specs.declared.plan.SegmentPlan.{SegmentPlan}
use Rattle.can_station.specs.declared.plan.Talker.{Talker}
use Rattle.can_station.specs.declared.transmission.Transmission.{Transmission}
use Rattle.can_station.specs.Lines.{start_kinds, outcome_kinds, reaped_kinds, lines}
use Rattle.can_station.specs.Outcomes.{completed_by, sending_after}
use Rattle.can_station.specs.Queues.{due_at, from_due}
use Rattle.can_segment.specs.Attempts.{act_at}
use Rattle.can_segment.specs.Queues.{FollowsQueue, KeepsQueues, completes, events_of}
use Rattle.can_segment.specs.Runs.{IsBit, Run, firsts}
use Rattle.can_segment.specs.Runs.Run.{no_bit, one_more}
use Rattle.can_segment.specs.Tells.{starts_of, rest_of, events_at}
use Rattle.can_segment.specs.Traces.{Act, Bit, act_of, completed_in, completed_of, past_of, sending_behind, sending_now}
use Rattle.can_segment.specs.Traces.{sending_of}
use Rattle.can_segment.proofs.ActsNoted.{act_last, does_at, take_left, take_whole}
use Rattle.can_segment.proofs.Attempts.{attempts_are_reported, begun_by}
use Rattle.can_segment.proofs.Collects.{get_left}
use Rattle.can_segment.proofs.NextBits.{act_found}
use Rattle.can_segment.proofs.Pasts.{has_history}
use Rattle.can_segment.proofs.QueueEvents.{bit_events, events-append}
use Rattle.can_segment.proofs.Shown.{map_there}

-- how many frames are completed behind these events
after : ℕ → List Event → ℕ
after n [] = n
after n (event ∷ more) = after (n + completes event.kind) more

after-append : (n : ℕ) (xs ys : List Event) → after n (xs ++ ys) ≡ after (after n xs) ys
unfolding after
after-append n [] ys = refl
after-append n (x ∷ xs) ys = after-append (n + completes x.kind) xs ys

follows-append : (queue : List DueFrame) (n : ℕ) (xs ys : List Event) → FollowsQueue queue n xs →
    FollowsQueue queue (after n xs) ys → FollowsQueue queue n (xs ++ ys)
unfolding after
follows-append queue n [] ys h more = more
follows-append queue n (x ∷ xs) ys h more = (h.0, follows-append queue (n + completes x.kind) xs ys h.1 more)

-- a frame that is due stays due
stays_due : (queue : List DueFrame) (n bit : ℕ) (frame : FrameValue) → due_at queue n bit ≡ Some frame →
    due_at queue n (bit + 1) ≡ Some frame
stays_due queue n bit frame = by (slice_get queue n)
  where
    at : (one : DueFrame) → from_due bit one ≡ Some frame → from_due (bit + 1) one ≡ Some frame
    at one e = elim (leb_tells one.due bit) [
      | inl due ↦ elim (leb_tells one.due (bit + 1)) [
        | inl still ↦ ap (λ b. cond b (Some one.frame) None) still.0
            ∙ sym (ap (λ b. cond b (Some one.frame) None) due.0) ∙ e
        | inr not ↦ absurd (omega (arith, due.1, not.1))
      ]
      | inr not ↦ absurd (let none = ap (λ b. cond b (Some one.frame) None) not.0 in cc (none, e))
    ]

    by : (found : Option DueFrame) → option_and_then (from_due bit) found ≡ Some frame →
        option_and_then (from_due (bit + 1)) found ≡ Some frame
    by None e = absurd (cc e)
    by (Some one) e = at one e

-- what a talker does at a bit keeps to its queue: these many frames were completed before, and this was sent
record StepKeeps (queue : List DueFrame) (n bit node : ℕ) (before : Option Transmission) (act : Option Act) : Type 0
  where
    starts : FollowsQueue queue n (lines bit node (starts_of act))
    starts_none : after n (lines bit node (starts_of act)) ≡ n
    rest : FollowsQueue queue n (lines bit node (rest_of before act))
    counted : after n (lines bit node (rest_of before act)) ≡ n + completed_in act
    sends : (sent : Transmission) → sending_behind before act ≡ Some sent →
        due_at queue (n + completed_in act) (bit + 1) ≡ Some sent.frame

off_keeps : (queue : List DueFrame) (n bit node : ℕ) (before : Option Transmission) →
    ((sent : Transmission) → before ≡ Some sent → due_at queue n bit ≡ Some sent.frame) →
    StepKeeps queue n bit node before None
unfolding after
off_keeps queue n bit node before was = record {
  starts = tt;
  starts_none = refl;
  rest = tt;
  counted = omega arith;
  sends = λ sent e. ap (λ m. due_at queue m (bit + 1)) (omega arith) ∙ stays_due queue n bit sent.frame (was sent e);
}

starts_keep : (queue : List DueFrame) (n bit node : ℕ) (begun : Option Transmission) →
    ((sent : Transmission) → begun ≡ Some sent → due_at queue n bit ≡ Some sent.frame) →
    FollowsQueue queue n (lines bit node (start_kinds begun)) × (after n (lines bit node (start_kinds begun)) ≡ n)
unfolding after
starts_keep queue n bit node None due = (tt, refl)
starts_keep queue n bit node (Some sent) due = ((due sent refl, tt), omega arith)

ends_keep : (queue : List DueFrame) (n bit node : ℕ) (now : Option Transmission) (outcome : Outcome) →
    ((sent : Transmission) → now ≡ Some sent → due_at queue n bit ≡ Some sent.frame) →
    (outcome ≡ Completed → now ≡ None → ⊥) →
    FollowsQueue queue n (lines bit node (outcome_kinds now outcome))
    × (after n (lines bit node (outcome_kinds now outcome)) ≡ n + completed_by outcome)
unfolding after
ends_keep queue n bit node now Nothing due never = (tt, omega arith)
ends_keep queue n bit node now (Took start frame) due never = ((tt, tt), refl)
ends_keep queue n bit node None Completed due never = absurd (never refl refl)
ends_keep queue n bit node (Some sent) Completed due never = ((due sent refl, tt), refl)
ends_keep queue n bit node None Lost due never = (tt, omega arith)
ends_keep queue n bit node (Some sent) Lost due never = ((tt, tt), refl)
ends_keep queue n bit node now (Errored kind) due never = ((tt, tt), refl)
ends_keep queue n bit node now WentOff due never = ((tt, tt), refl)
ends_keep queue n bit node now CameBack due never = ((tt, tt), refl)

sent_keeps : (queue : List DueFrame) (n bit : ℕ) (now : Option Transmission) (outcome : Outcome) →
    ((sent : Transmission) → now ≡ Some sent → due_at queue n bit ≡ Some sent.frame) → (sent : Transmission) →
    sending_after now outcome ≡ Some sent → due_at queue (n + completed_by outcome) (bit + 1) ≡ Some sent.frame
sent_keeps queue n bit now Nothing due sent e =
    ap (λ m. due_at queue m (bit + 1)) (omega arith) ∙ stays_due queue n bit sent.frame (due sent e)
sent_keeps queue n bit now (Took start frame) due sent e =
    ap (λ m. due_at queue m (bit + 1)) (omega arith) ∙ stays_due queue n bit sent.frame (due sent e)
sent_keeps queue n bit now Completed due sent e = absurd (cc e)
sent_keeps queue n bit now Lost due sent e = absurd (cc e)
sent_keeps queue n bit now (Errored kind) due sent e = absurd (cc e)
sent_keeps queue n bit now WentOff due sent e = absurd (cc e)
sent_keeps queue n bit now CameBack due sent e =
    ap (λ m. due_at queue m (bit + 1)) (omega arith) ∙ stays_due queue n bit sent.frame (due sent e)

now_due : (queue : List DueFrame) (n bit : ℕ) (before begun : Option Transmission) →
    ((sent : Transmission) → begun ≡ Some sent → due_at queue n bit ≡ Some sent.frame) →
    ((sent : Transmission) → before ≡ Some sent → due_at queue n bit ≡ Some sent.frame) → (sent : Transmission) →
    sending_now before begun ≡ Some sent → due_at queue n bit ≡ Some sent.frame
now_due queue n bit before None starts was sent e = was sent e
now_due queue n bit before (Some one) starts was sent e = starts sent e

on_keeps : (queue : List DueFrame) (n bit node : ℕ) (before : Option Transmission) (act : Act) →
    ((sent : Transmission) → act.begun ≡ Some sent → due_at queue n bit ≡ Some sent.frame) →
    ((sent : Transmission) → before ≡ Some sent → due_at queue n bit ≡ Some sent.frame) →
    (act.outcome ≡ Completed → sending_now before act.begun ≡ None → ⊥) → act.reaped ≡ None →
    StepKeeps queue n bit node before (Some act)
on_keeps queue n bit node before act starts was never reaped =
    let now = sending_now before act.begun in
    let due = now_due queue n bit before act.begun starts was in
    let first = starts_keep queue n bit node act.begun starts in
    let ends = ends_keep queue n bit node now act.outcome due never in
    let all : outcome_kinds now act.outcome ≡ outcome_kinds now act.outcome ++ reaped_kinds act.reaped =
    sym (ap (λ r. outcome_kinds now act.outcome ++ reaped_kinds r) reaped ∙ append-nil (outcome_kinds now act.outcome)) in
    record {
      starts = first.0;
      starts_none = first.1;
      rest = subst (λ ts. FollowsQueue queue n (lines bit node ts)) all ends.0;
      counted = ap (λ ts. after n (lines bit node ts)) (sym all) ∙ ends.1;
      sends = sent_keeps queue n bit now act.outcome due;
    }

-- so far the events of a talker keep to its queue
record Kept (queue : List DueFrame) (k : ℕ) (trace : List Bit) (events : List Event) : Type 0 where
  follows : FollowsQueue queue 0 (events_of k events)
  counted : after 0 (events_of k events) ≡ completed_of k trace
  sends : (sent : Transmission) → sending_of k trace ≡ Some sent →
      due_at queue (completed_of k trace) (length trace) ≡ Some sent.frame

kept_more : (queue : List DueFrame) (k : ℕ) (trace : List Bit) (events : List Event) (bit : Bit) →
    k < length bit.acts → Kept queue k trace events →
    StepKeeps queue (completed_of k trace) (length trace) k (sending_of k trace) (act_of k bit) →
    Kept queue k (trace ++ bit ∷ []) (events ++ events_at trace bit)
kept_more queue k trace events bit within h step =
    let n = completed_of k trace in
    let at = length trace in
    let first = lines at k (starts_of (act_of k bit)) in
    let others = lines at k (rest_of (sending_of k trace) (act_of k bit)) in
    let whole : events_of k (events ++ events_at trace bit) ≡ events_of k events ++ (first ++ others) =
    events-append k events (events_at trace bit)
    ∙ ap (λ es. events_of k events ++ es) (bit_events k trace bit within) in
    let completed : completed_of k (trace ++ bit ∷ []) ≡ n + completed_in (act_of k bit) =
    fold-append (λ m b. m + completed_in (act_of k b)) 0 trace (bit ∷ []) in
    let sending : sending_of k (trace ++ bit ∷ []) ≡ sending_behind (sending_of k trace) (act_of k bit) =
    fold-append (λ b x. sending_behind b (act_of k x)) None trace (bit ∷ []) in
    let longer : length (trace ++ bit ∷ []) ≡ at + 1 = length-append trace (bit ∷ []) in
    let here : after 0 (events_of k events) ≡ n = h.counted in
    record {
      follows = subst (FollowsQueue queue 0) (sym whole)
          (follows-append queue 0 (events_of k events) (first ++ others) h.follows
          (subst (λ m. FollowsQueue queue m (first ++ others)) (sym here)
          (follows-append queue n first others step.starts
          (subst (λ m. FollowsQueue queue m others) (sym step.starts_none) step.rest))));
      counted = ap (after 0) whole ∙ after-append 0 (events_of k events) (first ++ others)
          ∙ ap (λ m. after m (first ++ others)) here ∙ after-append n first others
          ∙ ap (λ m. after m others) step.starts_none ∙ step.counted ∙ sym completed;
      sends = λ sent e. ap (λ m. due_at queue m (length (trace ++ bit ∷ []))) completed
          ∙ ap (due_at queue (n + completed_in (act_of k bit))) longer ∙ step.sends sent (sym sending ∙ e);
    }

-- what a talker begins is due
begins_due : (next : Option FrameValue) (wants : Bool) (begun : Option Transmission) →
    option_map (λ (sent : Transmission). sent.frame) begun ≡ cond wants next None → (sent : Transmission) →
    begun ≡ Some sent → next ≡ Some sent.frame
begins_due next true begun rule sent e = sym rule ∙ ap (option_map (λ (s : Transmission). s.frame)) e
begins_due next false begun rule sent e =
    absurd (let some = ap (option_map (λ (s : Transmission). s.frame)) e in cc (some, rule))

-- a talker completes only what it sends
completes_sent : {plan : SegmentPlan} {trace : List Bit} {levels : List Bool} {events : List Event} (k on : ℕ)
    (bit : Bit) (act : Act) → Run plan trace levels events → IsBit plan trace bit → slice_get (firsts plan) k ≡ Some on →
    on ≤ length trace → act_of k bit ≡ Some act → act.outcome ≡ Completed →
    sending_now (sending_of k trace) act.begun ≡ None → ⊥
completes_sent {plan = plan} {trace = trace} k on bit act run is first late here completed none =
    let longer = one_more bit run is in
    let all = trace ++ bit ∷ [] in
    let at = length trace in
    let found : act_at k all at ≡ Some act = act_last k trace bit at refl ∙ here in
    let does = does_at k on at act longer first found in
    let noted_here : Contains (noted at act.outcome) (at, Completed) =
    subst (λ o. Contains (noted at o) (at, Completed)) (sym completed) (0, omega arith, refl) in
    let attempt = completed_attempt (past_of on k all) at (has_history k on longer first)
    (does.reported (at, Completed) noted_here) in
    let reported = attempts_are_reported longer k (past_of on k all) attempt.0 at attempt.1 attempt.2 Completed
    (record {
      on = on;
      on_is = first;
      is_on = omega (arith, late, length-append trace (bit ∷ []));
      past_is = refl;
    }) attempt.3 in
    let before : take at all ≡ trace = take_left trace (bit ∷ []) at (omega arith) ∙ take_whole trace in
    let sends : sending_now (sending_of k (take at all)) act.begun ≡ Some reported.sent =
    ap (sending_now (sending_of k (take at all))) (sym (begun_by k all at act found)) ∙ reported.ends in
    let some : sending_now (sending_of k trace) act.begun ≡ Some reported.sent =
    ap (λ t. sending_now (sending_of k t) act.begun) (sym before) ∙ sends in
    cc (none, some)

kept : {plan : SegmentPlan} {trace : List Bit} {levels : List Bool} {events : List Event} (k : ℕ) (talker : Talker) →
    slice_get plan.talkers.items k ≡ Some talker → Run plan trace levels events →
    Kept talker.queue.items k trace events
unfolding after
kept k talker planned no_bit = record { follows = tt; counted = refl; sends = λ sent e. absurd (cc e) }
kept {plan = plan} k talker planned (one_more {trace = trace} {events = events} bit run is) =
    let queue = talker.queue.items in
    let n = completed_of k trace in
    let h = kept k talker planned run in
    let acts = is.talkers k talker planned in
    let there = slice_get_within plan.talkers.items k talker planned in
    let first : slice_get (firsts plan) k ≡ Some talker.on =
    get_left (map (λ (t : Talker). t.on) plan.talkers.items)
    (map (λ (c : Controller). c.on) plan.controllers.items) k talker.on
    (map_there (λ (t : Talker). t.on) plan.talkers.items k talker planned) in
    kept_more queue k trace events bit (omega (arith, there, is.each)) h
    (elim (cases_lt (length trace) talker.on) [
      | inl early ↦ subst (StepKeeps queue n (length trace) k (sending_of k trace))
          (sym (act_found bit.level bit.acts k None (acts.before early)))
          (off_keeps queue n (length trace) k (sending_of k trace) h.sends)
      | inr late ↦ (
          let a = acts.from_there_on (omega (arith, late)) in
          let here = act_found bit.level bit.acts k (Some a.0) a.1 in
          subst (StepKeeps queue n (length trace) k (sending_of k trace)) (sym here)
          (on_keeps queue n (length trace) k (sending_of k trace) a.0
          (begins_due (due_at queue n (length trace)) a.3.wants a.0.begun a.3.begins) h.sends
          (completes_sent k talker.on bit a.0 run is first (omega (arith, late)) here) a.3.no_reaping))
    ])

pub keeps_queues : {plan : SegmentPlan} {trace : List Bit} {levels : List Bool} {events : List Event} →
    Run plan trace levels events → KeepsQueues plan events
keeps_queues run k talker planned = (kept k talker planned run).follows
