-- What a route's calls add to its past.
use Rattle.std.proofs.Common.{ℕ, ◌+◌, ◌≤◌, length, length-append, arith}
use Rattle.std.proofs.Common.{◌≡◌, ◌++◌, ◌∷◌, [], List, true, false, Bool, refl, sym, ap, ◌∙◌, subst}
use Rattle.std.proofs.Common.{append-nil}
use Rattle.std.specs.Prelude.{Result, Ok, Err, IfOk, OnErr}
use Rattle.atomic_table.specs.Seated.{TableId}
use Rattle.crossbeam_queue.specs.Fifo.{Held}
use Rattle.can_frame.specs.Frames.{FrameValue}
use Rattle.bx_core.specs.declared.answer.Sent.{Sent}
use Rattle.bx_core.specs.declared.answer.Sent.TheVariants.{Yes, NotNow}
use Rattle.bx_core.specs.declared.answer.NumberTooLarge.{NumberTooLarge}
use Rattle.bx_core.specs.declared.answer.AbortAnswer.{AbortAnswer}
use Rattle.bx_core.specs.declared.answer.AbortAnswer.TheVariants.{Ended, Asked, Gone, NotNow as NotAsked}
use Rattle.bx_core.specs.declared.point.Point.{Point}
use Rattle.bx_core.specs.declared.point.Point.TheVariants.{Post, Answered}
use Rattle.bx_core.specs.declared.entry.Entry.{Entry}
use Rattle.bx_core.specs.Steps.{last_of, last_number, greatest_number}
use Rattle.bx_core.specs.Gate.{Passes, HearsAnswer, IsHeard}
use Rattle.bx_core.specs.RouteTx.{RoutePast, after_request, after_abort}
use Rattle.bx_mail.specs.declared.log.Log.{Log}
use Rattle.bx_mail.specs.declared.posting.Posting.{Posting}
use Rattle.bx_mail.specs.declared.posting.Asks.{Asks}
use Rattle.bx_mail.specs.declared.posting.Asks.TheVariants.{Transmit, Abort}
use Rattle.bx_mail.specs.Postings.{of, request_by, requests_in, aborts_in, newest_by, count_by, MayFollow}
use Rattle.bx_mail.specs.Rule.{route_log, SentFact}
use Rattle.bx_mail.specs.Sides.{RouteSide, RouteRuns, IsPosted, IsAbortAnswer, AreLastOf, posted, is_yes, heard_as}
use Rattle.bx_mail.proofs.Postings.{requests_in-append, aborts_in-append}

abbrev side : TableId → ℕ → Log → RouteSide
side queue route u = record { queue = queue; route = route; sent = u.sent }

pub was_posted : (v : RouteSide) (queue table : TableId) (u n : Log) (route number : ℕ) (what : Asks) →
    side queue route u ≡ v → table ≡ queue →
    n ≡ route_log u.from (u.sent ++ record { route = route; number = number; what = what } ∷ []) →
    IsPosted v number what true (side table route n)
was_posted v queue table u n route number what e same is =
    let moved : side table route n ≡ posted (side queue route u) number what =
    (λ i. record { queue = same i; route = route; sent = (is i).sent }) in
    moved ∙ ap (λ (s : RouteSide). posted s number what) e

held_last : (v : RouteSide) (queue : TableId) (u : Log) (route cap : ℕ) → side queue route u ≡ v → u.from ≡ route →
    cap ≡ 8 → Held cap (SentFact u) → Held 8 (AreLastOf v)
held_last v queue u route cap e own eight h =
    subst (λ (s : RouteSide). Held 8 (AreLastOf s)) e (
      h.0,
      h.1 ∙ eight,
      (h.2.0, h.2.1 ∙ ap (λ r. of r (h.2.0 ++ h.0)) own),
    )

pub was_full : (v : RouteSide) (queue table : TableId) (u n : Log) (route number cap : ℕ) (what : Asks) →
    side queue route u ≡ v → table ≡ queue → n ≡ u → u.from ≡ route → cap ≡ 8 → Held cap (SentFact u) →
    IsPosted v number what false (side table route n)
was_full v queue table u n route number cap what e same is own eight h =
    let moved : side table route n ≡ side queue route u =
    (λ i. record { queue = same i; route = route; sent = (is i).sent }) in
    (moved ∙ e, held_last v queue u route cap e own eight h)

-- the past after a post

posts_request : (v w : RouteSide) (n : ℕ) (f : FrameValue) (past : RoutePast) → w ≡ posted v n (Transmit f) →
    RouteRuns v past → RouteRuns w (after_request past n f (Ok Yes))
posts_request v w n f past e h = subst (λ s. RouteRuns s (after_request past n f (Ok Yes))) (sym e) (record {
  requested = ap (λ l. l ++ record { number = n; frame = f } ∷ []) h.requested
      ∙ sym (requests_in-append v.sent (record { route = v.route; number = n; what = Transmit f } ∷ []));
  aborted = h.aborted;
  asked = h.asked ∙ sym (aborts_in-append v.sent (record { route = v.route; number = n; what = Transmit f } ∷ [])
      ∙ append-nil (aborts_in v.sent));
})

no_request : (v w : RouteSide) (n : ℕ) (f : FrameValue) (past : RoutePast) (answer : Result Sent NumberTooLarge) →
    (after_request past n f answer).requested ≡ past.requested ++ [] → w ≡ v → RouteRuns v past →
    RouteRuns w (after_request past n f answer)
no_request v w n f past answer none e h = subst (λ s. RouteRuns s (after_request past n f answer)) (sym e) (record {
  requested = none ∙ append-nil past.requested ∙ h.requested;
  aborted = h.aborted;
  asked = h.asked;
})

pub requests_past : (v w : RouteSide) (n : ℕ) (f : FrameValue) (answer : Result Sent NumberTooLarge) →
    OnErr answer (w ≡ v) → IfOk answer (λ sent. IsPosted v n (Transmit f) (is_yes sent) w) → (past : RoutePast) →
    RouteRuns v past → RouteRuns w (after_request past n f answer)
requests_past v w n f (Err why) a b past h = no_request v w n f past (Err why) refl a h
requests_past v w n f (Ok Yes) a b past h = posts_request v w n f past b h
requests_past v w n f (Ok NotNow) a b past h = no_request v w n f past (Ok NotNow) refl b.0 h

pub aborts_past : (v w : RouteSide) (n : ℕ) (answer : AbortAnswer) → IsAbortAnswer v n Abort answer w →
    (past : RoutePast) → RouteRuns v past → (asks : Bool) × RouteRuns w (after_abort past n answer asks)
aborts_past v w n Asked a past h = (
  true,
  subst (λ s. RouteRuns s (after_abort past n Asked true)) (sym a) (record {
    requested = h.requested ∙ sym (requests_in-append v.sent (record { route = v.route; number = n; what = Abort } ∷ [])
        ∙ append-nil (requests_in v.sent));
    aborted = append-nil past.aborted ∙ h.aborted;
    asked = ap (λ l. l ++ n ∷ []) h.asked
        ∙ sym (aborts_in-append v.sent (record { route = v.route; number = n; what = Abort } ∷ []));
  }),
)
aborts_past v w n NotAsked a past h = (
  true,
  subst (λ s. RouteRuns s (after_abort past n NotAsked true)) (sym a.0) (record {
    requested = h.requested;
    aborted = append-nil past.aborted ∙ h.aborted;
    asked = append-nil past.asked ∙ h.asked;
  }),
)
aborts_past v w n Ended a past h = absurd a
aborts_past v w n Gone a past h = absurd a

-- what the gate heard is the post and then the answer

heard_so : (sent : Sent) → IsHeard sent (heard_as sent)
heard_so Yes = tt
heard_so NotNow = tt

pub hears_post : {G : Type 0} (may_have_heard : G → List Point → Type 0) (sent : Sent) (old new : G) →
    Passes may_have_heard (Post ∷ Answered (heard_as sent) ∷ []) old new → HearsAnswer may_have_heard sent old new
hears_post may_have_heard sent old new h = record {
  steps = Post ∷ [];
  are_steps = (tt, tt);
  heard = heard_as sent;
  is_heard = heard_so sent;
  passes = h;
}

-- the newest number after a post

last_of-more : (es : List Entry) (e : Entry) (n : ℕ) → last_of n (es ++ e ∷ []) ≡ e.number
last_of-more [] e n = refl
last_of-more (x ∷ xs) e n = last_of-more xs e x.number

newest_is : (es : List Entry) (number : ℕ) (what : Asks) → newest_by (last_number es) number what
    ≡ last_number (es ++ request_by number what)
newest_is es number (Transmit f) = sym (last_of-more es (record { number = number; frame = f }) 0)
newest_is es number Abort = ap last_number (sym (append-nil es))

pub newest_posted : (u n : Log) (route number last newer : ℕ) (what : Asks) → last ≡ last_number (requests_in u.sent) →
    newer ≡ newest_by last number what →
    n ≡ route_log u.from (u.sent ++ record { route = route; number = number; what = what } ∷ []) →
    newer ≡ last_number (requests_in n.sent)
newest_posted u n route number last newer what was is e =
    is ∙ ap (λ l. newest_by l number what) was ∙ newest_is (requests_in u.sent) number what
    ∙ ap (λ es. last_number (requests_in u.sent ++ es)) (sym (append-nil (request_by number what)))
    ∙ ap last_number (sym (requests_in-append u.sent (record { route = route; number = number; what = what } ∷ [])))
    ∙ ap (λ (x : Log). last_number (requests_in x.sent)) (sym e)

-- the count of requests after a post

count_is : (es : List Entry) (number count : ℕ) (what : Asks) → count ≡ length es →
    count_by count what ≡ length (es ++ request_by number what)
count_is es number count (Transmit f) e = ap (λ n. n + 1) e
    ∙ sym (length-append es (record { number = number; frame = f } ∷ []))
count_is es number count Abort e = e ∙ ap length (sym (append-nil es))

pub counted_posted : (u n : Log) (route number count more : ℕ) (what : Asks) → count ≡ length (requests_in u.sent) →
    more ≡ count_by count what →
    n ≡ route_log u.from (u.sent ++ record { route = route; number = number; what = what } ∷ []) →
    more ≡ length (requests_in n.sent)
counted_posted u n route number count more what was is e =
    is ∙ count_is (requests_in u.sent) number count what was
    ∙ ap (λ es. length (requests_in u.sent ++ es)) (sym (append-nil (request_by number what)))
    ∙ ap length (sym (requests_in-append u.sent (record { route = route; number = number; what = what } ∷ [])))
    ∙ ap (λ (x : Log). length (requests_in x.sent)) (sym e)

-- numbers rise, up to the greatest
pub rises_posted : (sent : List Posting) (number last count : ℕ) (what : Asks) → last ≡ last_number (requests_in sent) →
    count ≤ last → last ≤ greatest_number → MayFollow sent number what →
    (count_by count what ≤ newest_by last number what) × (newest_by last number what ≤ greatest_number)
rises_posted sent number last count (Transmit f) is rises most may =
    let above = may.0 in (omega (arith, is, rises, above), may.1)
rises_posted sent number last count Abort is rises most may = (rises, most)

pub posted_form : (u n : Log) (x : Posting) (route : ℕ) → u.from ≡ route → n ≡ route_log u.from (u.sent ++ x ∷ []) →
    n ≡ route_log route n.sent
posted_form u n x route own e =
    e ∙ ap (λ r. route_log r (u.sent ++ x ∷ [])) own ∙ ap (λ (y : Log). route_log route y.sent) (sym e)
