-- A route requests a frame: what that adds to its past, and what it leaves as it was.
use Rattle.std.proofs.Common.{◌≡◌, ◌≢◌, ℕ, ◌<◌, ⊎_elim, not, List, [], ◌∷◌, ◌++◌, length, refl, sym, ap, ◌∙◌}
use Rattle.std.proofs.Common.{subst, Some, Ok, Err, Result}
use Rattle.std.proofs.lemmas.List.{append-nil, length-set, get_or-set_same, get_or-set_other}
use Rattle.can_frame.specs.Frames.{FrameValue}
use Rattle.bx_core.specs.declared.entry.Entry.{Entry}
use Rattle.bx_core.specs.declared.answer.Sent.{Sent}
use Rattle.bx_core.specs.declared.answer.Sent.TheVariants.{Yes, NotNow}
use Rattle.bx_core.specs.declared.answer.NumberTooLarge.{NumberTooLarge}
use Rattle.bx_core.specs.declared.plain_mail.PlainMail.{PlainMail}
use Rattle.bx_core.specs.declared.waiting.Waiting.{Waiting}
use Rattle.bx_core.specs.declared.refused.Refused.TheVariants.{NotOwner, NumberOrder}
use Rattle.bx_core.specs.Lists.{Each, Has}
use Rattle.bx_core.specs.States.{State, RouteLists, no_lists, claim_of, lists_of, IsEmpty}
use Rattle.bx_core.specs.Steps.{with_claim, with_request, new_waiting, requested_lists, is_claim_of, may_follow}
use Rattle.bx_core.specs.Steps.{claimed, requested}
use Rattle.bx_core.specs.TxBus.{BusPast}
use Rattle.bx_core.specs.RouteTx.{RoutePast, after_request}
use Rattle.bx_core.specs.PlainMail.{core_of, sending, Requests}
use Rattle.bx_core.specs.Stands.{BusStands, RouteStands, RouteKeeps}
use Rattle.bx_core.proofs.Words.{passed, passed_last, has-left, set-each}
use Rattle.bx_core.proofs.Sending.{item_in, item-drop}
use Rattle.bx_core.proofs.Empties.{goes-claim}
use Rattle.bx_core.proofs.Standing.{other_past, stands_by, bus_on, asked_of-push}

-- request

-- a claim, and the request in its place
abbrev claimed_requested : State → ℕ → ℕ → ℕ → FrameValue → State
claimed_requested s r m n f = with_request (with_claim s m (Some r)) r m n f

was_requested : (s t : State) (r m n : ℕ) (f : FrameValue) → requested s r m n f ≡ Ok t → with_request s r m n f ≡ t
unfolding requested
was_requested s t r m n f e =
    let p = passed (not (is_claim_of (claim_of s m) r)) NotOwner _ t e in
    (passed_last (not (may_follow s r n)) NumberOrder (with_request s r m n f) t p.1).1

was_claimed_requested : (s u t : State) (r m n : ℕ) (f : FrameValue) → IsEmpty s m → claimed s r m ≡ Ok u →
    requested u r m n f ≡ Ok t → claimed_requested s r m n f ≡ t
was_claimed_requested s u t r m n f empty a b =
    let new = goes-claim s r m empty in
    let is : with_claim s m (Some r) ≡ u = cc in
    ap (λ (v : State). with_request v r m n f) is ∙ was_requested u t r m n f b

-- a route's lists after its request
abbrev more_lists : State → ℕ → ℕ → FrameValue → RouteLists
more_lists s r n f = requested_lists (lists_of s r) (record { number = n; frame = f })

request-bus : (s : State) (r m n : ℕ) (f : FrameValue) (past : BusPast) → r < length s.routes → BusStands s past →
    BusStands (claimed_requested s r m n f) past
request-bus s r m n f past there b =
    let x = more_lists s r n f in
    let e : Entry = record { number = n; frame = f } in
    bus_on s (claimed_requested s r m n f) past
    (set-each (λ (k : ℕ) (l : RouteLists). (y : Entry) → Has (lists_of s k).requested y → Has l.requested y) s.routes r
    x no_lists there
    (λ y h. has-left (lists_of s r).requested (e ∷ []) y h) (λ k ne y h. h))
    (set-each (λ (k : ℕ) (l : RouteLists). (lists_of s k).done ≡ l.done) s.routes r x no_lists there refl
    (λ k ne. refl))
    (set-each (λ (k : ℕ) (l : RouteLists). (lists_of s k).reaped ≡ l.reaped) s.routes r x no_lists there refl
    (λ k ne. refl)) b

request-other : (s : State) (r m n k : ℕ) (f : FrameValue) (past : RoutePast) → k ≢ r → RouteStands s k past →
    RouteStands (claimed_requested s r m n f) k past
request-other s r m n k f past ne h =
    stands_by (claimed_requested s r m n f) k past (lists_of s k)
    (get_or-set_other s.routes r k (more_lists s r n f) no_lists ne) h.requested_is h.aborted_is
    (subst (Each (Has past.asked)) (sym (asked_of-push k s.queue (new_waiting r m n f) refl)) h.asked_waits)
    h.asked_reaped

request-own : (s : State) (r m n : ℕ) (f : FrameValue) (past : RoutePast) → r < length s.routes → RouteStands s r past →
    RouteStands (claimed_requested s r m n f) r (after_request past n f (Ok Yes))
request-own s r m n f past there h =
    stands_by (claimed_requested s r m n f) r (after_request past n f (Ok Yes)) (more_lists s r n f)
    (get_or-set_same s.routes r (more_lists s r n f) no_lists there)
    (ap (λ (es : List Entry). es ++ record { number = n; frame = f } ∷ []) h.requested_is) h.aborted_is
    (subst (Each (Has past.asked)) (sym (asked_of-push r s.queue (new_waiting r m n f) refl)) h.asked_waits)
    h.asked_reaped

-- a request behind the others is not on the bus
item-push : (q : List Waiting) (r m n : ℕ) (f : FrameValue) → item_in (q ++ new_waiting r m n f ∷ []) ≡ item_in q
item-push q r m n f = item-drop q [] (new_waiting r m n f) refl ∙ ap item_in (append-nil q)

-- nothing changed
unsent-own : (s : State) (r n : ℕ) (f : FrameValue) (answer : Result Sent NumberTooLarge) (past : RoutePast) →
    (after_request past n f answer).requested ≡ past.requested ++ [] →
    RouteStands s r past → RouteStands s r (after_request past n f answer)
unsent-own s r n f answer past none h =
    other_past s r past (after_request past n f answer) (sym (none ∙ append-nil past.requested)) refl refl h

pub requests-own : (a b : PlainMail) (r n : ℕ) (f : FrameValue) (sent : Sent) (past : RoutePast) →
    r < length (core_of a).routes → Requests a r n f sent b →
    RouteStands (core_of a) r past → RouteStands (core_of b) r (after_request past n f (Ok sent))
requests-own a b r n f Yes past there h k =
    subst (λ (v : State). RouteStands v r (after_request past n f (Ok Yes)))
    (was_claimed_requested (core_of a) h.2 (core_of b) r h.1 n f h.3.empty h.4 h.5)
    (request-own (core_of a) r h.1 n f past there k)
requests-own a b r n f NotNow past there h k =
    subst (λ (v : State). RouteStands v r (after_request past n f (Ok NotNow))) (sym h.0)
    (unsent-own (core_of a) r n f (Ok NotNow) past refl k)

pub refused-own : (s : State) (r n : ℕ) (f : FrameValue) (why : NumberTooLarge) (past : RoutePast) →
    RouteStands s r past → RouteStands s r (after_request past n f (Err why))
refused-own s r n f why past k = unsent-own s r n f (Err why) past refl k

pub requests-keeps : (a b : PlainMail) (r n : ℕ) (f : FrameValue) (sent : Sent) → r < length (core_of a).routes →
    Requests a r n f sent b → RouteKeeps r a b
requests-keeps a b r n f Yes there h =
    let s = core_of a in
    let is = was_claimed_requested s h.2 (core_of b) r h.1 n f h.3.empty h.4 h.5 in
    record {
      routes = ap (λ (v : State). length v.routes) (sym is) ∙ length-set s.routes r (more_lists s r n f);
      priority = ap (λ (v : State). v.txfp) (sym is);
      short = λ e. h.0 ∙ e;
      sends = ap sending (sym is) ∙ item-push s.queue r h.1 n f;
      bus = λ past k. subst (λ (v : State). BusStands v past) is (request-bus s r h.1 n f past there k);
      others = λ r' ne past k. subst (λ (v : State). RouteStands v r' past) is (request-other s r h.1 n r' f past ne k);
    }
requests-keeps a b r n f NotNow there h = record {
  routes = ap (λ (v : State). length v.routes) h.0;
  priority = ap (λ (v : State). v.txfp) h.0;
  short = λ e. ⊎_elim (λ none. none.1 ∙ e) (λ refused. refused.2) h.1;
  sends = ap sending h.0;
  bus = λ past k. subst (λ (v : State). BusStands v past) (sym h.0) k;
  others = λ r' ne past k. subst (λ (v : State). RouteStands v r' past) (sym h.0) k;
}
