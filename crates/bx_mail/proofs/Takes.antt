-- What the bus side does with a post is what events of the mailbox core do.
use Rattle.std.proofs.Common.{◌≡◌, ℕ, zero, suc, arith, ◌+◌, ◌<◌, ◌≤◌, ◌==◌, inl, inr, Bool, true, false, cond, List}
use Rattle.std.proofs.Common.{[], ◌∷◌, ◌++◌, length, get_or, set, refl, sym, ap, ◌∙◌, subst, Option, Some, None, Ok}
use Rattle.std.proofs.Common.{eq-eqb, ne_eqb, append-nil}
use Rattle.std.specs.Prelude.{option_to_list}
use Rattle.std.proofs.lemmas.Bool.{lt-ltb, le-leb}
use Rattle.std.proofs.lemmas.Bool.Decides.{eqb_tells}
use Rattle.std.proofs.lemmas.List.{map-append}
use mathlib.Core.Logic.{dite}
use native.Mathlib.Decide.{dec_le}
use Rattle.can_frame.specs.Frames.{FrameValue}
use Rattle.bx_core.specs.declared.entry.Entry.{Entry}
use Rattle.bx_core.specs.declared.waiting.Waiting.{Waiting}
use Rattle.bx_core.specs.declared.event.Event.TheVariants.{Claim, Request}
use Rattle.bx_core.specs.declared.answer.Sent.TheVariants.{Yes}
use Rattle.bx_core.specs.Lists.{Each, Has, Rises}
use Rattle.bx_core.specs.States.{State, numbers, claim_of, lists_of, at_mailbox, IsEmpty, IsLowestEmpty}
use Rattle.bx_core.specs.Steps.{with_claim, with_request, new_waiting, last_number, last_of, greatest_number}
use Rattle.bx_core.specs.Steps.{is_claim_of, may_follow}
use Rattle.bx_core.specs.Law.{Law, count_at, count_of_claim}
use Rattle.bx_core.specs.TxBus.{BusPast}
use Rattle.bx_core.specs.RouteTx.{RoutePast, after_request}
use Rattle.bx_core.specs.PlainMail.{Requests}
use Rattle.bx_core.specs.Stands.{RouteStands}
use Rattle.bx_core.proofs.Words.{each_of, has-last}
use Rattle.bx_core.proofs.Queues.{count_at-none, two_at_most}
use Rattle.bx_core.proofs.Leads.{goes-request}
use Rattle.bx_core.proofs.Empties.{goes-claim}
use Rattle.bx_core.proofs.Reaches.{keeps-after}
use Rattle.bx_core.proofs.Requesting.{requests-own, requests-keeps}
use Rattle.bx_mail.specs.declared.posting.Posting.{Posting}
use Rattle.bx_mail.specs.declared.posting.Asks.{Asks}
use Rattle.bx_mail.specs.declared.posting.Asks.TheVariants.{Transmit, Abort}
use Rattle.bx_mail.specs.Boxes.{IsLowestFree, IsSeated, on_bus_now}
use Rattle.bx_mail.specs.Postings.{of, request_by, requests_in, aborts_in, AreRising}
use Rattle.bx_mail.specs.Sides.{BusSide, Runs}
use Rattle.bx_mail.proofs.Postings.{of-own, of-other, InRange}
use Rattle.bx_mail.proofs.Relays.{put}
use Rattle.bx_mail.proofs.Scheduling.{mail}
use Rattle.bx_mail.proofs.PostsTaken.{put-each, not_nothing}

-- a request goes into a mailbox

-- where a mailbox holds none, there is room for one more
pub room : (v : BusSide) (past : BusPast) → Runs v past → (m : ℕ) → m < 3 → at_mailbox m v.boxes ≡ None →
    length v.boxes < 3
room v past h m lt none =
    let q = h.core.queue in
    let claim : ℕ → Option ℕ = λ k. cond (k == m) (Some 0) None in
    let here : claim m ≡ Some 0 = ap (λ b. cond b (Some 0) None) (eq-eqb m m refl) in
    let count : count_of_claim (claim m) ≡ 1 = ap count_of_claim here in
    let empty : count_at m q ≡ 0 = count_at-none m q (ap (at_mailbox m) h.boxes ∙ none) in
    let apart : (k : ℕ) → count_of_claim (claim k) + count_at k q ≤ 1 = λ k. elim (eqb_tells k m) [
      | inl e ↦ subst (λ (i : ℕ). count_of_claim (claim i) + count_at i q ≤ 1) (sym e.1) (omega (arith, count, empty))
      | inr e ↦ (let none_here : count_of_claim (claim k) ≡ 0 = ap (λ b. count_of_claim (cond b (Some 0) None))
          (ne_eqb k m e.1) in let a = h.law.apart k in omega (arith, none_here, a))
    ] in
    let two = two_at_most (length h.core.routes) claim q m lt h.law.in_place (omega (arith, count)) apart in
    let same = ap length h.boxes in
    omega (arith, two, same)

pub seated-sends : (q : List Waiting) (r m n : ℕ) (f : FrameValue) →
    on_bus_now (q ++ new_waiting r m n f ∷ []) ≡ on_bus_now q
seated-sends [] r m n f = refl
seated-sends (w ∷ ws) r m n f = refl

abbrev none_claimed : List (Option ℕ)
none_claimed = None ∷ None ∷ None ∷ []

-- a mailbox may be claimed and left again
abbrev IsFreeAt : ℕ → List (Option ℕ) → ℕ → Type 0
IsFreeAt r claims m = (set (set claims m (Some r)) m None ≡ none_claimed) × (get_or claims m None ≡ None)
    × (get_or (set claims m (Some r)) m None ≡ Some r)

free_at : (r m : ℕ) → m < 3 → IsFreeAt r none_claimed m
free_at r zero l = (refl, refl, refl)
free_at r (suc zero) l = (refl, refl, refl)
free_at r (suc (suc zero)) l = (refl, refl, refl)
free_at r (suc (suc (suc m))) l = absurd (omega (arith, l))

free_below : (claims : List (Option ℕ)) (m r : ℕ) → claims ≡ none_claimed → m < 3 → IsFreeAt r claims m
free_below claims m r e lt = subst (λ cs. IsFreeAt r cs m) (sym e) (free_at r m lt)

record Seats (s : State) (r n : ℕ) (f : FrameValue) (m : ℕ) (t : State) : Type 0 where
  law : Law t
  queue : t.queue ≡ s.queue ++ new_waiting r m n f ∷ []
  free : t.claims ≡ None ∷ None ∷ None ∷ []
  requests : Requests (mail s) r n f Yes (mail t)

seats-core : (s : State) (r n : ℕ) (f : FrameValue) (m : ℕ) → Law s → s.claims ≡ None ∷ None ∷ None ∷ [] →
    r < length s.routes → IsLowestFree s.queue m → last_number (lists_of s r).requested < n → n ≤ greatest_number →
    (t : State) × Seats s r n f m t
seats-core s r n f m l free there low above most =
    let c = free_below s.claims m r free low.within in
    let u : State = with_claim s m (Some r) in
    let t : State = with_request u r m n f in
    let empty : IsEmpty s m = record { unclaimed = c.1; unrequested = low.free } in
    let lowest : IsLowestEmpty s m =
    record { within = low.within; empty = empty; lowest = λ k lt e. low.lowest k lt e.unrequested } in
    let claims = goes-claim s r m empty in
    let lu : Law u = (keeps-after s u (Claim r m) (there, low.within) claims l).0 in
    let own : is_claim_of (claim_of u m) r ≡ true = ap (λ (o : Option ℕ). is_claim_of o r) c.2 ∙ eq-eqb r r refl in
    let may : may_follow u r n ≡ true =
    rw (lt-ltb (last_number (lists_of s r).requested) n above, le-leb n greatest_number most) refl in
    let asks = goes-request u r m n f own may in (
      t,
      record {
        law = (keeps-after u t (Request r m n f) (there, low.within) asks lu).0;
        queue = refl;
        free = c.0;
        requests = (refl, m, u, lowest, claims, asks);
      },
    )

-- the last of requests that rise is above the others
last_below : (es : List Entry) (n k : ℕ) → n < k → Each (λ y. y < k) (numbers es) → last_of n es < k
last_below [] n k lt h = lt
last_below (e ∷ es) n k lt h = last_below es e.number k h.0 h.1

rises_last : (xs : List ℕ) (n : ℕ) → Rises (xs ++ n ∷ []) → Each (λ y. y < n) xs
rises_last [] n h = tt
rises_last (x ∷ xs) n h = (each_of (λ y. x < y) (xs ++ n ∷ []) n h.0 (has-last xs n), rises_last xs n h.1)

last-rising : (es : List Entry) (e : Entry) → AreRising (es ++ e ∷ []) → (last_number es < e.number)
    × (e.number ≤ greatest_number)
last-rising es e h =
    let ns : numbers (es ++ e ∷ []) ≡ numbers es ++ e.number ∷ [] = map-append (λ (x : Entry). x.number) es (e ∷ []) in
    let range : InRange e.number = each_of InRange (numbers es ++ e.number ∷ []) e.number
    (subst (Each InRange) ns h.in_range) (has-last (numbers es) e.number) in (
      last_below es 0 e.number (omega (arith, range.0)) (rises_last (numbers es) e.number (subst Rises ns h.rises)),
      range.1,
    )

own_request : (p : Posting) (f : FrameValue) → p.what ≡ Transmit f →
    requests_in (of p.route (p ∷ [])) ≡ record { number = p.number; frame = f } ∷ []
own_request p f is = ap requests_in (of-own p.route p refl) ∙ ap (λ a. request_by p.number a ++ []) is

pub seats-run : (v : BusSide) (p : Posting) (f : FrameValue) (m : ℕ) → v.aside ≡ Some p → p.what ≡ Transmit f →
    IsLowestFree v.boxes m → (past : BusPast) → Runs v past →
    Runs (record v { boxes = v.boxes ++ new_waiting p.route m p.number f ∷ []; aside = None }) past
seats-run v p f m held is low past h =
    let r = p.route in
    let n = p.number in
    let e : Entry = record { number = n; frame = f } in
    let all : (h.asks r).requested ++ e ∷ [] ≡ requests_in (of r v.got) =
    ap (λ es. (h.asks r).requested ++ es) (sym (own_request p f is))
    ∙ ap (λ (a : Option Posting). (h.asks r).requested ++ requests_in (of r (option_to_list a))) (sym held)
    ∙ h.requested r in
    let there : r < length h.core.routes = dite (dec_le (suc r) (length h.core.routes)) (λ lt. lt)
    (λ no_room. (let same = h.routes in
    absurd
    (not_nothing (h.asks r).requested e
    (all ∙ ap requests_in (h.orderly.beyond r (omega (arith, no_room, same))))))) in
    let last = last-rising (h.asks r).requested e (subst AreRising (sym all) (h.orderly.rising r)) in
    let above : last_number (lists_of h.core r).requested < n =
    subst (λ (es : List Entry). last_number es < n) (h.stands r).requested_is last.0 in
    let c = seats-core h.core r n f m h.law h.free there
    (subst (λ (q : List Waiting). IsLowestFree q m) (sym h.boxes) low) above last.1 in
    let t = c.0 in
    let k = requests-keeps (mail h.core) (mail t) r n f Yes there c.1.requests in
    let a : RoutePast = after_request (h.asks r) n f (Ok Yes) in
    record {
      core = t;
      law = c.1.law;
      order = k.priority ∙ h.order;
      free = c.1.free;
      routes = k.routes ∙ h.routes;
      boxes = c.1.queue ∙ ap (λ (q : List Waiting). q ++ new_waiting r m n f ∷ []) h.boxes;
      bus = k.bus past h.bus;
      asks = put h.asks r a;
      stands = put-each (RouteStands t) h.asks r a
          (requests-own (mail h.core) (mail t) r n f Yes (h.asks r) there c.1.requests (h.stands r))
          (λ i ne. k.others i ne (h.asks i) (h.stands i));
      asked = put-each (λ i (x : RoutePast). Each (Has (aborts_in (of i v.got))) x.asked) h.asks r a (h.asked r)
          (λ i ne. h.asked i);
      aborted = put-each (λ i (x : RoutePast). Each (Has (aborts_in (of i v.got))) x.aborted) h.asks r a (h.aborted r)
          (λ i ne. h.aborted i);
      requested = put-each (λ i (x : RoutePast). x.requested ++ [] ≡ requests_in (of i v.got)) h.asks r a
          (append-nil ((h.asks r).requested ++ e ∷ []) ∙ all)
          (λ i ne. ap (λ es. (h.asks i).requested ++ es) (sym (ap requests_in (of-other i p (λ same. ne (sym same)))))
          ∙ ap (λ (o : Option Posting). (h.asks i).requested ++ requests_in (of i (option_to_list o))) (sym held)
          ∙ h.requested i);
      orderly = h.orderly;
      aside = tt;
    }

-- the same, where the side before is told of by another name

seated_by : (w : BusSide) (p : Posting) (q : List Waiting) (what : Asks) → p.what ≡ what → w.aside ≡ Some p →
    IsSeated w.boxes p.route p.number what true q → (past : BusPast) → Runs w past →
    Runs (record w { boxes = q; aside = None }) past
seated_by w p q (Transmit f) is held s past h =
    subst (λ (ws : List Waiting). Runs (record w { boxes = ws; aside = None }) past) (sym s.2)
    (seats-run w p f s.0 held is s.1 past h)
seated_by w p q Abort is held s past h = absurd s

pub seated-past : (v w : BusSide) (p : Posting) (q : List Waiting) (b : Bool) → w ≡ v → w.aside ≡ Some p →
    IsSeated w.boxes p.route p.number p.what b q → b ≡ true → (past : BusPast) → Runs v past →
    Runs (record w { boxes = q; aside = None }) past
seated-past v w p q b e held s so past h = seated_by w p q p.what refl held
    (subst (λ c. IsSeated w.boxes p.route p.number p.what c q) so s) past (subst (λ u. Runs u past) (sym e) h)

sends_by : (q ws : List Waiting) (r n : ℕ) (what : Asks) (b : Bool) → IsSeated ws r n what b q →
    on_bus_now q ≡ on_bus_now ws
sends_by q ws r n (Transmit f) true s = ap on_bus_now s.2 ∙ seated-sends ws r s.0 n f
sends_by q ws r n (Transmit f) false s = ap on_bus_now s.0
sends_by q ws r n Abort true s = absurd s
sends_by q ws r n Abort false s = ap on_bus_now s

pub seated_now : (v w : BusSide) (p : Posting) (q : List Waiting) (b : Bool) → w ≡ v →
    IsSeated w.boxes p.route p.number p.what b q → on_bus_now q ≡ on_bus_now v.boxes
seated_now v w p q b e s = sends_by q w.boxes p.route p.number p.what b s ∙ ap (λ (u : BusSide). on_bus_now u.boxes) e

same_by : (q ws : List Waiting) (r n : ℕ) (what : Asks) → IsSeated ws r n what false q → q ≡ ws
same_by q ws r n (Transmit f) s = s.0
same_by q ws r n Abort s = s

pub unseated : (w : BusSide) (p : Posting) (q : List Waiting) (b : Bool) →
    IsSeated w.boxes p.route p.number p.what b q → b ≡ false → q ≡ w.boxes
unseated w p q b s so =
    same_by q w.boxes p.route p.number p.what (subst (λ c. IsSeated w.boxes p.route p.number p.what c q) so s)

pub unseated-past : (v w : BusSide) (p : Posting) (q : List Waiting) (b : Bool) → w ≡ v →
    IsSeated w.boxes p.route p.number p.what b q → b ≡ false → (past : BusPast) → Runs v past →
    Runs (record w { boxes = q }) past
unseated-past v w p q b e s so past h = subst (λ (ws : List Waiting). Runs (record w { boxes = ws }) past)
    (sym (unseated w p q b s so)) (subst (λ u. Runs u past) (sym e) h)
