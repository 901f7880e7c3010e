-- The words and the views of all places show one state of the core and no other.
use Rattle.std.proofs.Common.{◌≡◌, ℕ, suc, ◌+◌, ◌*◌, ◌<◌, ◌≤◌, ⊎_elim, cond, nat_lt, List, [], ◌∷◌, length, get_or}
use Rattle.std.proofs.Common.{refl, sym, ap, ◌∙◌, subst, arith, eq-eqb, ne_eqb, Some, None, Bool, true, false}
use mathlib.Core.Logic.{dite}
use native.Mathlib.Decide.{ℕ_discrete, dec_le}
use Rattle.bx_core.specs.declared.waiting.Waiting.{Waiting}
use Rattle.bx_core.specs.Lists.{Each}
use Rattle.bx_core.specs.States.{State, RouteLists, no_lists, claim_of, lists_of, at_mailbox}
use Rattle.bx_core.specs.Law.{Law, IsAskedBusy, count_at}
use Rattle.bx_core.proofs.Words.{each_of}
use Rattle.bx_words.specs.Lanes.{filling, IsOlder}
use Rattle.bx_words.proofs.Packed.{packed_once}
use Rattle.bx_shared.specs.declared.route_view.RouteView.{RouteView}
use Rattle.bx_shared.specs.declared.bus_view.BusView.{BusView}
use Rattle.bx_shared.specs.Marks.{mark_by, lane_by, claim_lane, waiting_lane, rest_by, count_requests}
use Rattle.bx_shared.specs.Shown.{AreOrdered, IsPaid, Shows}
use Rattle.bx_shared.specs.Laws.{FitsAll, ShowsOneState}
use Rattle.bx_shared.proofs.Reading.{reads, within, not_filling, at_mailbox-none, at_has, same_request, status_in}
use Rattle.bx_shared.proofs.Reading.{status_back, asked_back, IsEmptyLane, IsFillingLane, IsRequestLane}
use Rattle.bx_shared.proofs.Orders.{older_once, AreApart, apart_rest}
use Rattle.bx_shared.proofs.Showing.{small_mailboxes, apart_queue}

same_waiting : (x y : Waiting) → x.route ≡ y.route → x.number ≡ y.number → x.frame ≡ y.frame → x.mailbox ≡ y.mailbox →
    x.status ≡ y.status → x.abort_asked ≡ y.abort_asked → x ≡ y
same_waiting x y a b c d e f =
    λ k. record { route = a k; number = b k; frame = c k; mailbox = d k; status = e k; abort_asked = f k }

-- what a mailbox of both cores is
record IsSameAt (s t : State) (m : ℕ) : Type 0 where
  pub claim : claim_of s m ≡ claim_of t m
  pub request : at_mailbox m s.queue ≡ at_mailbox m t.queue

filled_by : (a b : ℕ) → filling a ≡ filling b → a ≡ b
filled_by a b e = omega arith

mark_and_owner : (n m r q : ℕ) → n < 32 → m < 32 → n + 32 * r ≡ m + 32 * q → (n ≡ m) × (r ≡ q)
mark_and_owner n m r q a b e = (omega arith, omega arith)

-- one lane and one payload are those of one request
one_request : (ws : List ℕ) (s t : State) (m : ℕ) (x y : Waiting) → Law s → Law t → Shows ws s → Shows ws t →
    at_mailbox m s.queue ≡ Some x → at_mailbox m t.queue ≡ Some y → lane_by x ≡ lane_by y → x ≡ y
one_request ws s t m x y law laws sh shown at too lane =
    let a = at_has m s.queue x at in
    let b = at_has m t.queue y too in
    let l = mark_and_owner (mark_by x.status x.abort_asked) (mark_by y.status y.abort_asked) x.route y.route
    (within x).1 (within y).1 lane in
    let here : x.mailbox ≡ y.mailbox = a.1 ∙ sym b.1 in
    let p = packed_once x.frame y.frame x.number y.number (get_or ws (1 + 2 * y.mailbox) 0)
    (get_or ws (2 + 2 * y.mailbox) 0)
    (subst (λ (k : ℕ). IsPaid ws (record x { mailbox = k })) here (each_of (IsPaid ws) s.queue x sh.payload a.0))
    (each_of (IsPaid ws) t.queue y shown.payload b.0) in
    same_waiting x y l.1 p.1 p.0 here (sym (status_back x.status x.abort_asked) ∙ ap status_in l.0
    ∙ status_back y.status y.abort_asked)
    (sym (asked_back x.status x.abort_asked (each_of IsAskedBusy s.queue x law.asked a.0)) ∙ ap (nat_lt 15) l.0
    ∙ asked_back y.status y.abort_asked (each_of IsAskedBusy t.queue y laws.asked b.0))

same_at : (ws : List ℕ) (s t : State) (m : ℕ) → m < 3 → Law s → Law t → Shows ws s → Shows ws t → IsSameAt s t m
same_at ws s t m small law laws sh shown =
    let lane : claim_lane (claim_of s m) + waiting_lane s.queue m ≡ claim_lane (claim_of t m) + waiting_lane t.queue m =
    sym (sh.lanes m small) ∙ shown.lanes m small in
    ⊎_elim
    (λ (a : IsEmptyLane s m). ⊎_elim
    (λ (b : IsEmptyLane t m). record { claim = a.claim ∙ sym b.claim; request = a.none.at ∙ sym b.none.at })
    (λ k. ⊎_elim (λ (b : IsFillingLane t m). let x = a.lane in let y = b.lane in absurd (omega arith))
    (λ (b : IsRequestLane t m). let x = a.lane in let y = b.lane in let z = within b.one.request in
    absurd (omega arith)) k) (reads t m laws))
    (λ k. ⊎_elim
    (λ (a : IsFillingLane s m). ⊎_elim
    (λ (b : IsEmptyLane t m). let x = a.lane in let y = b.lane in absurd (omega arith))
    (λ k. ⊎_elim
    (λ (b : IsFillingLane t m). record {
      claim = a.claim
          ∙ ap Some (filled_by a.owner b.owner (sym a.lane ∙ lane ∙ b.lane)) ∙ sym b.claim;
      request =
          a.none.at ∙ sym b.none.at;
    })
    (λ (b : IsRequestLane t m). let y = b.one.request in
    absurd (not_filling y.status y.abort_asked y.route a.owner (sym b.lane ∙ sym lane ∙ a.lane))) k)
    (reads t m laws))
    (λ (a : IsRequestLane s m). ⊎_elim
    (λ (b : IsEmptyLane t m). let x = a.lane in let y = b.lane in let z = within a.one.request in absurd (omega arith))
    (λ k. ⊎_elim
    (λ (b : IsFillingLane t m). let x =
    a.one.request in absurd (not_filling x.status x.abort_asked x.route b.owner (sym a.lane ∙ lane ∙ b.lane)))
    (λ (b : IsRequestLane t m). record {
      claim = a.claim ∙ sym b.claim;
      request = a.one.at
          ∙ ap Some (one_request ws s t m a.one.request b.one.request law laws sh shown a.one.at b.one.at
          (sym a.lane ∙ lane ∙ b.lane)) ∙ sym b.one.at;
    }) k) (reads t m laws)) k) (reads s m law)

-- a mailbox behind the first of a queue
at_behind : (m : ℕ) (w : Waiting) (ws : List Waiting) → ¬ (w.mailbox ≡ m) → at_mailbox m (w ∷ ws) ≡ at_mailbox m ws
at_behind m w ws n = ap (λ b. cond b (Some w) (at_mailbox m ws)) (ne_eqb w.mailbox m n)

at_first : (w : Waiting) (ws : List Waiting) → at_mailbox w.mailbox (w ∷ ws) ≡ Some w
at_first w ws = ap (λ b. cond b (Some w) (at_mailbox w.mailbox ws)) (eq-eqb w.mailbox w.mailbox refl)

none_behind : (w : Waiting) (ws : List Waiting) → AreApart (w ∷ ws) → at_mailbox w.mailbox ws ≡ None
none_behind w ws h = let most = h w.mailbox in let one =
    ap (λ b. cond b (suc (count_at w.mailbox ws)) (count_at w.mailbox ws)) (eq-eqb w.mailbox w.mailbox refl) in
    at_mailbox-none ws w.mailbox (omega arith)

-- two queues in one order, with the same request in each mailbox, are equal
same_queue : (word : ℕ) (q p : List Waiting) → AreApart q → AreApart p → AreOrdered word q → AreOrdered word p →
    ((m : ℕ) → at_mailbox m q ≡ at_mailbox m p) → q ≡ p
same_queue word [] [] a b o v e = refl
same_queue word [] (x ∷ xs) a b o v e = let h = e x.mailbox ∙ at_first x xs in cc
same_queue word (w ∷ ws) [] a b o v e = let h = sym (at_first w ws) ∙ e w.mailbox in cc
same_queue word (w ∷ ws) (x ∷ xs) a b o v e = dite (ℕ_discrete w.mailbox x.mailbox)
    (λ here.
    let is : w ≡ x =
    same_request w x (sym (at_first w ws) ∙ e w.mailbox ∙ ap (λ m. at_mailbox m (x ∷ xs)) here ∙ at_first x xs) in
    let rest = same_queue word ws xs (apart_rest w ws a) (apart_rest x xs b) o.1 v.1 (λ m. dite (ℕ_discrete w.mailbox m)
    (λ same. ap (λ k. at_mailbox k ws) (sym same) ∙ none_behind w ws a ∙ sym (none_behind x xs b)
    ∙ ap (λ k. at_mailbox k xs) (sym here ∙ same))
    (λ n. sym (at_behind m w ws n) ∙ e m ∙ at_behind m x xs (λ y. n (here ∙ y)))) in
    λ k. is k ∷ rest k)
    (λ n.
    let one =
    at_has w.mailbox xs w (sym (at_behind w.mailbox x xs (λ y. n (sym y))) ∙ sym (e w.mailbox) ∙ at_first w ws) in
    let other = at_has x.mailbox ws x (sym (at_behind x.mailbox w ws n) ∙ e x.mailbox ∙ at_first x xs) in
    absurd
    (older_once word w.mailbox x.mailbox n
    (each_of (λ (y : Waiting). IsOlder word w.mailbox y.mailbox) ws x o.0 other.0)
    (each_of (λ (y : Waiting). IsOlder word x.mailbox y.mailbox) xs w v.0 one.0)))

-- no request is in a mailbox that is not there
none_past : (q : List Waiting) (m : ℕ) → 3 ≤ m → Each (λ x. x.mailbox < 3) q → at_mailbox m q ≡ None
none_past [] m h a = refl
none_past (w ∷ ws) m h a = let small = a.0 in at_behind m w ws (λ e. absurd (omega arith)) ∙ none_past ws m h a.1

-- lists of one length with one element at each place are equal
same_list : {A : Type 0} (d : A) (xs ys : List A) → length xs ≡ length ys →
    ((k : ℕ) → k < length xs → get_or xs k d ≡ get_or ys k d) → xs ≡ ys
same_list d [] [] l e = refl
same_list d [] (y ∷ ys) l e = absurd (omega arith)
same_list d (x ∷ xs) [] l e = absurd (omega arith)
same_list d (x ∷ xs) (y ∷ ys) l e = let first = e 0 (omega arith) in let rest =
    same_list d xs ys (omega arith) (λ k h. e (suc k) (omega arith)) in λ i. first i ∷ rest i

pub same_lists : (a b : RouteLists) → a.requested ≡ b.requested → a.done ≡ b.done → a.aborted ≡ b.aborted →
    a.reaped ≡ b.reaped → a ≡ b
same_lists a b w x y z = λ k. record { requested = w k; done = x k; aborted = y k; reaped = z k }

same_state : (s t : State) → s.txfp ≡ t.txfp → s.claims ≡ t.claims → s.queue ≡ t.queue → s.routes ≡ t.routes → s ≡ t
same_state s t w x y z = λ k. record { txfp = w k; claims = x k; queue = y k; routes = z k }

same_priority : (a b : Bool) (n m : ℕ) → rest_by a n ≡ rest_by b m → a ≡ b
same_priority true true n m e = refl
same_priority true false n m e = absurd (omega arith)
same_priority false true n m e = absurd (omega arith)
same_priority false false n m e = refl

one_route : (ws : List ℕ) (s t : State) (part : ℕ → RouteView) (bus : BusView) (r : ℕ) → r < 8 → FitsAll ws s part bus →
    FitsAll ws t part bus → lists_of s r ≡ lists_of t r
one_route ws s t part bus r small f g =
    let a = f.route r small in
    let b = g.route r small in
    let c = f.bus_fits.stands in
    let d = g.bus_fits.stands in
    let at : lists_of s r ≡ lists_of s (part r).route = ap (lists_of s) (sym a.0) in
    let too : lists_of t r ≡ lists_of t (part r).route = ap (lists_of t) (sym b.0) in
    same_lists (lists_of s r) (lists_of t r)
    (ap (λ (l : RouteLists). l.requested) at ∙ a.1.requested ∙ sym b.1.requested
    ∙ ap (λ (l : RouteLists). l.requested) (sym too))
    (sym (c.done_is r) ∙ d.done_is r)
    (ap (λ (l : RouteLists). l.aborted) at ∙ a.1.aborted ∙ sym b.1.aborted
    ∙ ap (λ (l : RouteLists). l.aborted) (sym too))
    (sym (c.reaped_is r) ∙ d.reaped_is r)

pub shows_one : ShowsOneState
shows_one ws part bus s t law laws eight too sh shown f g =
    let here : (m : ℕ) → m < 3 → IsSameAt s t m = λ m small. same_at ws s t m small law laws sh shown in
    same_state s t
    (same_priority s.txfp t.txfp (count_requests s.routes) (count_requests t.routes) (sym sh.rest ∙ shown.rest))
    (same_list None s.claims t.claims (law.three ∙ sym laws.three)
    (λ k h. (here k (let l = law.three in omega arith)).claim))
    (same_queue (get_or ws 0 0) s.queue t.queue (apart_queue s law) (apart_queue t laws) sh.order shown.order
    (λ m. dite (dec_le (suc m) 3)
    (λ small. (here m small).request)
    (λ past. none_past s.queue m (omega arith) (small_mailboxes s law)
    ∙ sym (none_past t.queue m (omega arith) (small_mailboxes t laws)))))
    (same_list no_lists s.routes t.routes (eight ∙ sym too) (λ k h. one_route ws s t part bus k (omega arith) f g))
