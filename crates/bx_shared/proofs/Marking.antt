-- What the words show where a request's status changes, or where it leaves; and what the seats of routes then know.
use Rattle.std.proofs.Common.{◌≡◌, ℕ, zero, suc, ◌+◌, ◌<◌, cond, List, [], ◌∷◌, ◌++◌, length, get_or, set, refl, sym}
use Rattle.std.proofs.Common.{ap, ◌∙◌, subst, arith, eq-eqb, ne_eqb, length-set, Some, None, Bool, true, false}
use Rattle.std.specs.List.{remove}
use Rattle.std.proofs.lemmas.List.{get_or-set_same}
use mathlib.Core.Logic.{dite}
use native.Mathlib.Decide.{ℕ_discrete}
use Rattle.bx_core.specs.declared.status.Status.{Status}
use Rattle.bx_core.specs.declared.waiting.Waiting.{Waiting}
use Rattle.bx_core.specs.Lists.{Each, Has}
use Rattle.bx_core.specs.States.{State, RouteLists, no_lists, claim_of, lists_of, is_at}
use Rattle.bx_core.specs.Steps.{with_waiting, without}
use Rattle.bx_core.specs.Law.{Law, count_at, count_of_claim}
use Rattle.bx_core.proofs.Words.{each_more, each-drop, each-replace}
use Rattle.bx_core.proofs.Queues.{marked}
use Rattle.bx_core.proofs.Found.{IsFound, at_of}
use Rattle.bx_words.specs.Lanes.{lane_of, rest_of, LaneSet, IsOlder}
use Rattle.bx_shared.specs.declared.route_view.RouteView.{RouteView}
use Rattle.bx_shared.specs.Marks.{claim_lane, waiting_lane, lane_by, count_requests, rest_by}
use Rattle.bx_shared.specs.Shown.{AreOrdered, IsPaid, Shows, IsKnown, Fits}
use Rattle.bx_shared.proofs.Reading.{waiting_lane-none}
use Rattle.bx_shared.proofs.Orders.{ordered}
use Rattle.bx_shared.proofs.Showing.{aside, heads_aside, paid_on, small_mailboxes, apart_queue}

-- one request of a list, by the mailbox that it is in

count-append : (xs ys : List Waiting) (m : ℕ) → count_at m (xs ++ ys) ≡ count_at m xs + count_at m ys
count-append [] ys m = omega arith
count-append (x ∷ xs) ys m = let h = count-append xs ys m in
    elim (is_at m x) as (λ b. cond b (suc (count_at m (xs ++ ys))) (count_at m (xs ++ ys))
    ≡ cond b (suc (count_at m xs)) (count_at m xs) + count_at m ys) [ true ↦ omega arith | false ↦ h ]

lane-append : (xs ys : List Waiting) (m : ℕ) → waiting_lane (xs ++ ys) m ≡ waiting_lane xs m + waiting_lane ys m
lane-append [] ys m = omega arith
lane-append (x ∷ xs) ys m = let h = lane-append xs ys m in omega arith

ordered-drop : (word : ℕ) (xs ys : List Waiting) (w : Waiting) → AreOrdered word (xs ++ w ∷ ys) →
    AreOrdered word (xs ++ ys)
ordered-drop word [] ys w h = h.1
ordered-drop word (x ∷ xs) ys w h =
    (each-drop (λ y. IsOlder word x.mailbox y.mailbox) xs ys w h.0, ordered-drop word xs ys w h.1)

ordered-mark : (word : ℕ) (xs ys : List Waiting) (w x : Waiting) → x.mailbox ≡ w.mailbox →
    AreOrdered word (xs ++ w ∷ ys) → AreOrdered word (xs ++ x ∷ ys)
ordered-mark word [] ys w x e h = (subst (λ (m : ℕ). Each (λ y. IsOlder word m y.mailbox) ys) (sym e) h.0, h.1)
ordered-mark word (y ∷ xs) ys w x e h = (
  each-replace (λ z. IsOlder word y.mailbox z.mailbox) xs ys w x
      (λ o. subst (λ (m : ℕ). IsOlder word y.mailbox m) (sym e) o) h.0,
  ordered-mark word xs ys w x e h.1,
)

-- no route's request is one more
pub count-same : (ls : List RouteLists) (r : ℕ) (l : RouteLists) → r < length ls →
    length l.requested ≡ length (get_or ls r no_lists).requested → count_requests (set ls r l) ≡ count_requests ls
count-same [] r l h e = absurd (omega arith)
count-same (x ∷ xs) zero l h e = omega arith
count-same (x ∷ xs) (suc r) l h e = let k = count-same xs r l (omega arith) e in omega arith

-- the lane of a request's mailbox becomes another, and that of each other mailbox stays
module _ (ws : List ℕ) (s : State) (w : Waiting) (new lane : ℕ) (sh : Shows ws s) (law : Law s) (f : IsFound s w)
    (ls : LaneSet (get_or ws 0 0) w.mailbox lane new) where
  word-is : get_or (set ws 0 new) 0 0 ≡ new
  word-is = get_or-set_same ws 0 new 0 (let h = sh.seven in omega arith)

  alone_there : (count_of_claim (claim_of s w.mailbox) ≡ 0) × (count_at w.mailbox f.split.before ≡ 0)
      × (count_at w.mailbox f.split.behind ≡ 0)
  alone_there =
      let most = law.apart w.mailbox in
      let whole = ap (count_at w.mailbox) f.split.whole in
      let parts = count-append f.split.before (w ∷ f.split.behind) w.mailbox in
      let one = ap (λ b. cond b (suc (count_at w.mailbox f.split.behind)) (count_at w.mailbox f.split.behind))
      (eq-eqb w.mailbox w.mailbox refl) in
      (omega arith, omega arith, omega arith)

  no_claim : claim_lane (claim_of s w.mailbox) ≡ 0
  no_claim = elim (claim_of s w.mailbox) as (λ o. count_of_claim o ≡ 0 → claim_lane o ≡ 0) [
    | None ↦ λ z. refl
    | Some r ↦ λ z. absurd (omega arith)
  ] alone_there.0

  others_lane : (m : ℕ) → count_at m f.split.before ≡ 0 → count_at m f.split.behind ≡ 0 →
      waiting_lane (f.split.before ++ f.split.behind) m ≡ 0
  others_lane m a b = let x = waiting_lane-none f.split.before m a in let y = waiting_lane-none f.split.behind m b in
      let z = lane-append f.split.before f.split.behind m in omega arith

  was : (m : ℕ) → ¬ (m ≡ w.mailbox) → waiting_lane s.queue m ≡ waiting_lane (f.split.before ++ f.split.behind) m
  was m n =
      let a = ap (λ q. waiting_lane q m) f.split.whole in
      let b = lane-append f.split.before (w ∷ f.split.behind) m in
      let c = lane-append f.split.before f.split.behind m in
      let d = ap (λ z. cond z (lane_by w) 0) (ne_eqb w.mailbox m (λ e. n (sym e))) in
      omega arith

  order_kept : AreOrdered new (f.split.before ++ w ∷ f.split.behind)
  order_kept = subst (AreOrdered new) f.split.whole
      (ordered (get_or ws 0 0) new (λ _. Unit {0}) (λ i j a b _ _. ls.order i j a b) s.queue (apart_queue s law)
      (small_mailboxes s law)
      (each_more (λ y. y.mailbox < 3) (λ _. Unit {0}) s.queue (λ _ _. tt) (small_mailboxes s law)) sh.order)

  paid_kept : Each (IsPaid (set ws 0 new)) (f.split.before ++ w ∷ f.split.behind)
  paid_kept = subst (Each (IsPaid (set ws 0 new))) f.split.whole
      (each_more (IsPaid ws) (IsPaid (set ws 0 new)) s.queue (λ x h. let t = aside ws new x.mailbox in
      paid_on ws (set ws 0 new) x t.0 t.1 h) sh.payload)

  -- it is another status, or an abort is asked
  pub shows_mark : (st : Status) (asked : Bool) → lane ≡ lane_by (marked w st asked) →
      Shows (set ws 0 new) (with_waiting s (at_of s w) (marked w st asked))
  shows_mark st asked is =
      let x = marked w st asked in
      let q : set s.queue (at_of s w) x ≡ f.split.before ++ x ∷ f.split.behind = f.split.set x in
      record {
        seven = length-set ws 0 new ∙ sh.seven;
        lanes = λ j small. ap (λ z. lane_of z j) word-is ∙ dite (ℕ_discrete j w.mailbox)
            (λ e. let P : ℕ → Type 0 =
            λ i. lane_of new i ≡ claim_lane (claim_of s i) + waiting_lane (set s.queue (at_of s w) x) i in
            subst P (sym e) (ls.here ∙ is ∙ (let a = no_claim in let b = ap (λ l. waiting_lane l w.mailbox) q in
            let c = lane-append f.split.before (x ∷ f.split.behind) w.mailbox in
            let d = lane-append f.split.before f.split.behind w.mailbox in let g =
            others_lane w.mailbox alone_there.1 alone_there.2 in
            let h = ap (λ z. cond z (lane_by x) 0) (eq-eqb w.mailbox w.mailbox refl) in omega arith)))
            (λ n. ls.others j small n ∙ sh.lanes j small ∙ (let a = was j n in let b = ap (λ l. waiting_lane l j) q in
            let c = lane-append f.split.before (x ∷ f.split.behind) j in
            let d = lane-append f.split.before f.split.behind j in let h =
            ap (λ z. cond z (lane_by x) 0) (ne_eqb w.mailbox j (λ e. n (sym e))) in omega arith));
        order = subst (λ z. AreOrdered z (set s.queue (at_of s w) x)) (sym word-is)
            (subst (AreOrdered new) (sym q) (ordered-mark new f.split.before f.split.behind w x refl order_kept));
        rest = ap rest_of word-is ∙ ls.rest ∙ sh.rest;
        payload = subst (Each (IsPaid (set ws 0 new))) (sym q)
            (each-replace (IsPaid (set ws 0 new)) f.split.before f.split.behind w x
            (λ h. record { head_is = h.head_is; bytes_are = h.bytes_are }) paid_kept);
        heads = heads_aside ws new sh.heads;
      }

  -- it leaves the queue, and its route's lists of what ended change
  pub shows_leave : (x : RouteLists) → lane ≡ 0 → w.route < length s.routes →
      x.requested ≡ (lists_of s w.route).requested → Shows (set ws 0 new) (without s (at_of s w) w.route x)
  shows_leave x is there same =
      let q : remove s.queue (at_of s w) ≡ f.split.before ++ f.split.behind = f.split.rest in
      record {
        seven = length-set ws 0 new ∙ sh.seven;
        lanes = λ j small. ap (λ z. lane_of z j) word-is ∙ dite (ℕ_discrete j w.mailbox)
            (λ e. let P : ℕ → Type 0 =
            λ i. lane_of new i ≡ claim_lane (claim_of s i) + waiting_lane (remove s.queue (at_of s w)) i in
            subst P (sym e) (ls.here ∙ is ∙ (let a = no_claim in let b = ap (λ l. waiting_lane l w.mailbox) q in
            let g = others_lane w.mailbox alone_there.1 alone_there.2 in omega arith)))
            (λ n. ls.others j small n ∙ sh.lanes j small ∙ (let a = was j n in let b = ap (λ l. waiting_lane l j) q in
            omega arith));
        order = subst (λ z. AreOrdered z (remove s.queue (at_of s w))) (sym word-is)
            (subst (AreOrdered new) (sym q) (ordered-drop new f.split.before f.split.behind w order_kept));
        rest = ap rest_of word-is ∙ ls.rest ∙ sh.rest ∙ ap (rest_by s.txfp)
            (sym (count-same s.routes w.route x there (ap length same)));
        payload = subst (Each (IsPaid (set ws 0 new))) (sym q)
            (each-drop (IsPaid (set ws 0 new)) f.split.before f.split.behind w paid_kept);
        heads = heads_aside ws new sh.heads;
      }

-- what a route's seat knows, where its requested and aborted lists and all claims stay
pub fits_same : (ws : List ℕ) (new : ℕ) (s t : State) (o : RouteView) → t.claims ≡ s.claims →
    (lists_of t o.route).requested ≡ (lists_of s o.route).requested →
    (lists_of t o.route).aborted ≡ (lists_of s o.route).aborted →
    (Each (IsKnown o) s.queue → Each (Has o.asked) (lists_of s o.route).reaped →
    Each (Has o.asked) (lists_of t o.route).reaped) → (Each (IsKnown o) s.queue → Each (IsKnown o) t.queue) →
    Fits ws s o → Fits (set ws 0 new) t o
fits_same ws new s t o claims requested aborted reaped stay f = record {
  requested = requested ∙ f.requested;
  aborted = aborted ∙ f.aborted;
  reaped = reaped f.waiting f.reaped;
  claim = λ y. let g = f.claim y in let k = aside ws new o.mailbox in
      record {
        own = ap (λ c. get_or c o.mailbox None) claims ∙ g.own;
        head = λ h. k.0 ∙ g.head h;
        bytes =
            λ h. k.1 ∙ g.bytes h;
      };
  only = λ m e. f.only m (ap (λ c. get_or c m None) (sym claims) ∙ e);
  three = f.three;
  waiting = stay f.waiting;
  ended = f.ended;
}
