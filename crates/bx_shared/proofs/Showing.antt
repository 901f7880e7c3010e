-- The words show the core after each step of a route, where they showed it before.
use Rattle.std.proofs.Common.{◌≡◌, ℕ, ◌+◌, ◌*◌, ◌<◌, ◌⊎◌, inl, inr, ⊎_elim, cond, List, [], ◌∷◌, ◌++◌, length, get_or}
use Rattle.std.proofs.Common.{set, refl, sym, ap, ◌∙◌, subst, arith, eq-eqb, ne_eqb, length-set, Option, Some, None}
use Rattle.std.proofs.lemmas.List.{get_or-set_same, get_or-set_other}
use mathlib.Core.Logic.{dite}
use native.Mathlib.Decide.{ℕ_discrete}
use Rattle.can_frame.specs.Frames.{FrameValue}
use Rattle.bx_core.specs.declared.waiting.Waiting.{Waiting}
use Rattle.bx_core.specs.Lists.{Each}
use Rattle.bx_core.specs.States.{State, claim_of, lists_of}
use Rattle.bx_core.specs.Steps.{with_claim, with_request, new_waiting, requested_lists}
use Rattle.bx_core.specs.Law.{Law, IsInPlace, count_at, count_of_claim}
use Rattle.bx_core.proofs.Words.{each-append, each_more}
use Rattle.bx_words.specs.Lanes.{lane_of, rest_of, filling, one_more, LaneSet, LaneRequested, IsOlder}
use Rattle.bx_words.specs.Payloads.{IsHead, ArePacked}
use Rattle.bx_shared.specs.Marks.{claim_lane, waiting_lane, lane_by, count_requests, rest_by}
use Rattle.bx_shared.specs.Shown.{AreOrdered, IsPaid, Shows}
use Rattle.bx_shared.proofs.Reading.{waiting_lane-push, waiting_lane-none}
use Rattle.bx_shared.proofs.Orders.{AreApart, ordered, ordered-push, none_there}
use Rattle.bx_shared.proofs.Counts.{count_requests-set, one_more-rest}

pub length-snoc : {A : Type 0} (xs : List A) (x : A) → length (xs ++ x ∷ []) ≡ length xs + 1
length-snoc [] x = omega arith
length-snoc (y ∷ ys) x = let h = length-snoc ys x in omega arith

-- what both facts make of each element
pub each_both : {A : Type 0} (P Q R : A → Type 0) (xs : List A) → ((x : A) → P x → Q x → R x) → Each P xs → Each Q xs →
    Each R xs
each_both P Q R [] f a b = tt
each_both P Q R (x ∷ xs) f a b = (f x a.0 b.0, each_both P Q R xs f a.1 b.1)

-- payload words stay at a step on the control word
pub aside : (words : List ℕ) (new m : ℕ) → (get_or (set words 0 new) (1 + 2 * m) 0 ≡ get_or words (1 + 2 * m) 0)
    × (get_or (set words 0 new) (2 + 2 * m) 0 ≡ get_or words (2 + 2 * m) 0)
aside words new m = (
  get_or-set_other words 0 (1 + 2 * m) new 0 (λ e. omega arith),
  get_or-set_other words 0 (2 + 2 * m) new 0 (λ e. omega arith),
)

abbrev pub AreAllHeads : List ℕ → Type 0
AreAllHeads ws = (m : ℕ) → m < 3 → IsHead (get_or ws (1 + 2 * m) 0)

-- a request's payload stays where its words do
pub paid_on : (ws next : List ℕ) (w : Waiting) → get_or next (1 + 2 * w.mailbox) 0 ≡ get_or ws (1 + 2 * w.mailbox) 0 →
    get_or next (2 + 2 * w.mailbox) 0 ≡ get_or ws (2 + 2 * w.mailbox) 0 →
    IsPaid ws w → IsPaid next w
paid_on ws next w a b h = subst (λ (y : ℕ). ArePacked w.frame w.number (get_or next (1 + 2 * w.mailbox) 0) y) (sym b)
    (subst (λ (x : ℕ). ArePacked w.frame w.number x (get_or ws (2 + 2 * w.mailbox) 0)) (sym a) h)

pub small_mailboxes : (s : State) → Law s → Each (λ x. x.mailbox < 3) s.queue
small_mailboxes s law =
    each_more (IsInPlace (length s.routes)) (λ x. x.mailbox < 3) s.queue (λ x h. h.mailbox) law.in_place

pub apart_queue : (s : State) → Law s → AreApart s.queue
apart_queue s law m = let h = law.apart m in omega arith

-- every head stays
pub heads_aside : (ws : List ℕ) (new : ℕ) → AreAllHeads ws → AreAllHeads (set ws 0 new)
heads_aside ws new h m small = subst IsHead (sym (aside ws new m).0) (h m small)

-- the lane of mailbox m changes, and its claim with it
pub shows_claim : (ws : List ℕ) (s : State) (m x new : ℕ) (owner : Option ℕ) → m < 3 → Shows ws s → Law s →
    claim_lane owner + waiting_lane s.queue m ≡ x → LaneSet (get_or ws 0 0) m x new →
    Shows (set ws 0 new) (with_claim s m owner)
shows_claim ws s m x new owner small sh law is ls =
    let w' : get_or (set ws 0 new) 0 0 ≡ new = get_or-set_same ws 0 new 0 (let h = sh.seven in omega arith) in
    let here : m < length s.claims = let h = law.three in omega arith in
    record {
      seven = length-set ws 0 new ∙ sh.seven;
      lanes = λ j within. ap (λ z. lane_of z j) w' ∙ dite (ℕ_discrete j m)
          (λ e. let P : ℕ → Type 0 =
          λ i. lane_of new i ≡ claim_lane (get_or (set s.claims m owner) i None) + waiting_lane s.queue i in
          subst P (sym e) (ls.here ∙ sym is ∙ ap (λ o. claim_lane o + waiting_lane s.queue m)
          (sym (get_or-set_same s.claims m owner None here))))
          (λ n. ls.others j within n ∙ sh.lanes j within
          ∙ ap (λ o. claim_lane o + waiting_lane s.queue j) (sym (get_or-set_other s.claims m j owner None n)));
      order = subst (λ z. AreOrdered z s.queue) (sym w')
          (ordered (get_or ws 0 0) new (λ _. Unit {0}) (λ i j a b _ _. ls.order i j a b) s.queue (apart_queue s law)
          (small_mailboxes s law)
          (each_more (λ y. y.mailbox < 3) (λ _. Unit {0}) s.queue (λ _ _. tt) (small_mailboxes s law)) sh.order);
      rest = ap rest_of w' ∙ ls.rest ∙ sh.rest;
      payload = each_more (IsPaid ws) (IsPaid (set ws 0 new)) s.queue (λ w h. let t = aside ws new w.mailbox in
          paid_on ws (set ws 0 new) w t.0 t.1 h) sh.payload;
      heads = heads_aside ws new sh.heads;
    }

-- a payload word of a mailbox that holds no request
pub shows_fill : (ws : List ℕ) (s : State) (m i x : ℕ) → ((i ≡ 1 + 2 * m) × IsHead x) ⊎ (i ≡ 2 + 2 * m) → Shows ws s →
    count_at m s.queue ≡ 0 → Shows (set ws i x) s
shows_fill ws s m i x new sh none =
    let which : (i ≡ 1 + 2 * m) ⊎ (i ≡ 2 + 2 * m) =
    ⊎_elim (λ (h : (i ≡ 1 + 2 * m) × IsHead x). inl h.0) (λ (h : i ≡ 2 + 2 * m). inr h) new in
    let far : (j : ℕ) → ¬ (j ≡ m) → (¬ (1 + 2 * j ≡ i)) × (¬ (2 + 2 * j ≡ i)) =
    λ j n. ⊎_elim (λ (h : i ≡ 1 + 2 * m). ((λ e. n (omega arith)), λ e. absurd (omega arith)))
    (λ (h : i ≡ 2 + 2 * m). ((λ e. absurd (omega arith)), λ e. n (omega arith))) which in
    let w' : get_or (set ws i x) 0 0 ≡ get_or ws 0 0 = get_or-set_other ws i 0 x 0
    (λ e. ⊎_elim (λ (h : i ≡ 1 + 2 * m). omega arith) (λ (h : i ≡ 2 + 2 * m). omega arith) which) in
    record {
      seven = length-set ws i x ∙ sh.seven;
      lanes = λ j within. ap (λ z. lane_of z j) w' ∙ sh.lanes j within;
      order = subst (λ z. AreOrdered z s.queue) (sym w') sh.order;
      rest = ap rest_of w' ∙ sh.rest;
      payload = each_both (IsPaid ws) (λ w. ¬ (w.mailbox ≡ m)) (IsPaid (set ws i x)) s.queue
          (λ w h n. let t = far w.mailbox n in
          paid_on ws (set ws i x) w (get_or-set_other ws i (1 + 2 * w.mailbox) x 0 t.0)
          (get_or-set_other ws i (2 + 2 * w.mailbox) x 0 t.1) h) sh.payload (none_there s.queue m none);
      heads = λ j small. dite (ℕ_discrete (1 + 2 * j) i)
          (λ e. ⊎_elim (λ (h : (i ≡ 1 + 2 * m) × IsHead x). subst IsHead
          (sym (ap (λ k. get_or (set ws i x) k 0) e ∙ get_or-set_same ws i x 0 (let l = sh.seven in omega arith)))
          h.1) (λ (h : i ≡ 2 + 2 * m). absurd (omega arith)) new)
          (λ n. subst IsHead (sym (get_or-set_other ws i (1 + 2 * j) x 0 n)) (sh.heads j small));
    }

-- what filled mailbox m is requested
pub shows_request : (ws : List ℕ) (s : State) (r m n new : ℕ) (f : FrameValue) → m < 3 → r < length s.routes →
    claim_of s m ≡ Some r → ArePacked f n (get_or ws (1 + 2 * m) 0) (get_or ws (2 + 2 * m) 0) →
    Shows ws s → Law s → LaneRequested (get_or ws 0 0) m (filling r + 2) new →
    Shows (set ws 0 new) (with_request s r m n f)
shows_request ws s r m n new f small there own packed sh law ls =
    let w = new_waiting r m n f in
    let w' : get_or (set ws 0 new) 0 0 ≡ new = get_or-set_same ws 0 new 0 (let h = sh.seven in omega arith) in
    let here : m < length s.claims = let h = law.three in omega arith in
    let none : count_at m s.queue ≡ 0 = let h = law.apart m in let k = ap count_of_claim own in omega arith in
    let others = none_there s.queue m none in
    record {
      seven = length-set ws 0 new ∙ sh.seven;
      lanes = λ j within. ap (λ z. lane_of z j) w' ∙ dite (ℕ_discrete j m)
          (λ e. let P : ℕ → Type 0 = λ i. lane_of new i ≡ claim_lane (get_or (set s.claims m None) i None)
          + waiting_lane (s.queue ++ w ∷ []) i in
          subst P (sym e) (ls.here ∙ (let a = ap claim_lane (get_or-set_same s.claims m None None here) in
          let b = waiting_lane-push s.queue w m in let c = waiting_lane-none s.queue m none in
          let d = ap (λ z. cond z (lane_by w) 0) (eq-eqb m m refl) in omega arith)))
          (λ n. ls.others j within n ∙ sh.lanes j within
          ∙ (let a = ap claim_lane (get_or-set_other s.claims m j None None n) in let b =
          waiting_lane-push s.queue w j in
          let d = ap (λ z. cond z (lane_by w) 0) (ne_eqb m j (λ e. n (sym e))) in omega arith));
      order = subst (λ z. AreOrdered z (s.queue ++ w ∷ [])) (sym w') (ordered-push new s.queue w
          (each_both (λ x. x.mailbox < 3) (λ x. ¬ (x.mailbox ≡ m)) (λ x. IsOlder new x.mailbox m) s.queue
          (λ x a b. ls.younger x.mailbox a b) (small_mailboxes s law) others)
          (ordered (get_or ws 0 0) new (λ y. ¬ (y ≡ m)) (λ i j a b qi qj. ls.order i j a b qi qj) s.queue
          (apart_queue s law) (small_mailboxes s law) others sh.order));
      rest = ap rest_of w' ∙ ls.rest ∙ ap one_more sh.rest ∙ one_more-rest s.txfp (count_requests s.routes)
          ∙ ap (rest_by s.txfp) (sym (count_requests-set s.routes r
          (requested_lists (lists_of s r) (record { number = n; frame = f })) there
          (length-snoc (lists_of s r).requested (record { number = n; frame = f }))));
      payload = each-append (IsPaid (set ws 0 new)) s.queue (w ∷ [])
          (each_more (IsPaid ws) (IsPaid (set ws 0 new)) s.queue (λ w h. let t = aside ws new w.mailbox in
          paid_on ws (set ws 0 new) w t.0 t.1 h) sh.payload)
          ((let t = aside ws new m in paid_on ws (set ws 0 new) w t.0 t.1 packed), tt);
      heads = heads_aside ws new sh.heads;
    }
