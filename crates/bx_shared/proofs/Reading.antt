-- How a lane of the control word is read back: what it says of its mailbox's claim and request.
use Rattle.std.proofs.Common.{◌≡◌, ℕ, suc, ◌+◌, ◌*◌, ◌%◌, ◌<◌, ◌≤◌, ◌⊎◌, inl, inr, ⊎_elim, cond, List, [], ◌∷◌, ◌++◌}
use Rattle.std.proofs.Common.{refl, sym, ap, ◌∙◌, subst, arith, nat_lt, ◌==◌, eqb-true, Bool, true, false, Some, None}
use Rattle.bx_core.specs.declared.status.Status.{Status}
use Rattle.bx_core.specs.declared.status.Status.TheVariants.{Pending, Scheduled, Transmitting}
use Rattle.bx_core.specs.declared.waiting.Waiting.{Waiting}
use Rattle.bx_core.specs.States.{State, claim_of, is_at, at_mailbox, is_pending}
use Rattle.bx_core.specs.Lists.{Has}
use Rattle.bx_core.specs.Law.{Law, count_at, count_of_claim}
use Rattle.bx_core.proofs.Words.{some_or_none}
use Rattle.bx_words.specs.Lanes.{filling}
use Rattle.bx_shared.specs.Marks.{mark_by, IsMark, lane_by, claim_lane, waiting_lane}

pub is_mark : (st : Status) (asked : Bool) → IsMark (mark_by st asked)
is_mark Pending asked = inl refl
is_mark Scheduled true = inr (inr (inr (inr refl)))
is_mark Scheduled false = inr (inl refl)
is_mark Transmitting true = inr (inr (inr (inl refl)))
is_mark Transmitting false = inr (inr (inl refl))

-- each of them is at least 3 and below 32
mark_within : (n : ℕ) → IsMark n → (3 ≤ n) × (n < 32)
mark_within n k =
    ⊎_elim (λ (h : n ≡ 3). (omega arith, omega arith)) (λ k. ⊎_elim (λ (h : n ≡ 7). (omega arith, omega arith))
    (λ k. ⊎_elim (λ (h : n ≡ 15). (omega arith, omega arith))
    (λ k. ⊎_elim (λ (h : n ≡ 31). (omega arith, omega arith)) (λ (h : n ≡ 23). (omega arith, omega arith)) k) k) k)
    k

pub within : (w : Waiting) → (3 ≤ mark_by w.status w.abort_asked) × (mark_by w.status w.abort_asked < 32)
within w = mark_within (mark_by w.status w.abort_asked) (is_mark w.status w.abort_asked)

pub waiting_lane-none : (q : List Waiting) (m : ℕ) → count_at m q ≡ 0 → waiting_lane q m ≡ 0
waiting_lane-none [] m z = refl
waiting_lane-none (w ∷ ws) m z = elim (is_at m w) as (λ b. cond b (suc (count_at m ws)) (count_at m ws) ≡ 0 →
    cond b (lane_by w) 0 + waiting_lane ws m ≡ 0) [
      | true ↦ λ z. absurd (omega arith)
      | false ↦ λ z. let h = waiting_lane-none ws m z in omega arith
    ] z

pub waiting_lane-push : (q : List Waiting) (w : Waiting) (m : ℕ) →
    waiting_lane (q ++ w ∷ []) m ≡ waiting_lane q m + cond (is_at m w) (lane_by w) 0
waiting_lane-push [] w m = omega arith
waiting_lane-push (x ∷ xs) w m = let h = waiting_lane-push xs w m in omega arith

pub at_mailbox-none : (q : List Waiting) (m : ℕ) → count_at m q ≡ 0 → at_mailbox m q ≡ None
at_mailbox-none [] m z = refl
at_mailbox-none (w ∷ ws) m z = elim (is_at m w) as (λ b. cond b (suc (count_at m ws)) (count_at m ws) ≡ 0 →
    cond b (Some w) (at_mailbox m ws) ≡ None) [
      | true ↦ λ z. absurd (omega arith)
      | false ↦ λ z. at_mailbox-none ws m z
    ] z

-- the low five bits of a lane are its mark, and are not those of one that fills
other_mark : (n q r : ℕ) → IsMark n → n + 32 * q ≡ filling r → ⊥
other_mark n q r k e = ⊎_elim (λ (h : n ≡ 3). omega arith)
    (λ k. ⊎_elim (λ (h : n ≡ 7). omega arith) (λ k. ⊎_elim (λ (h : n ≡ 15). omega arith)
    (λ k. ⊎_elim (λ (h : n ≡ 31). omega arith) (λ (h : n ≡ 23). omega arith) k) k) k) k

low_bits : (lane n r : ℕ) → n < 32 → lane ≡ n + 32 * r → n ≡ lane % 32
low_bits lane n r b is = omega arith

pub not_filling : (st : Status) (asked : Bool) (q r : ℕ) → mark_by st asked + 32 * q ≡ filling r → ⊥
not_filling st asked q r is = other_mark (mark_by st asked) q r (is_mark st asked) is

-- a mailbox that holds no request, and one that holds one
pub record HoldsNone (q : List Waiting) (m : ℕ) : Type 0 where
  pub count : count_at m q ≡ 0
  pub at : at_mailbox m q ≡ None
  pub lane : waiting_lane q m ≡ 0

pub record HoldsOne (q : List Waiting) (m : ℕ) : Type 0 where
  pub request : Waiting
  pub at : at_mailbox m q ≡ Some request
  pub lane : waiting_lane q m ≡ lane_by request
  pub count : count_at m q ≡ 1

pub holds_none : (q : List Waiting) (m : ℕ) → count_at m q ≡ 0 → HoldsNone q m
holds_none q m z = record { count = z; at = at_mailbox-none q m z; lane = waiting_lane-none q m z }

-- one request at most, and what it adds to the lane
one_at_most : (q : List Waiting) (m : ℕ) → count_at m q ≤ 1 →
    (count_at m q ≡ 0) ⊎ ((x : Waiting) × (at_mailbox m q ≡ Some x) × (waiting_lane q m ≡ lane_by x)
    × (count_at m q ≡ 1))
one_at_most [] m h = inl refl
one_at_most (w ∷ ws) m h = elim (is_at m w) as (λ b. cond b (suc (count_at m ws)) (count_at m ws) ≤ 1 →
    (cond b (suc (count_at m ws)) (count_at m ws) ≡ 0) ⊎
    ((x : Waiting) × (cond b (Some w) (at_mailbox m ws) ≡ Some x)
    × (cond b (lane_by w) 0 + waiting_lane ws m ≡ lane_by x) × (cond b (suc (count_at m ws)) (count_at m ws) ≡ 1))) [
      | true ↦ λ h. let none : count_at m ws ≡ 0 = omega arith in let z = waiting_lane-none ws m none in
          inr (w, refl, (omega arith), omega arith)
      | false ↦ λ h. ⊎_elim (λ n. inl n) (λ t. inr (t.0, t.1, (let z = t.2 in omega arith), t.3)) (one_at_most ws m h)
    ] h

pub holds : (q : List Waiting) (m : ℕ) → count_at m q ≤ 1 → HoldsNone q m ⊎ HoldsOne q m
holds q m h = ⊎_elim (λ z. inl (holds_none q m z))
    (λ t. inr (record { request = t.0; at = t.1; lane = t.2; count = t.3 })) (one_at_most q m h)

-- what a mailbox of a core can be: empty, filling under a route, or with a request; and what its lane is
pub record IsEmptyLane (s : State) (m : ℕ) : Type 0 where
  pub claim : claim_of s m ≡ None
  pub none : HoldsNone s.queue m
  pub lane : claim_lane (claim_of s m) + waiting_lane s.queue m ≡ 0

pub record IsFillingLane (s : State) (m : ℕ) : Type 0 where
  pub owner : ℕ
  pub claim : claim_of s m ≡ Some owner
  pub none : HoldsNone s.queue m
  pub lane : claim_lane (claim_of s m) + waiting_lane s.queue m ≡ filling owner

pub record IsRequestLane (s : State) (m : ℕ) : Type 0 where
  pub claim : claim_of s m ≡ None
  pub one : HoldsOne s.queue m
  pub lane : claim_lane (claim_of s m) + waiting_lane s.queue m ≡ lane_by one.request

pub reads : (s : State) (m : ℕ) → Law s → IsEmptyLane s m ⊎ (IsFillingLane s m ⊎ IsRequestLane s m)
reads s m law = ⊎_elim
    (λ (none : claim_of s m ≡ None). let c = ap claim_lane none in let k = ap count_of_claim none in let most =
    law.apart m in ⊎_elim
    (λ (h : HoldsNone s.queue m). inl (record { claim = none; none = h; lane = let l = h.lane in omega arith }))
    (λ (h : HoldsOne s.queue m). inr (inr (record { claim = none; one = h; lane = let l = h.lane in omega arith })))
    (holds s.queue m (omega arith)))
    (λ (t : (r : ℕ) × (claim_of s m ≡ Some r)). let c = ap claim_lane t.1 in let k = ap count_of_claim t.1 in let most =
    law.apart m in
    let h = holds_none s.queue m (omega arith) in
    inr (inl (record { owner = t.0; claim = t.1; none = h; lane = let l = h.lane in omega arith })))
    (some_or_none (claim_of s m))

-- a lane that is 0 is empty
pub is_empty : (s : State) (m : ℕ) → Law s → claim_lane (claim_of s m) + waiting_lane s.queue m ≡ 0 → IsEmptyLane s m
is_empty s m law z = ⊎_elim (λ e. e) (λ k. ⊎_elim (λ (f : IsFillingLane s m). let l = f.lane in absurd (omega arith))
    (λ (q : IsRequestLane s m). let l = q.lane in let b = within q.one.request in absurd (omega arith)) k)
    (reads s m law)

-- a lane that fills under a route is claimed by it
pub is_filling : (s : State) (m r : ℕ) → Law s → claim_lane (claim_of s m) + waiting_lane s.queue m ≡ filling r →
    claim_of s m ≡ Some r
is_filling s m r law is = ⊎_elim (λ (e : IsEmptyLane s m). let l = e.lane in absurd (omega arith)) (λ k. ⊎_elim
    (λ (f : IsFillingLane s m). f.claim ∙ ap Some (let l = f.lane in let e : f.owner ≡ r = omega arith in e))
    (λ (q : IsRequestLane s m). let l = q.lane in
    absurd (not_filling q.one.request.status q.one.request.abort_asked q.one.request.route r (sym l ∙ is))) k)
    (reads s m law)

-- a lane that holds a request has its mark
pub has_mark : (s : State) (m lane : ℕ) → Law s → lane ≡ claim_lane (claim_of s m) + waiting_lane s.queue m →
    3 ≤ lane % 32 → IsMark (lane % 32)
has_mark s m lane law is low = ⊎_elim (λ (e : IsEmptyLane s m). let l = e.lane in absurd (omega arith)) (λ k. ⊎_elim
    (λ (f : IsFillingLane s m). let l = f.lane in absurd (omega arith))
    (λ (q : IsRequestLane s m). let w = q.one.request in let b = within w in
    subst IsMark (low_bits lane (mark_by w.status w.abort_asked) w.route b.1 (is ∙ q.lane))
    (is_mark w.status w.abort_asked)) k) (reads s m law)

-- a mark tells its status, and whether an abort was asked
abbrev pub status_in : ℕ → Status
status_in n = cond (n == 3) Pending (cond (nat_lt n 8) Scheduled (cond (n == 23) Scheduled Transmitting))

pub status_back : (st : Status) (asked : Bool) → status_in (mark_by st asked) ≡ st
status_back Pending asked = refl
status_back Scheduled true = refl
status_back Scheduled false = refl
status_back Transmitting true = refl
status_back Transmitting false = refl

pub asked_back : (st : Status) (asked : Bool) → (asked ≡ true → is_pending st ≡ false) →
    nat_lt 15 (mark_by st asked) ≡ asked
asked_back Pending true busy = sym (busy refl)
asked_back Pending false busy = refl
asked_back Scheduled true busy = refl
asked_back Scheduled false busy = refl
asked_back Transmitting true busy = refl
asked_back Transmitting false busy = refl

pub same_request : (x w : Waiting) → Some x ≡ Some w → x ≡ w
same_request x w e = cc

-- what waits in a mailbox is there
pub at_has : (m : ℕ) (q : List Waiting) (w : Waiting) → at_mailbox m q ≡ Some w → Has q w × (w.mailbox ≡ m)
at_has m [] w e = cc
at_has m (x ∷ xs) w e = elim (is_at m x) as (λ b. is_at m x ≡ b → cond b (Some x) (at_mailbox m xs) ≡ Some w →
    Has (x ∷ xs) w × (w.mailbox ≡ m)) [
      | true ↦ λ here e. let is =
          same_request x w e in (inl is, ap (λ (y : Waiting). y.mailbox) (sym is) ∙ eqb-true x.mailbox m here)
      | false ↦ λ _ e. let t = at_has m xs w e in (inr t.0, t.1)
    ] refl e
