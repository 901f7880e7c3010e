-- A look of a route's seat keeps the rule, and which of its numbers it then knows to be in no mailbox.
use Rattle.std.proofs.Common.{◌≡◌, ℕ, zero, suc, ◌+◌, ◌*◌, ◌/◌, ◌%◌, ◌<◌, ◌≤◌, inl, inr, ⊎_elim, ◌==◌, ◌&&◌, ◌||◌}
use Rattle.std.proofs.Common.{nat_lt, cond, List, [], ◌∷◌, length, get_or, refl, sym, ap, ◌∙◌, arith, eq-eqb, lt-ltb}
use Rattle.std.proofs.Common.{Some, None, Bool, true, false, true≢false}
use mathlib.Core.Option.{none, some}
use lib.ListN.{get_elem?}
use Rattle.atomic_table.specs.Table.{step, keeps, stepped, Allows}
use Rattle.bx_core.specs.declared.waiting.Waiting.{Waiting}
use Rattle.bx_core.specs.Lists.{Each, Has}
use Rattle.bx_core.specs.States.{State, at_mailbox}
use Rattle.bx_core.specs.Steps.{last_number}
use Rattle.bx_core.specs.Law.{Law, IsInPlace}
use Rattle.bx_core.proofs.Words.{each_more, each_of}
use Rattle.bx_core.proofs.Reaches.{law_of}
use Rattle.bx_core.proofs.Numbers.{has-at_mailbox}
use Rattle.bx_words.specs.Lanes.{lane_of, mark_of}
use Rattle.bx_words.proofs.Cases.{of_mailboxes}
use Rattle.bx_shared.specs.declared.route_view.RouteView.{RouteView}
use Rattle.bx_shared.specs.Marks.{mark_by, lane_by}
use Rattle.bx_shared.specs.Ended.{is_in, stays_in, ended_of, up_to}
use Rattle.bx_shared.specs.Shown.{Shows, IsKnown, IsKept, IsKeptAs}
use Rattle.bx_shared.specs.Steps.{seat_of, looked, Looks}
use Rattle.bx_shared.proofs.Reading.{same_request, reads, within, IsEmptyLane, IsFillingLane, IsRequestLane}
use Rattle.bx_shared.proofs.Moves.{St, alone, stays, own_word}

pub none_not_some : (w : Waiting) → None ≡ Some w → ⊥
none_not_some w e = cc

-- the lane of a request that waits
pub lane_of_request : (ws : List ℕ) (s : State) (w : Waiting) → Shows ws s → Law s → Has s.queue w →
    lane_of (get_or ws 0 0) w.mailbox ≡ lane_by w
lane_of_request ws s w sh law has =
    let small = (each_of (IsInPlace (length s.routes)) s.queue w law.in_place has).mailbox in
    let at : at_mailbox w.mailbox s.queue ≡ Some w =
    has-at_mailbox s.queue w has (let h = law.apart w.mailbox in omega arith) in
    sh.lanes w.mailbox small ∙ ⊎_elim
    (λ (e : IsEmptyLane s w.mailbox). absurd (none_not_some w (sym e.none.at ∙ at)))
    (λ k. ⊎_elim (λ (f : IsFillingLane s w.mailbox). absurd (none_not_some w (sym f.none.at ∙ at)))
    (λ (q : IsRequestLane s w.mailbox). q.lane ∙ ap lane_by (same_request q.one.request w (sym q.one.at ∙ at))) k)
    (reads s w.mailbox law)

or_first : (a b : Bool) → a ≡ true → (a || b) ≡ true
or_first a b e = ap (λ x. x || b) e

or_second : (a b : Bool) → b ≡ true → (a || b) ≡ true
or_second true b e = refl
or_second false b e = e

both_true : (a b : Bool) → a ≡ true → b ≡ true → (a && b) ≡ true
both_true a b e f = ap (λ x. x && b) e ∙ f

-- one of three mailboxes
any_of : (last : List ℕ) (r w n m : ℕ) → m < 3 → is_in last r w n m ≡ true → stays_in last r w n ≡ true
any_of last r w n = of_mailboxes (λ m. is_in last r w n m ≡ true → stays_in last r w n ≡ true)
    (λ e. or_first (is_in last r w n 0 || is_in last r w n 1) (is_in last r w n 2)
    (or_first (is_in last r w n 0) (is_in last r w n 1) e))
    (λ e. or_first (is_in last r w n 0 || is_in last r w n 1) (is_in last r w n 2)
    (or_second (is_in last r w n 0) (is_in last r w n 1) e))
    (λ e. or_second (is_in last r w n 0 || is_in last r w n 1) (is_in last r w n 2) e)

owner_in : (lane m q r : ℕ) → m < 32 → lane ≡ m + 32 * q → q ≡ r → lane / 32 ≡ r
owner_in lane m q r b e is = omega arith

mark_in : (lane m q : ℕ) → m < 32 → 3 ≤ m → lane ≡ m + 32 * q → 2 < lane % 32
mark_in lane m q b l e = omega arith

-- a request of the route that waits is in a mailbox by the look
waits_in : (ws : List ℕ) (s : State) (last : List ℕ) (r : ℕ) (w : Waiting) → Shows ws s → Law s → Has s.queue w →
    w.route ≡ r → get_or last w.mailbox 0 ≡ w.number →
    stays_in last r (get_or ws 0 0) w.number ≡ true
waits_in ws s last r w sh law has is put =
    let word = get_or ws 0 0 in
    let small = (each_of (IsInPlace (length s.routes)) s.queue w law.in_place has).mailbox in
    let lane = lane_of_request ws s w sh law has in
    let b = within w in
    let mark = mark_by w.status w.abort_asked in
    any_of last r word w.number w.mailbox small
    (both_true ((lane_of word w.mailbox / 32 == r) && nat_lt 2 (mark_of word w.mailbox))
    (get_or last w.mailbox 0 == w.number)
    (both_true (lane_of word w.mailbox / 32 == r) (nat_lt 2 (mark_of word w.mailbox))
    (eq-eqb (lane_of word w.mailbox / 32) r (owner_in (lane_of word w.mailbox) mark w.route r b.1 lane is))
    (lt-ltb 2 (mark_of word w.mailbox) (mark_in (lane_of word w.mailbox) mark w.route b.1 b.0 lane)))
    (eq-eqb (get_or last w.mailbox 0) w.number put))

-- one of two lists, by a truth value
pub by_cases : {A : Type 0} (P : A → Type 0) (b : Bool) (x y : A) → (b ≡ true → P x) → (b ≡ false → P y) →
    P (cond b x y)
by_cases P true x y f g = f refl
by_cases P false x y f g = g refl

-- no number that the look puts among the ended ones is in a mailbox by it
ended_out : (last : List ℕ) (r w : ℕ) (ns : List ℕ) → Each (λ n. stays_in last r w n ≡ false) (ended_of last r w ns)
ended_out last r w [] = tt
ended_out last r w (n ∷ ns) = by_cases (Each (λ n. stays_in last r w n ≡ false)) (stays_in last r w n)
    (ended_of last r w ns) (n ∷ ended_of last r w ns)
    (λ _. ended_out last r w ns) (λ out. (out, ended_out last r w ns))

ended_among : (Q : ℕ → Type 0) (last : List ℕ) (r w : ℕ) (ns : List ℕ) → Each Q ns → Each Q (ended_of last r w ns)
ended_among Q last r w [] a = tt
ended_among Q last r w (n ∷ ns) a = by_cases (Each Q) (stays_in last r w n) (ended_of last r w ns)
    (n ∷ ended_of last r w ns) (λ _. ended_among Q last r w ns a.1) (λ _. (a.0, ended_among Q last r w ns a.1))

up_to_most : (n k : ℕ) → n ≤ k → Each (λ x. x ≤ k) (up_to n)
up_to_most zero k h = tt
up_to_most (suc n) k h = (h, up_to_most n k (omega arith))

pub each_all : (P : Waiting → Type 0) (all q : List Waiting) → ((w : Waiting) → Has all w → P w) →
    ((w : Waiting) → Has q w → Has all w) → Each P q
each_all P all [] f g = tt
each_all P all (x ∷ xs) f g = (f x (g x (inl refl)), each_all P all xs f (λ w h. g w (inr h)))

-- a look changes no state of the core
pub looks : (txfp : Bool) (t : St) (k : IsKept txfp t) (id : ℕ) (p : RouteView) →
    get_elem? t.views id ≡ some (alone p) →
    IsKeptAs txfp (stepped t 0 (get_or t.words 0 0) id [] (alone (looked p (get_or t.words 0 0))) keeps) k.core
looks txfp t k id p me =
    let s = k.core in
    let law = law_of s k.reached in
    let w = get_or t.words 0 0 in
    let q = looked p w in
    let ns = up_to (last_number p.requested) in
    stays txfp t k id p q me refl (λ f. record {
      requested = f.requested;
      aborted = f.aborted;
      reaped = f.reaped;
      claim = λ y. let c = f.claim y in record { own = c.own; head = c.head; bytes = c.bytes };
      only = f.only;
      three = f.three;
      waiting =
          each_all (IsKnown q) s.queue s.queue (λ x has is. let g = each_of (IsKnown p) s.queue x f.waiting has is in (
            g.0,
            g.1,
            each_more (λ n. stays_in p.last p.route w n ≡ false) (λ n. ¬ (n ≡ x.number)) (ended_of p.last p.route w ns)
                (λ n out same. true≢false (sym (waits_in t.words s p.last p.route x k.shows law has is g.0)
                ∙ ap (stays_in p.last p.route w) (sym same) ∙ out)) (ended_out p.last p.route w ns),
          )) (λ x h. h);
      ended = ended_among (λ n. n ≤ last_number p.requested) p.last p.route w ns
          (up_to_most (last_number p.requested) (last_number p.requested) (omega arith));
    })

pub looks-keep : (txfp : Bool) (slots id : ℕ) (p : RouteView) →
    Allows (IsKept txfp) slots id (seat_of p) 0 (λ n. n) (Looks (step slots 0 0 0 none) (seat_of p))
looks-keep txfp slots id p t k long me fits =
    (alone (looked p (get_or t.words 0 0)), keeps, tt, (looks txfp t k id p me).kept, (refl, own_word txfp t k id p me))
