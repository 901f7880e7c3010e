-- The events of a request that was found in the queue.
use Rattle.std.proofs.Common.{Bool, cond, ◌≡◌, ℕ, suc, inl, inr, List, [], ◌∷◌, length, set, refl, sym, ap, ◌∙◌, subst}
use Rattle.std.proofs.Common.{arith, true, false, not, Option, Some, Ok, Err, Result, eq-eqb}
use Rattle.std.specs.Prelude.{IfSome, slice_get}
use Rattle.std.proofs.lemmas.Bool.{not-false}
use Rattle.std.specs.List.{find}
use Rattle.bx_core.specs.declared.waiting.Waiting.{Waiting}
use Rattle.bx_core.specs.declared.status.Status.TheVariants.{Scheduled, Transmitting}
use Rattle.bx_core.specs.declared.refused.Refused.{Refused}
use Rattle.bx_core.specs.declared.refused.Refused.TheVariants.{Memory, WrongState}
use Rattle.bx_core.specs.Lists.{Each, Has}
use Rattle.bx_core.specs.States.{State, lists_of, at_mailbox, place_of, is_at, is_pending, is_scheduled}
use Rattle.bx_core.specs.States.{is_transmitting, on_bus, in_turn}
use Rattle.bx_core.specs.Priority.{goes_first, is_next_by, next_by, is_next}
use Rattle.bx_core.specs.Steps.{Steps, with_waiting, without, done_lists, reaped_lists, may_start, may_reap, scheduled}
use Rattle.bx_core.specs.Steps.{started, started_at, completed, completed_at, failed, failed_at, reaped, reaped_at}
use Rattle.bx_core.specs.Law.{Law, IsInPlace, count_busy}
use Rattle.bx_core.proofs.Words.{passed_last}
use Rattle.bx_core.proofs.Queues.{Split, split_at}
use Rattle.bx_core.proofs.Reaches.{alone, scheduled_busy, transmitting_busy}
use Rattle.bx_core.proofs.Numbers.{has-at_mailbox}

-- a step that only want of memory could have stopped was made
pub took : (s t u : State) (step : Result State Refused) (result : Result (Unit {0}) Refused) →
    Steps ⊥ s step result t → step ≡ Ok u → step ≡ Ok t
took s t u step (Ok done) e h = e
took s t u step (Err Memory) e h = absurd e.0
took s t u step (Err why) e h = let no_step = e.1 in cc

-- what a search finds waits, and is so

found_case : (b : Bool) (x w : Waiting) (rest : Option Waiting) (P : Type 0) → cond b (Some x) rest ≡ Some w →
    (b ≡ true → x ≡ w → P) → (rest ≡ Some w → P) → P
found_case true x w rest P e f g = let same : x ≡ w = cc in f refl same
found_case false x w rest P e f g = g e

pub find-has : (is : Waiting → Bool) (q : List Waiting) (w : Waiting) → find is q ≡ Some w → Has q w
find-has is [] w e = cc
find-has is (x ∷ q) w e =
    found_case (is x) x w (find is q) (Has (x ∷ q) w) e (λ so same. inl same) (λ h. inr (find-has is q w h))

pub find-is : (is : Waiting → Bool) (q : List Waiting) (w : Waiting) → find is q ≡ Some w → is w ≡ true
find-is is [] w e = cc
find-is is (x ∷ q) w e = found_case (is x) x w (find is q) (is w ≡ true) e (λ so same. subst (λ y. is y ≡ true) same so)
    (λ h. find-is is q w h)

found_in_place : (routes : ℕ) (is : Waiting → Bool) (q : List Waiting) → Each (IsInPlace routes) q →
    IfSome (find is q) (IsInPlace routes)
found_in_place routes is [] a = tt
found_in_place routes is (x ∷ q) a = either (is x) (found_in_place routes is q a.1)
  where
    either : (b : Bool) → IfSome (find is q) (IsInPlace routes) →
        IfSome (cond b (Some x) (find is q)) (IsInPlace routes)
    either true h = a.0
    either false h = h

-- and its route and its mailbox are there
pub find-in_place : (s : State) (is : Waiting → Bool) (o : Option Waiting) → Law s → o ≡ find is s.queue →
    IfSome o (IsInPlace (length s.routes))
find-in_place s is o l e = subst (λ (x : Option Waiting). IfSome x (IsInPlace (length s.routes))) (sym e)
    (found_in_place (length s.routes) is s.queue l.in_place)

-- what comes next waits, and where it is pending it may be scheduled

first_there : (q : List Waiting) (w : Waiting) → slice_get q 0 ≡ Some w → Has q w × (place_of w.mailbox q ≡ 0)
first_there [] w e = cc
first_there (x ∷ q) w e = let same : x ≡ w = cc in
    subst (λ (y : Waiting). Has (x ∷ q) y × (place_of y.mailbox (x ∷ q) ≡ 0)) same
    (inl refl, ap (λ b. cond b 0 (suc (place_of x.mailbox q))) (eq-eqb x.mailbox x.mailbox refl))

pub next_there : (b : Bool) (q : List Waiting) (w : Waiting) → next_by b q ≡ Some w → Has q w
    × (is_next_by b (place_of w.mailbox q) w q ≡ true)
next_there true q w e = let h = first_there q w e in (h.0, eq-eqb (place_of w.mailbox q) 0 h.1)
next_there false q w e =
    (find-has (λ (y : Waiting). goes_first y q) q w e, find-is (λ (y : Waiting). goes_first y q) q w e)

-- a request that waits, and those before it and behind it
pub record IsFound (s : State) (w : Waiting) : Type 0 where
  pub at : at_mailbox w.mailbox s.queue ≡ Some w
  pub split : Split w.mailbox s.queue w

pub found : (s : State) (w : Waiting) → Law s → Has s.queue w → IsFound s w
found s w l h =
    let apart = l.apart w.mailbox in
    let at = has-at_mailbox s.queue w h (omega arith) in
    record { at = at; split = split_at w.mailbox s.queue w at }

-- the place of a request that waits
abbrev pub at_of : State → Waiting → ℕ
at_of s w = place_of w.mailbox s.queue

-- a request that is scheduled or transmitting: the others are pending
pub record IsAlone (s : State) (w : Waiting) : Type 0 where
  pub at : at_mailbox w.mailbox s.queue ≡ Some w
  pub split : Split w.mailbox s.queue w
  pub before : count_busy split.before ≡ 0
  pub behind : count_busy split.behind ≡ 0

pub is_alone : (s : State) (w : Waiting) → Law s → IsFound s w → is_pending w.status ≡ false → IsAlone s w
is_alone s w l f busy =
    let a = alone s w.mailbox w f.split l busy in
    record { at = f.at; split = f.split; before = omega (arith, a); behind = omega (arith, a) }

pub scheduled_alone : (s : State) (w : Waiting) → Law s → in_turn s ≡ Some w → IsAlone s w
scheduled_alone s w l e =
    let is : Waiting → Bool = λ (y : Waiting). is_scheduled y.status in
    is_alone s w l (found s w l (find-has is s.queue w e)) (scheduled_busy w.status (find-is is s.queue w e))

pub sent_alone : (s : State) (w : Waiting) → Law s → on_bus s ≡ Some w → IsAlone s w
sent_alone s w l e =
    let is : Waiting → Bool = λ (y : Waiting). is_transmitting y.status in
    is_alone s w l (found s w l (find-has is s.queue w e)) (transmitting_busy w.status (find-is is s.queue w e))

-- where something is on the bus, it is what was found there
pub transmits : (s : State) (w : Waiting) → on_bus s ≡ Some w → is_transmitting w.status ≡ true
transmits s w e = find-is (λ (y : Waiting). is_transmitting y.status) s.queue w e

-- events that are not refused

pub goes-schedule : (s : State) (w : Waiting) → at_mailbox w.mailbox s.queue ≡ Some w → is_pending w.status ≡ true →
    is_next s (at_of s w) w ≡ true →
    scheduled s w.mailbox ≡ Ok (with_waiting s (at_of s w) (record w { status = Scheduled }))
unfolding scheduled
goes-schedule s w at pending next = rw (at, pending, next) refl

pub stays-schedule : (s : State) (w : Waiting) → at_mailbox w.mailbox s.queue ≡ Some w → is_pending w.status ≡ false →
    scheduled s w.mailbox ≡ Err WrongState
unfolding scheduled
stays-schedule s w at other = rw (at, other) refl

pub goes-start : (s : State) (w : Waiting) → at_mailbox w.mailbox s.queue ≡ Some w → may_start w ≡ true →
    started s w.mailbox ≡ Ok (with_waiting s (at_of s w) (record w { status = Transmitting }))
unfolding started
goes-start s w at may = rw (at, may) refl

pub goes-complete : (s : State) (w : Waiting) → at_mailbox w.mailbox s.queue ≡ Some w →
    is_transmitting w.status ≡ true → completed s w.mailbox
    ≡ Ok (without s (at_of s w) w.route (done_lists (lists_of s w.route) w))
unfolding completed
goes-complete s w at sends = rw (at, sends) refl

pub goes-fail : (s : State) (w : Waiting) → at_mailbox w.mailbox s.queue ≡ Some w → is_transmitting w.status ≡ true →
    failed s w.mailbox ≡ Ok (with_waiting s (at_of s w) (record w { status = Scheduled }))
unfolding failed
goes-fail s w at sends = rw (at, sends) refl

pub goes-reap : (s : State) (w : Waiting) → at_mailbox w.mailbox s.queue ≡ Some w → may_reap w ≡ true →
    reaped s w.mailbox ≡ Ok (without s (at_of s w) w.route (reaped_lists (lists_of s w.route) w))
unfolding reaped
goes-reap s w at may = rw (at, may) refl

-- what each event found, and what it left

pub was_started : (s t : State) (w : Waiting) → at_mailbox w.mailbox s.queue ≡ Some w → started s w.mailbox ≡ Ok t →
    (may_start w ≡ true) × (with_waiting s (at_of s w) (record w { status = Transmitting }) ≡ t)
unfolding started
was_started s t w at h =
    let p = passed_last (not (may_start w)) WrongState _ t
    (subst (λ (o : Option Waiting). started_at s (at_of s w) o ≡ Ok t) at h) in
    (not-false (may_start w) p.0, p.1)

pub was_completed : (s t : State) (w : Waiting) → at_mailbox w.mailbox s.queue ≡ Some w → completed s w.mailbox ≡ Ok t →
    (is_transmitting w.status ≡ true) × (without s (at_of s w) w.route (done_lists (lists_of s w.route) w) ≡ t)
unfolding completed
was_completed s t w at h =
    let p = passed_last (not (is_transmitting w.status)) WrongState _ t
    (subst (λ (o : Option Waiting). completed_at s (at_of s w) o ≡ Ok t) at h) in
    (not-false (is_transmitting w.status) p.0, p.1)

pub was_failed : (s t : State) (w : Waiting) → at_mailbox w.mailbox s.queue ≡ Some w → failed s w.mailbox ≡ Ok t →
    (is_transmitting w.status ≡ true) × (with_waiting s (at_of s w) (record w { status = Scheduled }) ≡ t)
unfolding failed
was_failed s t w at h =
    let p = passed_last (not (is_transmitting w.status)) WrongState _ t
    (subst (λ (o : Option Waiting). failed_at s (at_of s w) o ≡ Ok t) at h) in
    (not-false (is_transmitting w.status) p.0, p.1)

pub was_reaped : (s t : State) (w : Waiting) → at_mailbox w.mailbox s.queue ≡ Some w → reaped s w.mailbox ≡ Ok t →
    (may_reap w ≡ true) × (without s (at_of s w) w.route (reaped_lists (lists_of s w.route) w) ≡ t)
unfolding reaped
was_reaped s t w at h =
    let p = passed_last (not (may_reap w)) WrongState _ t
    (subst (λ (o : Option Waiting). reaped_at s (at_of s w) o ≡ Ok t) at h) in
    (not-false (may_reap w) p.0, p.1)

-- another in its mailbox stands in its place
abbrev InPlace : ℕ → List Waiting → ℕ → Waiting → Type 0
InPlace m q place x = (at_mailbox m q ≡ Some x) × (place_of m q ≡ place)

in_place_case : (b : Bool) (m : ℕ) (y w x : Waiting) (q : List Waiting) → is_at m y ≡ b → x.mailbox ≡ m →
    (at_mailbox m q ≡ Some w → InPlace m (set q (place_of m q) x) (place_of m q) x) →
    cond b (Some y) (at_mailbox m q) ≡ Some w → InPlace m (set (y ∷ q) (cond b 0 (suc (place_of m q))) x)
    (cond b 0 (suc (place_of m q))) x
in_place_case true m y w x q is own ih e =
    let here : is_at m x ≡ true = eq-eqb x.mailbox m own in
    (ap (λ b. cond b (Some x) (at_mailbox m q)) here, ap (λ b. cond b 0 (suc (place_of m q))) here)
in_place_case false m y w x q is own ih e =
    let p = ih e in
    let r = set q (place_of m q) x in
    (ap (λ b. cond b (Some y) (at_mailbox m r)) is ∙ p.0, ap (λ b. cond b 0 (suc (place_of m r))) is ∙ ap suc p.1)

pub set_in_place : (m : ℕ) (q : List Waiting) (w x : Waiting) → x.mailbox ≡ m → at_mailbox m q ≡ Some w →
    InPlace m (set q (place_of m q) x) (place_of m q) x
set_in_place m [] w x own e = cc
set_in_place m (y ∷ q) w x own e = in_place_case (is_at m y) m y w x q refl own (set_in_place m q w x own) e

-- what is in the mailbox after a failure
pub failed_at_place : (s u : State) (w : Waiting) → at_mailbox w.mailbox s.queue ≡ Some w → failed s w.mailbox ≡ Ok u →
    InPlace w.mailbox u.queue (at_of s w) (record w { status = Scheduled })
failed_at_place s u w at f =
    let x : Waiting = record w { status = Scheduled } in
    subst (λ (v : State). InPlace w.mailbox v.queue (at_of s w) x) (was_failed s u w at f).1
    (set_in_place w.mailbox s.queue w x refl at)

-- after a failure that was asked to end
pub goes-reap_after : (s u : State) (w : Waiting) → at_mailbox w.mailbox s.queue ≡ Some w → w.abort_asked ≡ true →
    failed s w.mailbox ≡ Ok u →
    reaped u w.mailbox
    ≡ Ok (without u (at_of u w) w.route (reaped_lists (lists_of u w.route) (record w { status = Scheduled })))
goes-reap_after s u w at asked f = goes-reap u (record w { status = Scheduled }) (failed_at_place s u w at f).0 asked
