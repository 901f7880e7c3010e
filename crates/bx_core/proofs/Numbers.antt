-- The request of a route's number, where it waits.
use Rattle.std.proofs.Common.{◌≡◌, ℕ, suc, ◌≤◌, ◌==◌, ◌&&◌, inl, inr, ⊎_elim, Bool, true, false, cond, List, [], ◌∷◌}
use Rattle.std.proofs.Common.{refl, sym, ap, ◌∙◌, subst, arith, Option, Some, None, Ok, eq-eqb, eqb-true}
use Rattle.std.proofs.lemmas.Bool.{false≢true, and_parts}
use Rattle.bx_core.specs.declared.waiting.Waiting.{Waiting}
use Rattle.bx_core.specs.Lists.{Has}
use Rattle.bx_core.specs.Law.{count_at}
use Rattle.bx_core.specs.States.{State, lists_of, at_mailbox, place_of, is_transmitting, is_at, waits_of, of_number}
use Rattle.bx_core.specs.Steps.{aborted, aborted_lists, with_waiting, without}
use Rattle.bx_core.specs.PlainMail.{IsOf}
use Rattle.bx_core.proofs.Reaches.{went}

found_case : (b : Bool) (x w : Waiting) (rest : Option Waiting) (P : Type 0) → cond b (Some x) rest ≡ Some w →
    (b ≡ true → x ≡ w → P) → (rest ≡ Some w → P) → P
found_case true x w rest P e f g = let same : x ≡ w = cc in f refl same
found_case false x w rest P e f g = g e

-- what is found waits
pub of_number_has : (r n : ℕ) (q : List Waiting) (w : Waiting) → of_number r n q ≡ Some w → Has q w
of_number_has r n [] w e = cc
of_number_has r n (x ∷ q) w e = found_case ((x.route == r) && (x.number == n)) x w (of_number r n q) (Has (x ∷ q) w) e
    (λ is same. inl same) (λ h. inr (of_number_has r n q w h))

-- and is of that route and number
pub of_number_is : (r n : ℕ) (q : List Waiting) (w : Waiting) → of_number r n q ≡ Some w → IsOf r n w
of_number_is r n [] w e = cc
of_number_is r n (x ∷ q) w e = found_case ((x.route == r) && (x.number == n)) x w (of_number r n q) (IsOf r n w) e
    (λ is same. let p = and_parts (x.route == r) (x.number == n) is in
    subst (IsOf r n) same (record { route_is = eqb-true x.route r p.0; number_is = eqb-true x.number n p.1 }))
    (λ h. of_number_is r n q w h)

none_case : (b : Bool) (x : Waiting) (rest : Option Waiting) → cond b (Some x) rest ≡ None → (b ≡ false) × (rest ≡ None)
none_case true x rest e = cc
none_case false x rest e = (refl, e)

none_step : (a : Bool) (m n : ℕ) (ws : List ℕ) → (a && (m == n)) ≡ false → (Has ws n → ⊥) → Has (cond a (m ∷ ws) ws) n →
    ⊥
none_step true m n ws e f h = ⊎_elim (λ is. false≢true (sym e ∙ eq-eqb m n is)) f h
none_step false m n ws e f h = f h

-- where nothing is found, the number waits nowhere
pub of_number-none : (r n : ℕ) (q : List Waiting) → of_number r n q ≡ None → Has (waits_of r q) n → ⊥
of_number-none r n [] e h = absurd h
of_number-none r n (x ∷ q) e h =
    let p = none_case ((x.route == r) && (x.number == n)) x (of_number r n q) e in
    none_step (x.route == r) x.number n (waits_of r q) p.0 (of_number-none r n q p.1) h

-- a request that waits is the one in its mailbox, where no other is

has-count : (q : List Waiting) (w : Waiting) → Has q w → 1 ≤ count_at w.mailbox q
has-count [] w h = absurd h
has-count (x ∷ q) w h = ⊎_elim
    (λ same. subst (λ (y : Waiting). 1 ≤ count_at y.mailbox (x ∷ q)) same
    (rw (eq-eqb x.mailbox x.mailbox refl) (omega arith)))
    (λ k. let ih = has-count q w k in
    elim (is_at w.mailbox x) as (λ b. 1 ≤ cond b (suc (count_at w.mailbox q)) (count_at w.mailbox q))
    [ true ↦ omega arith | false ↦ ih ])
    h

alone_case : (b : Bool) (x w : Waiting) (q : List Waiting) → is_at w.mailbox x ≡ b → Has (x ∷ q) w →
    count_at w.mailbox (x ∷ q) ≤ 1 →
    (count_at w.mailbox q ≤ 1 → Has q w → at_mailbox w.mailbox q ≡ Some w) →
    cond b (Some x) (at_mailbox w.mailbox q) ≡ Some w
alone_case true x w q is h one ih = ⊎_elim
    (λ same. ap Some same)
    (λ k. let here = has-count q w k in
    let two : suc (count_at w.mailbox q) ≤ 1 =
    subst (λ (b : Bool). cond b (suc (count_at w.mailbox q)) (count_at w.mailbox q) ≤ 1) is one in
    absurd (omega arith))
    h
alone_case false x w q is h one ih = ⊎_elim
    (λ same. absurd (false≢true (sym is ∙ eq-eqb x.mailbox w.mailbox (ap (λ (y : Waiting). y.mailbox) same))))
    (λ k. ih (subst (λ (b : Bool). cond b (suc (count_at w.mailbox q)) (count_at w.mailbox q) ≤ 1) is one) k)
    h

pub has-at_mailbox : (q : List Waiting) (w : Waiting) → Has q w → count_at w.mailbox q ≤ 1 →
    at_mailbox w.mailbox q ≡ Some w
has-at_mailbox [] w h one = absurd h
has-at_mailbox (x ∷ q) w h one = alone_case (is_at w.mailbox x) x w q refl h one (λ few k. has-at_mailbox q w k few)

ok_either : (b : Bool) (u v : State) → (t : State) × (cond b (went u) (went v) ≡ Ok t)
ok_either true u v = (u, refl)
ok_either false u v = (v, refl)

-- an abort is not refused where it wasn't asked before
pub goes-abort : (s : State) (r : ℕ) (w : Waiting) → at_mailbox w.mailbox s.queue ≡ Some w → w.route ≡ r →
    w.abort_asked ≡ false → (t : State) × (aborted s r w.mailbox ≡ Ok t)
unfolding aborted
goes-abort s r w at own asked =
    let e = ok_either (is_transmitting w.status)
    (with_waiting s (place_of w.mailbox s.queue) (record w { abort_asked = true }))
    (without s (place_of w.mailbox s.queue) w.route (aborted_lists (lists_of s w.route) w)) in
    (e.0, rw (at, eq-eqb w.route r own, asked) e.1)
