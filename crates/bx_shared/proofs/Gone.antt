-- What a route's seat knows after a try to abort.
use Rattle.std.proofs.Common.{◌≡◌, ℕ, zero, suc, ◌/◌, ◌<◌, ◌≤◌, ◌⊎◌, inl, inr, ⊎_elim, ◌==◌, ◌&&◌, nat_lt, List, []}
use Rattle.std.proofs.Common.{◌∷◌, get_or, sym, ap, ◌∙◌, subst, arith, ltb-true, eqb-true, true, false, true≢false}
use Rattle.std.proofs.lemmas.Bool.{and_parts}
use mathlib.Core.Logic.{dite}
use native.Mathlib.Decide.{ℕ_discrete}
use Rattle.bx_core.specs.declared.point.Point.{Point}
use Rattle.bx_core.specs.declared.point.Point.TheVariants.{Look, Abort}
use Rattle.bx_core.specs.Gate.{Passes}
use Rattle.bx_core.specs.Lists.{Has}
use Rattle.bx_core.specs.Steps.{last_number}
use Rattle.bx_words.specs.Lanes.{lane_of, mark_of}
use Rattle.bx_shared.specs.declared.route_view.RouteView.{RouteView}
use Rattle.bx_shared.specs.declared.abort_outcome.AbortOutcome.{AbortOutcome}
use Rattle.bx_shared.specs.declared.abort_outcome.AbortOutcome.TheVariants.{Aborted, Asked, Gone, Contended}
use Rattle.bx_shared.specs.Marks.{IsMark}
use Rattle.bx_shared.specs.Ended.{is_in, stays_in, ended_of, up_to}
use Rattle.bx_shared.specs.Steps.{looked, IsOwn}
use Rattle.bx_shared.specs.Calls.{IsAskedThere, TakesOut, AsksNow, HearsAbort}
use Rattle.bx_shared.proofs.Looking.{by_cases}
use Rattle.bx_shared.proofs.Losing.{passes_on}

up_to-has : (k n : ℕ) → 1 ≤ n → n ≤ k → Has (up_to k) n
up_to-has zero n a b = absurd (omega arith)
up_to-has (suc k) n a b = dite (ℕ_discrete (suc k) n) (λ e. inl e) (λ e. inr (up_to-has k n a (omega arith)))

-- a number that is in no mailbox is among those that ended
ended-has : (last : List ℕ) (r w n : ℕ) (ns : List ℕ) → stays_in last r w n ≡ false → Has ns n →
    Has (ended_of last r w ns) n
ended-has last r w n [] out h = h
ended-has last r w n (x ∷ xs) out h =
    by_cases (λ l. Has l n) (stays_in last r w x) (ended_of last r w xs) (x ∷ ended_of last r w xs)
    (λ here. ⊎_elim (λ (e : x ≡ n). absurd (true≢false (sym here ∙ ap (stays_in last r w) e ∙ out)))
    (λ k. ended-has last r w n xs out k) h)
    (λ _. ⊎_elim (λ (e : x ≡ n). inl e) (λ k. inr (ended-has last r w n xs out k)) h)

pub is_gone : (p : RouteView) (seen number route : ℕ) (tops : List ℕ) → p.last ≡ tops → p.route ≡ route → 1 ≤ number →
    number ≤ last_number p.requested → stays_in tops route seen number ≡ false →
    Has (looked p seen).ended number
is_gone p seen number route tops put own some most out =
    ended-has p.last p.route seen number (up_to (last_number p.requested))
    (subst (λ (l : List ℕ). stays_in l p.route seen number ≡ false) (sym put)
    (subst (λ (r : ℕ). stays_in tops r seen number ≡ false) (sym own) out))
    (up_to-has (last_number p.requested) number some most)

-- a mailbox that holds a number of the route: its lane is requested, and the route's
pub record HoldsIt (last : List ℕ) (route word number mailbox : ℕ) : Type 0 where
  pub owner : lane_of word mailbox / 32 ≡ route
  pub requested : 3 ≤ mark_of word mailbox
  pub number_is : get_or last mailbox 0 ≡ number

pub holds_it : (last : List ℕ) (route word number mailbox : ℕ) → is_in last route word number mailbox ≡ true →
    HoldsIt last route word number mailbox
holds_it last route word number mailbox e =
    let a = and_parts ((lane_of word mailbox / 32 == route) && nat_lt 2 (mark_of word mailbox))
    (get_or last mailbox 0 == number) e in
    let b = and_parts (lane_of word mailbox / 32 == route) (nat_lt 2 (mark_of word mailbox)) a.0 in
    let low = ltb-true 2 (mark_of word mailbox) b.1 in
    record {
      owner = eqb-true (lane_of word mailbox / 32) route b.0;
      requested = omega arith;
      number_is =
          eqb-true (get_or last mailbox 0) number a.1;
    }

-- a mark above that of a transmission says that an abort was asked, and one below that it is pending or scheduled
pub above_sent : (n : ℕ) → IsMark n → 15 < n → (n ≡ 31) ⊎ (n ≡ 23)
above_sent n k h = ⊎_elim (λ (e : n ≡ 3). absurd (omega arith))
    (λ k. ⊎_elim (λ (e : n ≡ 7). absurd (omega arith)) (λ k. ⊎_elim (λ (e : n ≡ 15). absurd (omega arith)) (λ k. k) k)
    k) k

pub below_sent : (n : ℕ) → IsMark n → ¬ (15 < n) → ¬ (n ≡ 15) → (n ≡ 3) ⊎ (n ≡ 7)
below_sent n k h o =
    ⊎_elim (λ (e : n ≡ 3). inl e) (λ k. ⊎_elim (λ (e : n ≡ 7). inr e) (λ k. ⊎_elim (λ (e : n ≡ 15). absurd (o e))
    (λ k. ⊎_elim (λ (e : n ≡ 31). absurd (h (omega arith))) (λ (e : n ≡ 23). absurd (h (omega arith))) k) k) k) k

-- the abort was asked already
pub was_asked : (p : RouteView) (seen number route mailbox : ℕ) (tops : List ℕ) → p.last ≡ tops → p.route ≡ route →
    mailbox < 3 → IsOwn p seen → is_in tops route seen number mailbox ≡ true → 15 < mark_of seen mailbox →
    IsAskedThere (looked p seen) number mailbox
was_asked p seen number route mailbox tops put own small o here above = record {
  small = small;
  here = subst (λ (l : List ℕ). is_in l p.route seen number mailbox ≡ true) (sym put)
      (subst (λ (r : ℕ). is_in tops r seen number mailbox ≡ true) (sym own) here);
  asked = above_sent (mark_of seen mailbox)
      (o.marks mailbox small (holds_it tops route seen number mailbox here).requested) above;
}

-- what the gate heard
pub hears_ask : {G : Type 0} (may : G → List Point → Type 0) (p v q : RouteView) (m : ℕ) (r : AbortOutcome)
    (a b c : G) → AsksNow v q m r → Passes may (Look ∷ []) a b → Passes may (Abort ∷ []) b c → HearsAbort may p q r a c
hears_ask may p v q m Aborted a b c is f g = absurd is
hears_ask may p v q m Asked a b c is f g = inr (passes_on may (Look ∷ []) (Abort ∷ []) a b c f g)
hears_ask may p v q m Gone a b c is f g = absurd is
hears_ask may p v q m (Contended word) a b c is f g = passes_on may (Look ∷ []) (Abort ∷ []) a b c f g

pub hears_take : {G : Type 0} (may : G → List Point → Type 0) (p v q : RouteView) (m : ℕ) (r : AbortOutcome)
    (a b c : G) → TakesOut v q m r → Passes may (Look ∷ []) a b → Passes may (Abort ∷ []) b c → HearsAbort may p q r a c
hears_take may p v q m Aborted a b c is f g = passes_on may (Look ∷ []) (Abort ∷ []) a b c f g
hears_take may p v q m Asked a b c is f g = absurd is
hears_take may p v q m Gone a b c is f g = absurd is
hears_take may p v q m (Contended word) a b c is f g = passes_on may (Look ∷ []) (Abort ∷ []) a b c f g
