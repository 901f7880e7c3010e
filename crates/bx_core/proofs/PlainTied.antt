-- What the sides of a mail for one thread did is tied together by its core.
use Rattle.std.proofs.Common.{◌≡◌, ℕ, ◌==◌, Bool, true, false, cond, inl, inr, List, [], ◌∷◌, map, refl, sym, ap, subst}
use Rattle.std.proofs.Common.{◌∙◌}
use Rattle.std.proofs.lemmas.Bool.Decides.{eqb_tells}
use Rattle.bx_core.specs.declared.entry.Entry.{Entry}
use Rattle.bx_core.specs.declared.waiting.Waiting.{Waiting}
use Rattle.bx_core.specs.Law.{Law, IsRouteLawful}
use Rattle.bx_core.specs.Lists.{Each, Has}
use Rattle.bx_core.specs.RouteTx.{RoutePast}
use Rattle.bx_core.specs.Stands.{BusStands, RouteStands, entries_of, entry_on_bus}
use Rattle.bx_core.specs.States.{State, RouteLists, no_lists, lists_of, entry_of, numbers, waits_of}
use Rattle.bx_core.specs.Ties.{RouteTied, NothingOf, as_left, left_of}
use Rattle.bx_core.specs.TxBus.{Item, BusPast}
use Rattle.bx_core.proofs.Words.{each_of}

entries_step : (core : State) (number : ℕ) (x : Item) (xs : List Item) (e : Entry) →
    Has (lists_of core x.0).requested (entry_on_bus x) →
    (Has (entries_of number xs) e → Has (lists_of core number).requested e) → Has (entries_of number (x ∷ xs)) e →
    Has (lists_of core number).requested e
entries_step core number x xs e known more has = elim (eqb_tells x.0 number) [
  | inl same ↦ (let here : Has (entry_on_bus x ∷ entries_of number xs) e = rw same.0 at has in
      elim here [
        | inl is ↦ subst (Has (lists_of core number).requested) is
            (subst (λ n. Has (lists_of core n).requested (entry_on_bus x)) same.1 known)
        | inr there ↦ more there
      ])
  | inr other ↦ more (rw other.0 at has)
]

-- what was started of a route was requested by it
entries_known : (core : State) (number : ℕ) (xs : List Item) (e : Entry) →
    Each (λ x. Has (lists_of core x.0).requested (entry_on_bus x)) xs →
    Has (entries_of number xs) e → Has (lists_of core number).requested e
entries_known core number [] e known has = absurd has
entries_known core number (x ∷ xs) e known has =
    entries_step core number x xs e known.0 (entries_known core number xs e known.1) has

-- the numbers of what is left of a route are those of its requests that wait
left_waits : (route : ℕ) (ws : List Waiting) → numbers (left_of route (map as_left ws)) ≡ waits_of route ws
left_waits route [] = refl
left_waits route (w ∷ ws) = by_test (w.route == route) (left_waits route ws)
  where
    by_test : (b : Bool) → numbers (left_of route (map as_left ws)) ≡ waits_of route ws →
        numbers (cond b (entry_of w ∷ left_of route (map as_left ws)) (left_of route (map as_left ws)))
        ≡ cond b (w.number ∷ waits_of route ws) (waits_of route ws)
    by_test true e = ap (λ ns. w.number ∷ ns) e
    by_test false e = e

-- what is left of a route was requested by it
left_known : (s : State) (route : ℕ) (ws : List Waiting) →
    Each (λ w. Has (lists_of s w.route).requested (entry_of w)) ws →
    Each (Has (lists_of s route).requested) (left_of route (map as_left ws))
left_known s route [] known = tt
left_known s route (w ∷ ws) known = elim (eqb_tells w.route route) [
  | inl same ↦ rw same.0 (
    subst (λ r. Has (lists_of s r).requested (entry_of w)) same.1 known.0,
    left_known s route ws known.1,
  )
  | inr other ↦ rw other.0 (left_known s route ws known.1)
]

-- whatever the two sides of a route did, the core ties it together
pub plain_tied : (core : State) (route : ℕ) (did : BusPast) (past : RoutePast) → Law core → BusStands core did →
    RouteStands core route past →
    RouteTied core.txfp route did past (left_of route (map as_left core.queue))
plain_tied core route did past law bus side = record {
  lists = lists_of core route;
  requested_is = sym side.requested_is;
  done_is = sym (bus.done_is route);
  reaped_is = sym (bus.reaped_is route);
  law = subst (IsRouteLawful core.txfp (lists_of core route)) (sym (left_waits route core.queue)) (law.route route);
  waiting_known = subst (λ es. Each (Has es) (left_of route (map as_left core.queue))) (sym side.requested_is)
      (left_known core route core.queue law.waiting_known);
  ended = λ n has. inl (subst (λ ns. Has ns n) (sym side.aborted_is) has);
  reaped_asked = λ n has. each_of (Has past.asked) (lists_of core route).reaped n side.asked_reaped has;
  starts = λ e has. subst (λ es. Has es e) (sym side.requested_is)
      (entries_known core route did.started e bus.started_known has);
}

-- a list of which nothing is known to stand in the empty list is empty
none_known : {X : Type 0} (xs : List X) → Each (Has {A = X} []) xs → xs ≡ []
none_known [] known = refl
none_known (x ∷ xs) known = absurd known.0

nothing_has : {X : Type 0} (xs : List X) → ((x : X) → Has xs x → ⊥) → xs ≡ []
nothing_has [] none = refl
nothing_has (x ∷ xs) none = absurd (none x (inl refl))

-- of a number whose lists are empty nothing was started, sent or reaped, and nothing is left
pub plain_beyond : (core : State) (route : ℕ) (did : BusPast) → Law core → BusStands core did →
    lists_of core route ≡ no_lists →
    NothingOf route did (map as_left core.queue)
plain_beyond core route did law bus none = record {
  none_started = nothing_has (entries_of route did.started)
      (λ e has. subst (λ (l : RouteLists). Has l.requested e) none
      (entries_known core route did.started e bus.started_known has));
  none_done = bus.done_is route ∙ ap (λ (l : RouteLists). l.done) none;
  none_reaped = bus.reaped_is route ∙ ap (λ (l : RouteLists). l.reaped) none;
  none_left = none_known (left_of route (map as_left core.queue))
      (subst (λ (l : RouteLists). Each (Has l.requested) (left_of route (map as_left core.queue))) none
      (left_known core route core.queue law.waiting_known));
}
