-- A request that waits is not over: it was neither sent nor aborted nor reaped.
use Rattle.std.proofs.Common.{◌≡◌, ℕ, ◌==◌, Bool, true, false, cond, Option, Some, None, List, [], ◌∷◌, sym, ap, subst}
use Rattle.std.proofs.Common.{inl, inr, eq-eqb, arith, ◌∙◌}
use Rattle.std.specs.Prelude.{IfSome}
use Rattle.bx_core.specs.declared.entry.Entry.{Entry}
use Rattle.bx_core.specs.declared.waiting.Waiting.{Waiting}
use Rattle.bx_core.specs.Lists.{Has}
use Rattle.bx_core.specs.States.{State, RouteLists, lists_of, numbers, waits_of, is_scheduled, in_turn}
use Rattle.bx_core.specs.Law.{Law}
use Rattle.bx_core.specs.TxBus.{Item, BusPast, IsUndone}
use Rattle.bx_core.specs.RouteTx.{RoutePast}
use Rattle.bx_core.specs.PlainMail.{item_of, Starts}
use Rattle.bx_core.specs.Stands.{BusStands, RouteStands, entry_on_bus, entries_of, numbers_of}
use Rattle.bx_core.proofs.Times.{has_times, rises_once}
use Rattle.bx_core.proofs.Words.{has-map}
use Rattle.bx_core.proofs.Found.{find-has}

waiting_number : (queue : List Waiting) (w : Waiting) → Has queue w → Has (waits_of w.route queue) w.number
waiting_number [] w h = h
waiting_number (v ∷ queue) w (inl is) =
    subst (λ (b : Bool). Has (cond b (v.number ∷ waits_of w.route queue) (waits_of w.route queue)) w.number)
    (sym (eq-eqb v.route w.route (ap (λ (z : Waiting). z.route) is))) (inl (ap (λ (z : Waiting). z.number) is))
waiting_number (v ∷ queue) w (inr h) = either (v.route == w.route) (waiting_number queue w h)
  where
    either : (b : Bool) → Has (waits_of w.route queue) w.number →
        Has (cond b (v.number ∷ waits_of w.route queue) (waits_of w.route queue)) w.number
    either true k = inr k
    either false k = k

-- its number is in none of the lists of what is over
record OnlyWaits (l : RouteLists) (n : ℕ) : Type 0 where
  not_done : Has (numbers l.done) n → ⊥
  not_aborted : Has l.aborted n → ⊥
  not_reaped : Has l.reaped n → ⊥

only_waits : (s : State) (w : Waiting) → Law s → Has s.queue w → OnlyWaits (lists_of s w.route) w.number
only_waits s w l h =
    let n = w.number in
    let lists = lists_of s w.route in
    let route = l.route w.route in
    let once = route.once n in
    let requested = rises_once (numbers lists.requested) n route.rises in
    let waits = has_times (waits_of w.route s.queue) n (waiting_number s.queue w h) in
    record {
      not_done = λ k. omega (arith, once, requested, waits, has_times (numbers lists.done) n k);
      not_aborted = λ k. omega (arith, once, requested, waits, has_times lists.aborted n k);
      not_reaped = λ k. omega (arith, once, requested, waits, has_times lists.reaped n k);
    }

-- an element of what the bus side tells, among those of its route
own_entry : (y : Item) (xs : List Item) → Has xs y → Has (entries_of y.0 xs) (entry_on_bus y)
own_entry y [] h = h
own_entry y (x ∷ xs) (inl is) =
    subst (λ (b : Bool). Has (cond b (entry_on_bus x ∷ entries_of y.0 xs) (entries_of y.0 xs)) (entry_on_bus y))
    (sym (eq-eqb x.0 y.0 (ap (λ (z : Item). z.0) is))) (inl (ap entry_on_bus is))
own_entry y (x ∷ xs) (inr h) = either (x.0 == y.0) (own_entry y xs h)
  where
    either : (b : Bool) → Has (entries_of y.0 xs) (entry_on_bus y) →
        Has (cond b (entry_on_bus x ∷ entries_of y.0 xs) (entries_of y.0 xs)) (entry_on_bus y)
    either true k = inr k
    either false k = k

own_number : (route n : ℕ) (xs : List (ℕ × ℕ)) → Has xs (route, n) → Has (numbers_of route xs) n
own_number route n [] h = h
own_number route n (x ∷ xs) (inl is) =
    subst (λ (b : Bool). Has (cond b (x.1 ∷ numbers_of route xs) (numbers_of route xs)) n)
    (sym (eq-eqb x.0 route (ap (λ (z : ℕ × ℕ). z.0) is))) (inl (ap (λ (z : ℕ × ℕ). z.1) is))
own_number route n (x ∷ xs) (inr h) = either (x.0 == route) (own_number route n xs h)
  where
    either : (b : Bool) → Has (numbers_of route xs) n → Has (cond b (x.1 ∷ numbers_of route xs) (numbers_of route xs)) n
    either true k = inr k
    either false k = k

waiting_undone : (s : State) (w : Waiting) (past : BusPast) → Law s → Has s.queue w → BusStands s past →
    IsUndone past (item_of w)
waiting_undone s w past l h b =
    let only = only_waits s w l h in
    record {
      unsent = λ y has same.
          let route : y.0 ≡ w.route = ap (λ (p : ℕ × ℕ). p.0) same in
          let number : y.1 ≡ w.number = ap (λ (p : ℕ × ℕ). p.1) same in
          let entry : Has (lists_of s w.route).done (entry_on_bus y) =
          subst (λ es. Has es (entry_on_bus y)) (ap (λ r. entries_of r past.done) route ∙ b.done_is w.route)
          (own_entry y past.done has) in
          only.not_done (subst (Has (numbers (lists_of s w.route).done)) number
          (has-map (λ (e : Entry). e.number) (lists_of s w.route).done (entry_on_bus y) entry));
      unreaped = λ has. only.not_reaped (subst (λ ns. Has ns w.number) (b.reaped_is w.route)
          (own_number w.route w.number past.reaped has));
    }

scheduled_waits : (s : State) (w : Waiting) → in_turn s ≡ Some w → Has s.queue w
scheduled_waits s w e = find-has (λ (y : Waiting). is_scheduled y.status) s.queue w e

-- what starts is not over
pub starts_undone : (s t : State) (x : Option Item) (past : BusPast) → Law s → Starts s x t → BusStands s past →
    IfSome x (λ y. IsUndone past y)
starts_undone s t None past l h b = tt
starts_undone s t (Some x) past l h b =
    subst (IsUndone past) (sym h.2) (waiting_undone s h.0 past l (scheduled_waits s h.0 h.1) b)

-- and its route did not abort it
pub starts_unaborted : (s t : State) (x : Option Item) (past : RoutePast) → Law s → Starts s x t →
    IfSome x (λ y. RouteStands s y.0 past → Has past.aborted y.1 → ⊥)
starts_unaborted s t None past l h = tt
starts_unaborted s t (Some x) past l h =
    subst (λ (y : Item). RouteStands s y.0 past → Has past.aborted y.1 → ⊥) (sym h.2)
    (λ stands has. (only_waits s h.0 l (scheduled_waits s h.0 h.1)).not_aborted
    (subst (λ ns. Has ns h.0.number) stands.aborted_is has))
