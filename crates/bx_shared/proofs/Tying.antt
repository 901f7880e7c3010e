-- What the seats did is tied together at the end.
use Rattle.std.proofs.Common.{◌≡◌, ℕ, zero, suc, ◌-◌, ◌<◌, ◌≤◌, inl, inr, ◌==◌, ◌&&◌, cond, List, [], ◌∷◌, ◌++◌, map}
use Rattle.std.proofs.Common.{length, refl, sym, ap, ◌∙◌, subst, arith, Some, None, Result, Ok, Err, IfOk, slice_get}
use Rattle.std.proofs.Common.{eqb-true, Bool, true, false}
use Rattle.std.proofs.lemmas.List.{get_or_past}
use Rattle.std.proofs.lemmas.Bool.{and_parts}
use mathlib.Core.Logic.{dite}
use native.Mathlib.Decide.{ℕ_discrete, dec_le}
use Rattle.bx_core.specs.declared.left.Left.{Left}
use Rattle.bx_core.specs.declared.entry.Entry.{Entry}
use Rattle.bx_core.specs.declared.waiting.Waiting.{Waiting}
use Rattle.bx_core.specs.Lists.{Each, Has}
use Rattle.bx_core.specs.States.{State, RouteLists, no_lists, lists_of, entry_of, numbers, waits_of}
use Rattle.bx_core.specs.Law.{IsRouteLawful}
use Rattle.bx_core.specs.Stands.{BusStands, RouteStands, asked_of}
use Rattle.bx_core.specs.RouteTx.{RoutePast}
use Rattle.bx_core.specs.TxBus.{BusPast}
use Rattle.bx_core.specs.Ties.{RouteTied, AllTied, NothingBeyond, NothingOf, as_left, left_of}
use Rattle.bx_core.proofs.Words.{each_of, has-left, has-right}
use Rattle.bx_core.proofs.PlainTied.{plain_tied, plain_beyond}
use Rattle.bx_shared.specs.declared.route_view.RouteView.{RouteView}
use Rattle.bx_shared.specs.Shown.{IsKnown, Fits}
use Rattle.bx_shared.specs.Steps.{opening}
use Rattle.bx_shared.specs.Seats.{BusPlace, RoutePlace, openings}
use Rattle.bx_shared.specs.Sides.{BusAfter, RouteAfter}
use Rattle.bx_shared.specs.Closing.{AreAllIdle, AreAccounted, Ends, HasEnded, lists_by, routes_of}
use Rattle.bx_shared.proofs.Determined.{same_lists}
use Rattle.bx_shared.proofs.Leaving.{unclaimed}

abbrev pub parts_of : List RoutePlace → List RouteView
parts_of sides = map (λ (s : RoutePlace). s.part) sides

pub no_side : {P : Type 0} (s : RoutePlace) → None ≡ Some s → P
no_side s e = cc

pub same_side : (x s : RoutePlace) → Some x ≡ Some s → x ≡ s
same_side x s e = cc

-- each side's place is among theirs
side_has : (sides : List RoutePlace) (k : ℕ) (s : RoutePlace) → slice_get sides k ≡ Some s → Has (parts_of sides) s.part
side_has [] k s e = no_side s e
side_has (x ∷ xs) zero s e = inl (ap (λ (y : RoutePlace). y.part) (same_side x s e))
side_has (x ∷ xs) (suc k) s e = inr (side_has xs k s e)

side_at : (sides : List RoutePlace) (k : ℕ) → k < length sides → (s : RoutePlace) × (slice_get sides k ≡ Some s)
    × Has sides s
side_at [] k h = absurd (omega arith)
side_at (x ∷ xs) zero h = (x, refl, inl refl)
side_at (x ∷ xs) (suc k) h = let t = side_at xs k (omega arith) in (t.0, t.1, inr t.2)

-- the places of the last routes
openings_have : (n r : ℕ) → 8 - n ≤ r → r < 8 → Has (openings n) (opening r)
openings_have zero r a b = absurd (omega arith)
openings_have (suc n) r a b =
    dite (ℕ_discrete (7 - n) r) (λ e. inl (ap opening e)) (λ d. inr (openings_have n r (omega arith) b))

-- every place is among those that the bus's seat kept and those of the sides, and none fills a mailbox
pub all_idle : (rs : List RouteView) (sides : List RoutePlace) → rs ≡ openings (length rs) →
    length sides ≡ 8 - length rs → ((k : ℕ) (s : RoutePlace) → slice_get sides k ≡ Some s → s.part.route ≡ k) →
    Each (λ (s : RoutePlace). s.part.claims ≡ false) sides → AreAllIdle (rs ++ parts_of sides)
all_idle rs sides is size each idle r small = dite (dec_le (suc r) (length sides))
    (λ l. let t = side_at sides r l in record {
      part = t.0.part;
      there = has-right rs (parts_of sides) t.0.part (side_has sides r t.0 t.1);
      route_is = each r t.0 t.1;
      idle = each_of (λ (s : RoutePlace). s.part.claims ≡ false) sides t.0 idle t.2;
    })
    (λ n. record {
      part = opening r;
      there = has-left rs (parts_of sides) (opening r)
          (subst (λ (l : List RouteView). Has l (opening r)) (sym is)
          (openings_have (length rs) r (omega arith) small));
      route_is = refl;
      idle = refl;
    })

-- what waits and was asked to end was asked by its route
asked_known : (p : RouteView) (q : List Waiting) → Each (IsKnown p) q → Each (Has p.asked) (asked_of p.route q)
asked_known p [] a = tt
asked_known p (w ∷ ws) a = elim ((w.route == p.route) && w.abort_asked) as
    (λ b. ((w.route == p.route) && w.abort_asked) ≡ b →
    Each (Has p.asked) (cond b (w.number ∷ asked_of p.route ws) (asked_of p.route ws))) [
      | true ↦ λ e. let t = and_parts (w.route == p.route) w.abort_asked e in
          ((a.0 (eqb-true w.route p.route t.0)).1 t.1, asked_known p ws a.1)
      | false ↦ λ _. asked_known p ws a.1
    ] refl

route_stands : (words : List ℕ) (s : State) (p : RouteView) (past : RoutePast) → Fits words s p →
    past.requested ≡ p.requested → past.aborted ≡ p.aborted → past.asked ≡ p.asked → RouteStands s p.route past
route_stands words s p past f a b c = record {
  requested_is = a ∙ sym f.requested;
  aborted_is = b ∙ sym f.aborted;
  asked_waits =
      subst (λ (l : List ℕ). Each (Has l) (asked_of p.route s.queue)) (sym c) (asked_known p s.queue f.waiting);
  asked_reaped = subst (λ (l : List ℕ). Each (Has l) (lists_of s p.route).reaped) (sym c) f.reaped;
}

-- the numbers of what is left of a route are those of its requests that wait
left_waits : (route : ℕ) (ws : List Waiting) → numbers (left_of route (map as_left ws)) ≡ waits_of route ws
left_waits route [] = refl
left_waits route (w ∷ ws) = by_test (w.route == route) (left_waits route ws)
  where
    by_test : (b : Bool) → numbers (left_of route (map as_left ws)) ≡ waits_of route ws →
        numbers (cond b (entry_of w ∷ left_of route (map as_left ws)) (left_of route (map as_left ws)))
        ≡ cond b (w.number ∷ waits_of route ws) (waits_of route ws)
    by_test true e = ap (λ ns. w.number ∷ ns) e
    by_test false e = e

module _ (b : BusPlace) (sides : List RoutePlace) (es : List Waiting) (word : ℕ) (left : List Left)
    (t : Ends b.bus (b.routes ++ parts_of sides) es word) (told : left ≡ map as_left es) where
  stands : (did : BusPast) → BusAfter b did → BusStands t.core did
  stands did e = subst (BusStands t.core) (sym e) t.bus.stands

  left_is : map as_left t.core.queue ≡ left
  left_is = ap (map as_left) t.queue_is ∙ sym told

  pub all_tied : b.bus.txfp ≡ b.txfp → ((k : ℕ) (s : RoutePlace) → slice_get sides k ≡ Some s → s.part.route ≡ k) →
      AllTied BusAfter RouteAfter b.txfp b sides left
  all_tied by each route s did past at bus side =
      let p = s.part in
      let f = each_of (Fits t.words t.core) (b.routes ++ parts_of sides) p t.parts
      (has-right b.routes (parts_of sides) p (side_has sides route s at)) in
      let tied = plain_tied t.core p.route did past t.law (stands did bus)
      (route_stands t.words t.core p past f side.requested side.aborted side.asked) in
      subst (λ (r : ℕ). RouteTied b.txfp r did past (left_of r left)) (each route s at)
      (subst (λ (x : Bool × List Left). RouteTied x.0 p.route did past (left_of p.route x.1))
      (λ k. ((t.bus.priority ∙ by) k, left_is k)) tied)

  -- of a route's requests nothing is lost
  pub accounted : b.bus.txfp ≡ b.txfp →
      ((k : ℕ) (s : RoutePlace) → slice_get sides k ≡ Some s → s.part.route ≡ k) → AreAccounted b sides left
  accounted by each route s at =
      let p = s.part in
      let q = t.core.queue in
      let f = each_of (Fits t.words t.core) (b.routes ++ parts_of sides) p t.parts
      (has-right b.routes (parts_of sides) p (side_has sides route s at)) in
      let same : lists_of t.core p.route ≡ lists_by b p.route s =
      same_lists (lists_of t.core p.route) (lists_by b p.route s) f.requested
      (sym (t.bus.stands.done_is p.route)) f.aborted (sym (t.bus.stands.reaped_is p.route)) in
      let waits : waits_of p.route q ≡ numbers (left_of p.route left) =
      sym (left_waits p.route q) ∙ ap (λ (l : List Left). numbers (left_of p.route l)) left_is in
      subst (λ (r : ℕ). IsRouteLawful b.txfp (lists_by b r s) (numbers (left_of r left))) (each route s at)
      (subst (λ (ns : List ℕ). IsRouteLawful b.txfp (lists_by b p.route s) ns) waits
      (subst (λ (l : RouteLists). IsRouteLawful b.txfp l (waits_of p.route q)) same
      (subst (λ (x : Bool). IsRouteLawful x (lists_of t.core p.route) (waits_of p.route q)) (t.bus.priority ∙ by)
      (t.law.route p.route))))

  -- the state in which the mailboxes end
  pub ended : b.bus.txfp ≡ b.txfp → AreAllIdle (b.routes ++ parts_of sides) → HasEnded b sides left
  ended by all = record {
    core = t.core;
    reached = t.reached;
    priority = t.bus.priority ∙ by;
    words = t.words;
    shows = t.shows;
    bus = t.bus;
    routes = λ route s at. each_of (Fits t.words t.core) (b.routes ++ parts_of sides) s.part t.parts
        (has-right b.routes (parts_of sides) s.part (side_has sides route s at));
    unclaimed = unclaimed b.bus (b.routes ++ parts_of sides) es word t all;
    left_is = sym left_is;
  }

  empty_of : {X : Type 0} (xs : List X) → Each (Has {A = X} []) xs → xs ≡ []
  empty_of [] known = refl
  empty_of (x ∷ xs) known = absurd known.0

  -- of a route that has no seat nothing was requested
  none_of : b.routes ≡ openings (length b.routes) → (r : ℕ) → routes_of b ≤ r → lists_of t.core r ≡ no_lists
  none_of is r past = dite (dec_le (suc r) 8)
      (λ small.
      let f = each_of (Fits t.words t.core) (b.routes ++ parts_of sides) (opening r) t.parts
      (has-left b.routes (parts_of sides) (opening r)
      (subst (λ (l : List RouteView). Has l (opening r)) (sym is)
      (openings_have (length b.routes) r past small))) in
      let done : Each (Has {A = Entry} []) (lists_of t.core r).done =
      subst (λ (l : List Entry). Each (Has l) (lists_of t.core r).done) f.requested (t.law.route r).done_known in
      same_lists (lists_of t.core r) no_lists f.requested (empty_of (lists_of t.core r).done done) f.aborted
      (empty_of (lists_of t.core r).reaped f.reaped))
      (λ n. get_or_past t.core.routes r no_lists (let e = t.eight in omega arith))

  pub nothing_beyond : b.routes ≡ openings (length b.routes) → NothingBeyond BusAfter (routes_of b) b left
  nothing_beyond is did bus route past =
      subst (NothingOf route did) left_is (plain_beyond t.core route did t.law (stands did bus) (none_of is route past))

pub if_ok_more : {A E : Type 0} (P Q : A → Type 0) (r : Result A E) → ((x : A) → P x → Q x) → IfOk r P → IfOk r Q
if_ok_more P Q (Ok x) f h = f x h
if_ok_more P Q (Err e) f h = tt
