-- The counts of what was sent and reaped stay those of the past, and what closing counts.
use Rattle.std.proofs.Common.{◌≡◌, ℕ, ◌+◌, ◌<◌, ◌≤◌, ◌==◌, zero, suc, Bool, true, false, cond, count_by}
use Rattle.std.proofs.Common.{List, [], ◌∷◌, ◌++◌, map, append-nil, slice_get}
use Rattle.std.proofs.Common.{length, refl, sym, ap, ◌∙◌, subst, arith, ⊎_elim, Option, Some, None}
use Rattle.std.specs.Prelude.{IsSome, option_to_list, slice_index}
use Rattle.bx_core.specs.declared.entry.Entry.{Entry}
use Rattle.bx_core.specs.declared.left.Left.{Left}
use Rattle.bx_core.specs.declared.waiting.Waiting.{Waiting}
use Rattle.bx_core.specs.Law.{IsInPlace}
use Rattle.bx_core.specs.Lists.{Each}
use Rattle.bx_core.specs.PlainMail.{item_of}
use Rattle.bx_core.specs.RouteTx.{RoutePast}
use Rattle.bx_core.specs.Stands.{entries_of, numbers_of}
use Rattle.bx_core.specs.States.{lists_of, numbers, is_transmitting}
use Rattle.bx_core.specs.Steps.{greatest_number}
use Rattle.bx_core.specs.Ties.{as_left, left_of}
use Rattle.bx_core.specs.TxBus.{Item, BusPast, after_complete, after_fail}
use Rattle.bx_shared.specs.declared.closed.RouteCounts.{RouteCounts}
use Rattle.bx_shared.specs.declared.tally.Tally.{Tally}
use Rattle.bx_shared.specs.Tallies.{IsTally}
use Rattle.bx_core.proofs.Words.{pushed}
use Rattle.bx_shared.proofs.Few.{few_of, add_up}
use Rattle.bx_mail.specs.declared.posting.Posting.{Posting}
use Rattle.bx_mail.specs.declared.posting.Asks.{Asks}
use Rattle.bx_mail.specs.declared.posting.Asks.TheVariants.{Transmit, Abort}
use Rattle.bx_mail.specs.Boxes.{on_bus_now, leaving, reaping}
use Rattle.bx_mail.specs.Postings.{left_by, lefts_in, item_by, items_in, item_left, requests_in, aborts_in}
use Rattle.bx_mail.specs.Sides.{BusSide, RouteSide, Runs, HasRun, IsRunning, RouteRuns, IsClosed}
use Rattle.bx_mail.specs.Sides.{IsKept, AreKept, IsFilled, AreFilled, AreCounted}
use Rattle.bx_mail.proofs.BusSides.{some_item}
use Rattle.bx_mail.proofs.Leaving.{side_tied}
use Rattle.std.proofs.lemmas.List.{map-append, length-map}
use Rattle.std.proofs.lemmas.List.Recursion.{is_count_by}

-- what is on the bus is what leaves
pub leaves_now : (q : List Waiting) (x : Item) → on_bus_now q ≡ Some x → leaving q ≡ Some x
leaves_now [] x e = cc
leaves_now (w ∷ ws) x e = by_test (is_transmitting w.status) e
  where
    by_test : (b : Bool) → cond b (Some (item_of w)) None ≡ Some x → Some (item_of w) ≡ Some x
    by_test true e = e
    by_test false e = cc

pub on_bus_is : (q : List Waiting) (x : Item) → IsSome (on_bus_now q) → leaving q ≡ Some x → on_bus_now q ≡ Some x
on_bus_is q x on e = let y = some_item (on_bus_now q) on in y.1 ∙ sym (leaves_now q y.0 y.1) ∙ e

none_some : {A : Type 0} (x : A) → None ≡ Some x → ⊥
none_some x e = cc

same_some : {A : Type 0} (x y : A) → Some x ≡ Some y → x ≡ y
same_some x y e = cc

pub none_leaves : (q : List Waiting) → IsSome (on_bus_now q) → leaving q ≡ None → ⊥
none_leaves q on e = let y = some_item (on_bus_now q) on in none_some y.0 (sym e ∙ leaves_now q y.0 y.1)

-- it is of one of eight routes
leaves_small : (n : ℕ) (q : List Waiting) (x : Item) → Each (IsInPlace n) q → n ≤ 8 → leaving q ≡ Some x → x.0 < 8
leaves_small n [] x a few e = absurd (none_some x e)
leaves_small n (w ∷ ws) x a few e =
    let same = ap (λ (y : Item). y.0) (same_some (item_of w) x e) in
    let h = a.0.route in
    omega (arith, same, h, few)

reaps_small : (n : ℕ) (q : List Waiting) (x : ℕ × ℕ) → Each (IsInPlace n) q → n ≤ 8 → reaping q ≡ Some x → x.0 < 8
reaps_small n [] x a few e = absurd (none_some x e)
reaps_small n (w ∷ ws) x a few e = by_test w.abort_asked e
  where
    by_test : (b : Bool) → cond b (Some (w.route, w.number)) None ≡ Some x → x.0 < 8
    by_test true e =
        let same = ap (λ (y : ℕ × ℕ). y.0) (same_some (w.route, w.number) x e) in
        let h = a.0.route in
        omega (arith, same, h, few)
    by_test false e = absurd (none_some x e)

module _ (v : BusSide) (past : BusPast) (h : HasRun v past) where
  in_place : Each (IsInPlace (length h.runs.core.routes)) v.boxes
  in_place = subst (Each (IsInPlace (length h.runs.core.routes))) h.runs.boxes h.runs.law.in_place

  pub few_routes : v.routes ≤ 8
  few_routes = let e = h.runs.routes in let few = h.runs.law.few in omega (arith, e, few)

  pub sent_small : (x : Item) → leaving v.boxes ≡ Some x → x.0 < 8
  sent_small x e = leaves_small (length h.runs.core.routes) v.boxes x in_place h.runs.law.few e

  pub reaped_small : (x : ℕ × ℕ) → reaping v.boxes ≡ Some x → x.0 < 8
  reaped_small x e = reaps_small (length h.runs.core.routes) v.boxes x in_place h.runs.law.few e

  -- there is room in the counts
  pub few_sent : (r : ℕ) → r < 8 → slice_index v.tally.done r ≤ greatest_number
  few_sent r small =
      let t = few_of h.runs.core.txfp (lists_of h.runs.core r) _ (h.runs.law.route r) in
      let x = t.done in
      let d = ap length (h.runs.bus.done_is r) in
      let e = h.tally.done_is r small in
      omega (arith, x, d, e)

  pub few_reaped : (r : ℕ) → r < 8 → slice_index v.tally.reaped r ≤ greatest_number
  few_reaped r small =
      let t = few_of h.runs.core.txfp (lists_of h.runs.core r) _ (h.runs.law.route r) in
      let x = t.reaped in
      let d = ap length (h.runs.bus.reaped_is r) in
      let e = h.tally.reaped_is r small in
      omega (arith, x, d, e)

-- whatever is counted
pub counted_as : (v : BusSide) (t : Tally) (past : BusPast) → Runs v past → Runs (record v { tally = t }) past
counted_as v t past h = record {
  core = h.core;
  law = h.law;
  order = h.order;
  free = h.free;
  routes = h.routes;
  boxes = h.boxes;
  bus = h.bus;
  asks = h.asks;
  stands = h.stands;
  asked = h.asked;
  aborted = h.aborted;
  requested = h.requested;
  orderly = h.orderly;
  aside = h.aside;
}

pub counts_sent : (past : BusPast) (on : Option Item) (x : Item) (t : Tally) → on ≡ Some x →
    IsTally (past.done ++ x ∷ []) past.reaped t →
    IsTally (after_complete past on).done (after_complete past on).reaped t
counts_sent past on x t e h =
    subst (λ (o : Option Item). IsTally (past.done ++ option_to_list o) past.reaped t) (sym e) h

pub counts_none : (past : BusPast) (t : Tally) → IsTally past.done past.reaped t →
    IsTally (after_fail past None).done (after_fail past None).reaped t
counts_none past t h = subst (λ (l : List (ℕ × ℕ)). IsTally past.done l t) (sym (append-nil past.reaped)) h

-- what is left, by its items

left_item : (route n : ℕ) (what : Asks) → map item_left (item_by route n what) ≡ left_by route n what
left_item route n (Transmit f) = refl
left_item route n Abort = refl

left_items : (ps : List Posting) → map item_left (items_in ps) ≡ lefts_in ps
left_items [] = refl
left_items (p ∷ ps) = map-append item_left (item_by p.route p.number p.what) (items_in ps)
    ∙ ap (λ l. l ++ map item_left (items_in ps)) (left_item p.route p.number p.what)
    ∙ ap (λ l. left_by p.route p.number p.what ++ l) (left_items ps)

left_boxes : (ws : List Waiting) → map item_left (map item_of ws) ≡ map as_left ws
left_boxes [] = refl
left_boxes (w ∷ ws) = ap (λ (l : List Left). as_left w ∷ l) (left_boxes ws)

pub left_all : (ws : List Waiting) (ys ps : List Posting) →
    map item_left ((map item_of ws ++ items_in ys) ++ items_in ps) ≡ (map as_left ws ++ lefts_in ys) ++ lefts_in ps
left_all ws ys ps = map-append item_left (map item_of ws ++ items_in ys) (items_in ps)
    ∙ ap (λ l. l ++ map item_left (items_in ps)) (map-append item_left (map item_of ws) (items_in ys)
    ∙ ap (λ l. l ++ map item_left (items_in ys)) (left_boxes ws) ∙ ap (λ l. map as_left ws ++ l) (left_items ys))
    ∙ ap (λ l. (map as_left ws ++ lefts_in ys) ++ l) (left_items ps)

-- so it is of slices that are these
pub left_as : (left : List Item) (xs ws : List Waiting) (ys ps : List Posting) (aside : Option Posting) → xs ≡ ws →
    ys ≡ ps → left ≡ (map item_of xs ++ items_in (option_to_list aside)) ++ items_in ys →
    map item_left left ≡ (map as_left ws ++ lefts_in (option_to_list aside)) ++ lefts_in ps
left_as left xs ws ys ps aside a b is = ap (map item_left) (is
    ∙ (λ i. (map item_of (a i) ++ items_in (option_to_list aside)) ++ items_in (b i)))
    ∙ left_all ws (option_to_list aside) ps

-- how many are left of a route
own_first : (b : Bool) (e : Entry) (l : List Entry) → length (cond b (e ∷ l) l) ≡ cond b (1 + length l) (length l)
own_first true e l = omega arith
own_first false e l = refl

pub count_left : (route : ℕ) (xs : List Item) →
    count_by (λ (x : Item). x.0 == route) xs ≡ length (left_of route (map item_left xs))
count_left route xs = sym (is_count_by (λ (l : List Item). length (left_of route (map item_left l)))
    (λ (x : Item). x.0 == route) refl (λ x l. own_first (x.0 == route) (record { number = x.1; frame = x.2 })
    (left_of route (map item_left l))) xs)

-- the counts

kept_at : (kept counts : List RouteCounts) (k : ℕ) (c : RouteCounts) → length counts ≡ length kept →
    slice_get counts k ≡ Some c → (a : RouteCounts) × (slice_get kept k ≡ Some a)
kept_at kept [] k c size e = absurd (none_some c e)
kept_at [] (x ∷ xs) k c size e = absurd (omega (arith, size))
kept_at (y ∷ ys) (x ∷ xs) zero c size e = (y, refl)
kept_at (y ∷ ys) (x ∷ xs) (suc k) c size e = kept_at ys xs k c (omega (arith, size)) e

slice_there : {A : Type 0} (xs : List A) (k : ℕ) (x : A) → slice_get xs k ≡ Some x → k < length xs
slice_there [] k x e = absurd (none_some x e)
slice_there (y ∷ ys) zero x e = omega arith
slice_there (y ∷ ys) (suc k) x e = let h = slice_there ys k x e in omega (arith, h)

pub kept_more : (t : Tally) (sides : List RouteSide) (counts : List RouteCounts) (s : RouteSide) (c : RouteCounts) →
    AreKept t sides counts → slice_get sides (length counts) ≡ Some s → IsKept t (length counts) s c →
    AreKept t sides (counts ++ c ∷ [])
kept_more t sides counts s c was here one r x y at it = ⊎_elim (λ (old : slice_get counts r ≡ Some y). was r x y at old)
    (λ (new : (r ≡ length counts) × (c ≡ y)).
    let same : s ≡ x = same_some s x (sym here ∙ ap (slice_get sides) (sym new.0) ∙ at) in
    subst (λ (z : ℕ × RouteSide × RouteCounts). IsKept t z.0 z.1 z.2) (λ k. (sym new.0 k, same k, new.1 k)) one)
    (pushed counts c r y it)

pub filled_more : (left : List Left) (kept counts : List RouteCounts) (a c : RouteCounts) →
    AreFilled left kept counts → slice_get kept (length counts) ≡ Some a → IsFilled (length counts) left a c →
    AreFilled left kept (counts ++ c ∷ [])
filled_more left kept counts a c was here one r x y at it =
    ⊎_elim (λ (old : slice_get counts r ≡ Some y). was r x y at old)
    (λ (new : (r ≡ length counts) × (c ≡ y)).
    let same : a ≡ x = same_some a x (sym here ∙ ap (slice_get kept) (sym new.0) ∙ at) in
    subst (λ (z : ℕ × RouteCounts × RouteCounts). IsFilled z.0 left z.1 z.2) (λ k. (sym new.0 k, same k, new.1 k)) one)
    (pushed counts c r y it)

pub are_counted : (v : BusSide) (sides : List RouteSide) (left : List Left) (kept counts : List RouteCounts) →
    IsRunning v → length sides ≤ 8 → length counts ≡ length kept → IsClosed v sides left → AreKept v.tally sides kept →
    AreFilled left kept counts → AreCounted v sides left counts
are_counted v sides left kept counts run eight size closed keeps fills route s c at it =
    let did : BusPast = run.0 in
    let h : HasRun v did = run.1 in
    let past : RoutePast = record {
      requested = requests_in s.sent;
      aborted = [];
      asked = aborts_in s.sent;
      calls = [];
    } in
    let k : RouteRuns s past = record { requested = refl; aborted = refl; asked = refl } in
    let a = kept_at kept counts route c size it in
    let small = slice_there sides route s at in
    let few : route < 8 = omega (arith, small, eight) in
    let was = keeps route s a.0 at a.1 in
    let now = fills route a.0 c a.1 it in
    let t = side_tied v sides left route s did past closed at h.runs k in
    let sum = add_up true t.lists (numbers (left_of route left)) t.law in
    let numbers_are : length (numbers (left_of route left)) ≡ length (left_of route left) =
    length-map (left_of route left) (λ (e : Entry). e.number) in
    let requested : c.requested ≡ length (requests_in s.sent) = now.requested ∙ was.requested in
    let done = λ (d : BusPast) (r : HasRun v d). now.done ∙ was.done ∙ r.tally.done_is route few in
    let reaped = λ (d : BusPast) (r : HasRun v d). now.reaped ∙ was.reaped ∙ r.tally.reaped_is route few in
    let sent : c.done ≡ length (entries_of route did.done) = done did h in
    let gone : c.reaped ≡ length (numbers_of route did.reaped) = reaped did h in
    let r = ap length t.requested_is in
    let d = ap length t.done_is in
    let e = ap length t.reaped_is in
    let aborted = now.aborted in
    let x = now.requested in
    let y = now.done in
    let z = now.reaped in
    record {
      requested = requested;
      done = done;
      reaped = reaped;
      all = omega (arith, sum, numbers_are, requested, sent, gone, r, d, e, aborted, x, y, z);
    }
