-- How places are dealt out to seats and put together keeps the rule, which holds of the words as they begin.
use Rattle.std.proofs.Common.{◌≡◌, ◌≢◌, ℕ, zero, suc, ◌+◌, ◌*◌, ◌^◌, ◌<◌, ◌⊎◌, inl, inr, ⊎_elim, ◌==◌, cond, List, []}
use Rattle.std.proofs.Common.{◌∷◌, ◌++◌, map, length, get_or, set, refl, sym, ap, ◌∙◌, subst, arith, eq-eqb, ne_eqb}
use Rattle.std.proofs.Common.{Some, None, Bool, true, false, true≢false}
use mathlib.Core.Option.{some, some-injective, some-ne-none}
use lib.ListN.{get_elem?}
use Rattle.atomic_table.specs.Table.{Splits, Joins, opening as table_start}
use Rattle.atomic_table.proofs.Lists.{at_set}
use Rattle.can_frame.specs.Frames.{standard, data_bytes}
use Rattle.bx_core.specs.Lists.{Each}
use Rattle.bx_core.specs.States.{RouteLists, no_lists, lists_of, claim_of, opening_by}
use Rattle.bx_core.specs.Law.{opened}
use Rattle.bx_core.proofs.Words.{each-append, each_more}
use Rattle.bx_core.proofs.Reaches.{default-replicate}
use Rattle.bx_words.specs.Lanes.{lane_of}
use Rattle.bx_words.specs.Payloads.{IsHead}
use Rattle.bx_words.proofs.Cases.{of_mailboxes}
use Rattle.bx_shared.specs.declared.said.Said.{Said}
use Rattle.bx_shared.specs.declared.route_view.RouteView.{RouteView}
use Rattle.bx_shared.specs.declared.bus_view.BusView.{BusView}
use Rattle.bx_shared.specs.declared.view.View.{View}
use Rattle.bx_shared.specs.Marks.{claim_lane}
use Rattle.bx_shared.specs.Shown.{AreDistinct, Shows, Fits, FitsBus, Holds, IsKept, IsKeptAs}
use Rattle.bx_shared.specs.Steps.{view, opening, opening_bus, first_view, first_words, both_of, spent}
use Rattle.bx_shared.proofs.Showing.{each_both}
use Rattle.bx_shared.proofs.Moves.{St, put, put-here, put-else, no_seal}

at_end : (l : List View) (a b : View) (j : ℕ) → get_elem? (l ++ a ∷ []) j ≡ some b → (get_elem? l j ≡ some b)
    ⊎ ((j ≡ length l) × (a ≡ b))
at_end [] a b zero e = inr (refl, some-injective a b e)
at_end [] a b (suc j) e = absurd (some-ne-none b (sym e))
at_end (x ∷ xs) a b zero e = inl e
at_end (x ∷ xs) a b (suc j) e = ⊎_elim (λ t. inl t) (λ t. inr ((let h = t.0 in omega arith), t.1)) (at_end xs a b j e)

of_map : (P : ℕ → Type 0) (l : List RouteView) → Each P (map (λ p. p.route) l) → Each (λ p. P p.route) l
of_map P [] a = tt
of_map P (p ∷ ps) a = (a.0, of_map P ps a.1)

each-map : (P : ℕ → Type 0) (l : List RouteView) → Each (λ p. P p.route) l → Each P (map (λ p. p.route) l)
each-map P [] a = tt
each-map P (p ∷ ps) a = (a.0, each-map P ps a.1)

-- the words, the core and what the places know stay, and the places stand at these seats
pub seated : (txfp : Bool) (t : St) (k : IsKept txfp t) (views : List View) (at : ℕ → ℕ) (bus_at : ℕ) →
    ((j : ℕ) (v : View) → get_elem? views j ≡ some v → Holds k.core.queue at k.part bus_at k.bus j v) →
    IsKeptAs txfp (record { words = t.words; homes = t.homes; views = views }) k.core
seated txfp t k views at bus_at held = record {
  core_is = refl;
  kept = record {
    core = k.core;
    reached = k.reached;
    priority = k.priority;
    eight = k.eight;
    shows = k.shows;
    part = k.part;
    bus = k.bus;
    at = at;
    bus_at = bus_at;
    route = k.route;
    bus_fits = k.bus_fits;
    held = held;
  };
}

-- the first place of a seat goes to a new one
pub splits : (txfp : Bool) (t : St) (k : IsKept txfp t) (id : ℕ) (bs : List BusView) (p : RouteView)
    (ps : List RouteView) → get_elem? t.views id ≡ some (view bs (p ∷ ps)) →
    IsKeptAs txfp (record {
      words = t.words;
      homes = t.homes;
      views = set t.views id (view bs ps)
          ++ view [] (p ∷ []) ∷ [];
    }) k.core
splits txfp t k id bs p ps me =
    let h = k.held id (view bs (p ∷ ps)) me in
    let n = length (set t.views id (view bs ps)) in
    let at = put k.at p.route n in
    -- a place other than p's stays where it is
    let stay : (j : ℕ) (o : RouteView) → ¬ (o.route ≡ p.route) → (k.at o.route ≡ j) × (k.part o.route ≡ o) →
    (at o.route ≡ j) × (k.part o.route ≡ o) = λ j o other a. (put-else k.at p.route n o.route other ∙ a.0, a.1) in
    seated txfp t k (set t.views id (view bs ps) ++ view [] (p ∷ []) ∷ []) at k.bus_at (λ j v e. ⊎_elim
    (λ old. ⊎_elim
    (λ (t : (j ≡ id) × (view bs ps ≡ v)). subst (λ (x : ℕ × View). Holds k.core.queue at k.part k.bus_at k.bus x.0 x.1)
    (λ i. (sym t.0 i, t.1 i)) (record {
      routes = each_both (λ o. (k.at o.route ≡ id) × (k.part o.route ≡ o)) (λ o. ¬ (o.route ≡ p.route))
          (λ o. (at o.route ≡ id) × (k.part o.route ≡ o)) ps (λ o a other. stay id o other a) h.routes.1
          (of_map (λ y. ¬ (y ≡ p.route)) ps h.once.0);
      buses = h.buses;
      once = h.once.1;
      seal = no_seal (λ es. (k.core.queue ≡ es) × (k.bus_at ≡ id) × ((r : ℕ) → r < 8 → at r ≡ id));
    }))
    (λ (t : (j ≢ id) × (get_elem? t.views j ≡ some v)). let g = k.held j v t.1 in record {
      routes = each_more (λ o. (k.at o.route ≡ j) × (k.part o.route ≡ o))
          (λ o. (at o.route ≡ j) × (k.part o.route ≡ o)) v.routes
          (λ o a. stay j o (λ is. t.0 (sym a.0 ∙ ap k.at is ∙ h.routes.0.0)) a) g.routes;
      buses = g.buses;
      once = g.once;
      seal = λ es y. let z = g.seal es y in (
        z.0,
        z.1,
        λ r small. put-else k.at p.route n r (λ e. t.0 (sym (z.2 r small) ∙ ap k.at e ∙ h.routes.0.0))
            ∙ z.2 r small,
      );
    })
    (at_set t.views id j (view bs ps) v old))
    (λ (t : (j ≡ n) × (view [] (p ∷ []) ≡ v)). subst
    (λ (x : ℕ × View). Holds k.core.queue at k.part k.bus_at k.bus x.0 x.1) (λ i. (sym t.0 i, t.1 i))
    (record {
      routes = ((put-here k.at p.route n, h.routes.0.1), tt);
      buses = tt;
      once = (tt, tt);
      seal = no_seal (λ es. (k.core.queue ≡ es) × (k.bus_at ≡ n) × ((r : ℕ) → r < 8 → at r ≡ n));
    }))
    (at_end (set t.views id (view bs ps)) (view [] (p ∷ [])) v j e))

pub splits-keep : (txfp : Bool) (id : ℕ) (bs : List BusView) (p : RouteView) (ps : List RouteView) →
    Splits {S = Said} (IsKept txfp) id (view bs (p ∷ ps)) (view bs ps) (view [] (p ∷ []))
splits-keep txfp id bs p ps t k me = (splits txfp t k id bs p ps me).kept

map-append : (xs ys : List RouteView) → map (λ p. p.route) (xs ++ ys) ≡ map (λ p. p.route) xs ++ map (λ p. p.route) ys
map-append [] ys = refl
map-append (x ∷ xs) ys = ap (λ l. x.route ∷ l) (map-append xs ys)

distinct-append : (xs ys : List ℕ) → AreDistinct xs → AreDistinct ys → Each (λ x. Each (λ y. ¬ (y ≡ x)) ys) xs →
    AreDistinct (xs ++ ys)
distinct-append [] ys a b d = b
distinct-append (x ∷ xs) ys a b d = (each-append (λ y. ¬ (y ≡ x)) xs ys a.0 d.0, distinct-append xs ys a.1 b d.1)

-- two seats hold no place in common
disjoint : (at : ℕ → ℕ) (part : ℕ → RouteView) (id other : ℕ) (xs ys : List RouteView) → ¬ (other ≡ id) →
    Each (λ o. (at o.route ≡ id) × (part o.route ≡ o)) xs → Each (λ o. (at o.route ≡ other) × (part o.route ≡ o)) ys →
    Each (λ x. Each (λ y. ¬ (y ≡ x)) (map (λ p. p.route) ys)) (map (λ p. p.route) xs)
disjoint at part id other xs ys apart a b = each-map (λ x. Each (λ y. ¬ (y ≡ x)) (map (λ p. p.route) ys)) xs
    (each_more (λ o. (at o.route ≡ id) × (part o.route ≡ o)) (λ p. Each (λ y. ¬ (y ≡ p.route)) (map (λ p. p.route) ys))
    xs (λ o h. each-map (λ y. ¬ (y ≡ o.route)) ys
    (each_more (λ q. (at q.route ≡ other) × (part q.route ≡ q)) (λ q. ¬ (q.route ≡ o.route)) ys
    (λ q g is. apart (sym g.0 ∙ ap at is ∙ h.0)) b)) a)

-- what stands at the other seat stands at this one afterwards
abbrev moved : ℕ → ℕ → ℕ → ℕ
moved id other x = cond (x == other) id x

moved_other : (id other x : ℕ) → x ≡ other → moved id other x ≡ id
moved_other id other x e = ap (λ b. cond b id x) (eq-eqb x other e)

moved_else : (id other x : ℕ) → ¬ (x ≡ other) → moved id other x ≡ x
moved_else id other x n = ap (λ b. cond b id x) (ne_eqb x other n)

pub joins : (txfp : Bool) (t : St) (k : IsKept txfp t) (id other : ℕ) (v w : View) → get_elem? t.views id ≡ some v →
    ¬ (other ≡ id) → get_elem? (set t.views id (both_of v w)) other ≡ some w →
    IsKeptAs txfp (record { words = t.words; homes = t.homes; views = set (set t.views id (both_of v w)) other spent })
    k.core
joins txfp t k id other v w me apart it =
    let h = k.held id v me in
    let was : get_elem? t.views other ≡ some w = ⊎_elim (λ (t : (other ≡ id) × (both_of v w ≡ w)). absurd (apart t.0))
    (λ (t : (other ≢ id) × (get_elem? t.views other ≡ some w)). t.1) (at_set t.views id other (both_of v w) w it) in
    let g = k.held other w was in
    let at : ℕ → ℕ = λ r. moved id other (k.at r) in
    let bus_at = moved id other k.bus_at in
    let here : (o : RouteView) → (k.at o.route ≡ id) × (k.part o.route ≡ o) → (at o.route ≡ id) × (k.part o.route ≡ o) =
    λ o a. (moved_else id other (k.at o.route) (λ e. apart (sym e ∙ a.0)) ∙ a.0, a.1) in
    let there : (o : RouteView) → (k.at o.route ≡ other) × (k.part o.route ≡ o) →
    (at o.route ≡ id) × (k.part o.route ≡ o) = λ o a. (moved_other id other (k.at o.route) a.0, a.1) in
    seated txfp t k (set (set t.views id (both_of v w)) other spent) at bus_at (λ j u e. ⊎_elim
    (λ (t : (j ≡ other) × (spent ≡ u)). subst (λ (x : ℕ × View). Holds k.core.queue at k.part bus_at k.bus x.0 x.1)
    (λ i. (sym t.0 i, t.1 i))
    (record {
      routes = tt;
      buses = tt;
      once = tt;
      seal = no_seal (λ es. (k.core.queue ≡ es) × (bus_at ≡ other) × ((r : ℕ) → r < 8 → at r ≡ other));
    }))
    (λ (z : (j ≢ other) × (get_elem? (set t.views id (both_of v w)) j ≡ some u)). ⊎_elim
    (λ (r : (j ≡ id) × (both_of v w ≡ u)). subst (λ (x : ℕ × View). Holds k.core.queue at k.part bus_at k.bus x.0 x.1)
    (λ i. (sym r.0 i, r.1 i)) (record {
      routes = each-append (λ o. (at o.route ≡ id) × (k.part o.route ≡ o)) v.routes w.routes
          (each_more (λ o. (k.at o.route ≡ id) × (k.part o.route ≡ o)) (λ o. (at o.route ≡ id) × (k.part o.route ≡ o))
          v.routes here h.routes)
          (each_more (λ o. (k.at o.route ≡ other) × (k.part o.route ≡ o))
          (λ o. (at o.route ≡ id) × (k.part o.route ≡ o)) w.routes there g.routes);
      buses = each-append (λ b. (bus_at ≡ id) × (k.bus ≡ b)) v.buses w.buses
          (each_more (λ b. (k.bus_at ≡ id) × (k.bus ≡ b)) (λ b. (bus_at ≡ id) × (k.bus ≡ b)) v.buses
          (λ b a. (moved_else id other k.bus_at (λ e. apart (sym e ∙ a.0)) ∙ a.0, a.1)) h.buses)
          (each_more (λ b. (k.bus_at ≡ other) × (k.bus ≡ b)) (λ b. (bus_at ≡ id) × (k.bus ≡ b)) w.buses
          (λ b a. (moved_other id other k.bus_at a.0, a.1)) g.buses);
      once = subst AreDistinct (sym (map-append v.routes w.routes))
          (distinct-append (map (λ p. p.route) v.routes) (map (λ p. p.route) w.routes) h.once g.once
          (disjoint k.at k.part id other v.routes w.routes apart h.routes g.routes));
      seal = no_seal (λ es. (k.core.queue ≡ es) × (bus_at ≡ id) × ((r : ℕ) → r < 8 → at r ≡ id));
    }))
    (λ (r : (j ≢ id) × (get_elem? t.views j ≡ some u)). let q = k.held j u r.1 in record {
      routes = each_more (λ o. (k.at o.route ≡ j) × (k.part o.route ≡ o))
          (λ o. (at o.route ≡ j) × (k.part o.route ≡ o)) u.routes
          (λ o a. (moved_else id other (k.at o.route) (λ e. z.0 (sym a.0 ∙ e)) ∙ a.0, a.1)) q.routes;
      buses = each_more (λ b. (k.bus_at ≡ j) × (k.bus ≡ b)) (λ b. (bus_at ≡ j) × (k.bus ≡ b)) u.buses
          (λ b a. (moved_else id other k.bus_at (λ e. z.0 (sym a.0 ∙ e)) ∙ a.0, a.1)) q.buses;
      once = q.once;
      seal = λ es y. let x = q.seal es y in (
        x.0,
        moved_else id other k.bus_at (λ e. z.0 (sym x.1 ∙ e)) ∙ x.1,
        λ o small. moved_else id other (k.at o) (λ e. z.0 (sym (x.2 o small) ∙ e)) ∙ x.2 o small,
      );
    })
    (at_set t.views id j (both_of v w) u z.1))
    (at_set (set t.views id (both_of v w)) other j spent u e))

pub joins-keep : (txfp : Bool) (id other : ℕ) (v w : View) →
    Joins {S = Said} (IsKept txfp) id v other w (both_of v w) spent
joins-keep txfp id other v w t k me apart it = (joins txfp t k id other v w me apart it).kept

-- the words as they begin

none_not_owner : (r : ℕ) → None ≡ Some r → ⊥
none_not_owner r e = cc

no_claims : (txfp : Bool) (m : ℕ) → claim_of (opening_by txfp 8) m ≡ None
no_claims txfp m = default-replicate None 3 m

no_list : (txfp : Bool) (r : ℕ) → lists_of (opening_by txfp 8) r ≡ no_lists
no_list txfp r = default-replicate no_lists 8 r

first_head : IsHead 0
first_head = (
  record { id = standard 0; content = data_bytes [] },
  (
    0,
    record {
      lawful = record { identifier = omega arith; content = omega arith; bytes = tt };
      small = omega arith;
      is = refl;
    },
  ),
)

first_heads : (txfp : Bool) (m : ℕ) → m < 3 → IsHead (get_or (first_words txfp) (1 + 2 * m) 0)
first_heads txfp = of_mailboxes (λ m. IsHead (get_or (first_words txfp) (1 + 2 * m) 0)) first_head first_head first_head

first_shows : (txfp : Bool) → Shows (first_words txfp) (opening_by txfp 8)
first_shows true = record {
  seven = refl;
  lanes = of_mailboxes (λ m. lane_of 0 m ≡ claim_lane (claim_of (opening_by true 8) m) + 0) refl refl refl;
  order =
      tt;
  rest = refl;
  payload = tt;
  heads = first_heads true;
}
first_shows false = record {
  seven = refl;
  lanes = of_mailboxes (λ m. lane_of (2 ^ 27) m ≡ claim_lane (claim_of (opening_by false 8) m) + 0) refl refl refl;
  order = tt;
  rest = refl;
  payload = tt;
  heads = first_heads false;
}

first_fits : (txfp : Bool) (r : ℕ) → Fits (first_words txfp) (opening_by txfp 8) (opening r)
first_fits txfp r = let none = no_list txfp r in record {
  requested = ap (λ (l : RouteLists). l.requested) none;
  aborted = ap (λ (l : RouteLists). l.aborted) none;
  reaped = subst (λ (l : RouteLists). Each (λ n. ⊥) l.reaped) (sym none) tt;
  claim = λ h. absurd (true≢false (sym h));
  only = λ m is. absurd (none_not_owner r (sym (no_claims txfp m) ∙ is));
  three = refl;
  waiting = tt;
  ended = tt;
}

first_bus_fits : (txfp : Bool) → FitsBus (opening_by txfp 8) (opening_bus txfp)
first_bus_fits txfp = record {
  stands = record {
    started_known = tt;
    done_is = λ r. sym (ap (λ (l : RouteLists). l.done) (no_list txfp r));
    reaped_is = λ r. sym (ap (λ (l : RouteLists). l.reaped) (no_list txfp r));
  };
  priority = refl;
  reaped_known = tt;
  sends = refl;
  mailbox = λ w is. cc;
  reaps = λ x is. cc;
  heads = λ h. record { before = omega arith; heads = λ is. tt };
}

eight_apart : AreDistinct (0 ∷ 1 ∷ 2 ∷ 3 ∷ 4 ∷ 5 ∷ 6 ∷ 7 ∷ [])
eight_apart = (
  (
    (λ e. omega arith),
    (
      (λ e. omega arith),
      (
        (λ e. omega arith),
        ((λ e. omega arith), ((λ e. omega arith), ((λ e. omega arith), ((λ e. omega arith), tt)))),
      ),
    ),
  ),
  (
    (
      (λ e. omega arith),
      (
        (λ e. omega arith),
        ((λ e. omega arith), ((λ e. omega arith), ((λ e. omega arith), ((λ e. omega arith), tt)))),
      ),
    ),
    (
      ((λ e. omega arith), ((λ e. omega arith), ((λ e. omega arith), ((λ e. omega arith), ((λ e. omega arith), tt))))),
      (
        ((λ e. omega arith), ((λ e. omega arith), ((λ e. omega arith), ((λ e. omega arith), tt)))),
        (
          ((λ e. omega arith), ((λ e. omega arith), ((λ e. omega arith), tt))),
          (((λ e. omega arith), ((λ e. omega arith), tt)), (((λ e. omega arith), tt), (tt, tt))),
        ),
      ),
    ),
  ),
)

first_held : (txfp : Bool) (j : ℕ) (v : View) → get_elem? (first_view txfp ∷ []) j ≡ some v →
    Holds [] (λ _. 0) opening 0 (opening_bus txfp) j v
first_held txfp zero v e =
    subst (Holds [] (λ _. 0) opening 0 (opening_bus txfp) 0) (some-injective (first_view txfp) v e) (record {
      routes = (
        (refl, refl),
        (
          (refl, refl),
          ((refl, refl), ((refl, refl), ((refl, refl), ((refl, refl), ((refl, refl), ((refl, refl), tt)))))),
        ),
      );
      buses = ((refl, refl), tt);
      once = eight_apart;
      seal = λ es h. cc;
    })
first_held txfp (suc j) v e = absurd (some-ne-none v (sym e))

pub begins : (txfp : Bool) → IsKept txfp (table_start {S = Said} (first_words txfp) [] (first_view txfp))
begins txfp = record {
  core = opening_by txfp 8;
  reached = opened txfp 8 (omega arith) (omega arith);
  priority = refl;
  eight = refl;
  shows = first_shows txfp;
  part = opening;
  bus = opening_bus txfp;
  at = λ _. 0;
  bus_at = 0;
  route = λ r. (refl, first_fits txfp r);
  bus_fits = first_bus_fits txfp;
  held = first_held txfp;
}
