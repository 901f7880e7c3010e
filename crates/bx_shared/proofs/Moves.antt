-- A step of a route's seat keeps the rule: what is left to show for each kind of step.
use Rattle.std.proofs.Common.{◌≡◌, ◌≢◌, ℕ, suc, ◌+◌, ◌<◌, ◌⊎◌, inl, ⊎_elim, ◌==◌, cond, List, [], ◌∷◌, length, get_or}
use Rattle.std.proofs.Common.{set, refl, sym, ap, ◌∙◌, subst, arith, eqb, eq-eqb, ne_eqb, Some, None, Bool}
use Rattle.std.proofs.lemmas.List.{get_or_past}
use mathlib.Core.Option.{Option as Maybe, some}
use mathlib.Core.Logic.{dite}
use native.Mathlib.Decide.{ℕ_discrete, dec_le}
use lib.ListN.{get_elem?}
use lib.Seq.{set-get_or}
use prog.Atomic.{either}
use Rattle.atomic_table.specs.Table.{State as Table, Me, step, Act, Valid, carried_after, keeps, stepped}
use Rattle.atomic_table.proofs.Lists.{at_set, exchanged}
use Rattle.bx_core.specs.declared.waiting.Waiting.{Waiting}
use Rattle.bx_core.specs.States.{State, claim_of, lists_of, waits_of}
use Rattle.bx_core.specs.Law.{Law, Reached, count_at, count_of_claim}
use Rattle.bx_core.proofs.Reaches.{law_of}
use Rattle.bx_core.proofs.Words.{each_more}
use Rattle.bx_words.specs.Lanes.{lane_of, filling}
use Rattle.bx_shared.specs.declared.said.Said.{Said}
use Rattle.bx_shared.specs.declared.route_view.RouteView.{RouteView}
use Rattle.bx_shared.specs.declared.view.View.{View}
use Rattle.bx_shared.specs.Marks.{claim_lane, waiting_lane}
use Rattle.bx_shared.specs.Shown.{Shows, Fits, FitsBus, Holds, IsKept, IsKeptAs}
use Rattle.bx_shared.specs.Steps.{view, seat_of, missed, IsOwn, Tries}
use Rattle.bx_shared.proofs.Reading.{is_filling, has_mark, waiting_lane-none}
use Rattle.bx_shared.proofs.Counts.{has_count}
use Rattle.bx_shared.proofs.Few.{few_of}

-- f with y at x
abbrev pub put : {B : Type 0} → (ℕ → B) → ℕ → B → ℕ → B
put f x y z = cond (z == x) y (f z)

module _ {B : Type 0} where
  pub put-here : (f : ℕ → B) (x : ℕ) (y : B) → put f x y x ≡ y
  put-here f x y = ap (λ b. cond b y (f x)) (eq-eqb x x refl)

  pub put-else : (f : ℕ → B) (x : ℕ) (y : B) (z : ℕ) → ¬ (z ≡ x) → put f x y z ≡ f z
  put-else f x y z n = ap (λ b. cond b y (f z)) (ne_eqb z x n)

  -- a fact of each value, after a put
  pub put-each : (P : ℕ → B → Type 0) (f : ℕ → B) (x : ℕ) (y : B) → P x y → ((z : ℕ) → ¬ (z ≡ x) → P z (f z)) →
      (z : ℕ) → P z (put f x y z)
  put-each P f x y here other z = dite (ℕ_discrete z x)
      (λ e. subst (λ (k : ℕ). P k (put f x y k)) (sym e) (subst (P x) (sym (put-here f x y)) here))
      (λ n. subst (P z) (sym (put-else f x y z n)) (other z n))

abbrev pub St : Type 0
St = Table Said View

-- the view of a route's seat
abbrev pub alone : RouteView → View
alone p = view [] (p ∷ [])

pub some_not_none : (r : ℕ) → Some r ≡ None → ⊥
some_not_none r e = cc

pub no_seal : (P : List Waiting → Type 0) (es : List Waiting) → None ≡ Some es → P es
no_seal P es e = cc

-- the seat goes from p to q, and the words and the core with it
pub moves : (txfp : Bool) (t : St) (k : IsKept txfp t) (id : ℕ) (p q : RouteView) (ws : List ℕ) (s : State) →
    get_elem? t.views id ≡ some (alone p) → q.route ≡ p.route →
    Reached s → s.txfp ≡ txfp → length s.routes ≡ 8 → Shows ws s → Fits ws s q →
    ((o : RouteView) → ¬ (o.route ≡ p.route) → Fits t.words k.core o → Fits ws s o) →
    (FitsBus k.core k.bus → FitsBus s k.bus) → (s.queue ≡ k.core.queue) ⊎ (p.route < 8) →
    IsKeptAs txfp (record { words = ws; homes = t.homes; views = set t.views id (alone q) }) s
moves txfp t k id p q ws s me same reached priority eight shows mine others bus quiet =
    let h = k.held id (alone p) me in
    let my_place : k.at p.route ≡ id = h.routes.0.0 in
    let P = put k.part p.route q in
    let now : P q.route ≡ q = ap P same ∙ put-here k.part p.route q in
    record {
      core_is = refl;
      kept = record {
        core = s;
        reached = reached;
        priority = priority;
        eight = eight;
        shows = shows;
        part = P;
        bus = k.bus;
        at = k.at;
        bus_at = k.bus_at;
        route = put-each (λ r x. (x.route ≡ r) × Fits ws s x) k.part p.route q (same, mine)
            (λ r other. let f = k.route r in (f.0, others (k.part r) (λ e. other (sym f.0 ∙ e)) f.1));
        bus_fits = bus k.bus_fits;
        held = λ j v e. ⊎_elim
            (λ (t : (j ≡ id) × (alone q ≡ v)). subst (λ (x : ℕ × View). Holds s.queue k.at P k.bus_at k.bus x.0 x.1)
            (λ i. (sym t.0 i, t.1 i))
            (record {
              routes = ((ap k.at same ∙ my_place, now), tt);
              buses = tt;
              once = (tt, tt);
              seal = no_seal (λ es. (s.queue ≡ es) × (k.bus_at ≡ id) × ((r : ℕ) → r < 8 → k.at r ≡ id));
            }))
            (λ (t : (j ≢ id) × (get_elem? t.views j ≡ some v)). let g = k.held j v t.1 in record {
              routes = each_more (λ o. (k.at o.route ≡ j) × (k.part o.route ≡ o))
                  (λ o. (k.at o.route ≡ j) × (P o.route ≡ o)) v.routes
                  (λ o a. (a.0, put-else k.part p.route q o.route (λ e. t.0 (sym a.0 ∙ ap k.at e ∙ my_place)) ∙ a.1))
                  g.routes;
              buses = g.buses;
              once = g.once;
              seal = λ es y. let z = g.seal es y in
                  ⊎_elim (λ (w : s.queue ≡ k.core.queue). (w ∙ z.0, z.1, z.2))
                  (λ (small : p.route < 8). absurd (t.0 (sym (z.2 p.route small) ∙ my_place))) quiet;
            })
            (at_set t.views id j (alone q) v e);
      };
    }

-- what the seat knows is so
pub knows : (txfp : Bool) (t : St) (k : IsKept txfp t) (id : ℕ) (p : RouteView) →
    get_elem? t.views id ≡ some (alone p) → Fits t.words k.core p
knows txfp t k id p me = subst (Fits t.words k.core) ((k.held id (alone p) me).routes.0.1) (k.route p.route).1

-- the words and the core stay
pub stays : (txfp : Bool) (t : St) (k : IsKept txfp t) (id : ℕ) (p q : RouteView) →
    get_elem? t.views id ≡ some (alone p) → q.route ≡ p.route → (Fits t.words k.core p → Fits t.words k.core q) →
    IsKeptAs txfp (stepped t 0 (get_or t.words 0 0) id [] (alone q) keeps) k.core
stays txfp t k id p q me same mine =
    subst (λ (ws : List ℕ). IsKeptAs txfp (record { words = ws; homes = t.homes; views = set t.views id (alone q) })
    k.core) (sym (set-get_or t.words 0 0))
    (moves txfp t k id p q t.words k.core me same k.reached k.priority k.eight k.shows (mine (knows txfp t k id p me))
    (λ o _ f. f) (λ b. b) (inl refl))

-- an exchange that finds another word changes no state of the core
pub misses : (txfp : Bool) (t : St) (k : IsKept txfp t) (id : ℕ) (p : RouteView) →
    get_elem? t.views id ≡ some (alone p) →
    IsKeptAs txfp (stepped t 0 (get_or t.words 0 0) id [] (alone (missed p (get_or t.words 0 0))) keeps) k.core
misses txfp t k id p me = stays txfp t k id p (missed p (get_or t.words 0 0)) me refl (λ f. record {
  requested = f.requested;
  aborted = f.aborted;
  reaped = f.reaped;
  claim = λ y. let c = f.claim y in record { own = c.own; head = c.head; bytes = c.bytes };
  only = f.only;
  three = f.three;
  waiting = f.waiting;
  ended = f.ended;
})

-- a claimed mailbox is one of the three, and its lane fills under the claim's route
pub claim_small : (s : State) (m r : ℕ) → Law s → claim_of s m ≡ Some r → m < 3
claim_small s m r law own = dite (dec_le (suc m) 3) (λ h. h)
    (λ n. let none = get_or_past s.claims m None (let h = law.three in omega arith) in
    absurd (some_not_none r (sym own ∙ none)))

pub unrequested : (s : State) (m r : ℕ) → Law s → claim_of s m ≡ Some r → count_at m s.queue ≡ 0
unrequested s m r law own = let h = law.apart m in let k = ap count_of_claim own in omega arith

own_lane : (s : State) (m r : ℕ) → Law s → claim_of s m ≡ Some r →
    claim_lane (claim_of s m) + waiting_lane s.queue m ≡ filling r
own_lane s m r law own = let c = ap claim_lane own in let z = waiting_lane-none s.queue m (unrequested s m r law own) in
    omega arith

-- what the control word tells the seat
pub own_word : (txfp : Bool) (t : St) (k : IsKept txfp t) (id : ℕ) (p : RouteView) →
    get_elem? t.views id ≡ some (alone p) → IsOwn p (get_or t.words 0 0)
own_word txfp t k id p me =
    let f = knows txfp t k id p me in
    let s = k.core in
    let law = law_of s k.reached in
    record {
      own = λ y. let own = (f.claim y).own in k.shows.lanes p.mailbox (claim_small s p.mailbox p.route law own)
          ∙ own_lane s p.mailbox p.route law own;
      only = λ m small is. f.only m (is_filling s m p.route law (sym (k.shows.lanes m small) ∙ is));
      marks = λ m small low. has_mark s m (lane_of (get_or t.words 0 0) m) law (k.shows.lanes m small) low;
      count = has_count s (get_or t.words 0 0) law k.eight k.shows.rest;
      few = let e = ap length f.aborted in let h =
          (few_of s.txfp (lists_of s p.route) (waits_of p.route s.queue) (law.route p.route)).aborted in omega arith;
    }

-- what one step has to give
abbrev pub Goes : Bool → St → ℕ → ℕ → (ℕ → Me Said View → Type 0) → ℕ → Type 0
Goes txfp t i id then x = (w : View) × (a : Act Said) × Valid t.homes [] a × IsKept txfp (stepped t i x id [] w a)
    × then (get_or t.words i 0) (w, carried_after [] a)

-- an exchange of the control word: only the case that it finds the old word is left to show
pub tries : (txfp : Bool) (t : St) (k : IsKept txfp t) (slots id old new : ℕ) (said : Maybe Said) (p won : RouteView) →
    get_elem? t.views id ≡ some (alone p) →
    (get_or t.words 0 0 ≡ old → IsKept txfp (stepped t 0 new id [] (alone won) keeps)) →
    Goes txfp t 0 id (λ r n. Tries won (step slots 0 old new said) (seat_of p) r n)
    (either (eqb (get_or t.words 0 0) old) new (get_or t.words 0 0))
tries txfp t k slots id old new said p won me hit = let w = get_or t.words 0 0 in
    exchanged w old new (Goes txfp t 0 id (λ r n. Tries won (step slots 0 old new said) (seat_of p) r n))
    (λ e. (alone won, keeps, tt, hit e, ((λ _. refl), λ n. absurd (n e))))
    (λ n. (
      alone (missed p w),
      keeps,
      tt,
      (misses txfp t k id p me).kept,
      ((λ e. absurd (n e)), λ _. (refl, own_word txfp t k id p me)),
    ))
