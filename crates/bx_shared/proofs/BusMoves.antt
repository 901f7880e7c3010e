-- A step of the bus's seat keeps the rule: what is left to show for each kind of step.
use Rattle.std.proofs.Common.{◌≡◌, ◌≢◌, ℕ, ◌+◌, ◌<◌, ⊎_elim, List, [], ◌∷◌, length, get_or, set, refl, sym, ap, ◌∙◌}
use Rattle.std.proofs.Common.{subst, arith, Some, None, Bool, false}
use Rattle.std.specs.List.{slice_index_or}
use mathlib.Core.Option.{some}
use lib.ListN.{get_elem?}
use lib.Seq.{set-get_or}
use Rattle.atomic_table.specs.Table.{keeps, stepped}
use Rattle.atomic_table.proofs.Lists.{at_set}
use Rattle.bx_core.specs.declared.status.Status.{Status}
use Rattle.bx_core.specs.declared.waiting.Waiting.{Waiting}
use Rattle.bx_core.specs.Lists.{Each, Has}
use Rattle.bx_core.specs.Stands.{BusStands, entry_on_bus}
use Rattle.bx_core.specs.States.{State, RouteLists, lists_of}
use Rattle.bx_core.specs.Steps.{with_waiting, without}
use Rattle.bx_core.specs.Law.{Reached}
use Rattle.bx_core.proofs.Words.{each_more, each-drop, each-replace}
use Rattle.bx_core.proofs.Queues.{marked}
use Rattle.bx_core.proofs.Found.{IsFound, at_of}
use Rattle.bx_core.proofs.Reaches.{default-replicate}
use Rattle.bx_words.specs.Lanes.{rest_of}
use Rattle.bx_words.specs.Payloads.{IsHeadOf}
use Rattle.bx_shared.specs.declared.route_view.RouteView.{RouteView}
use Rattle.bx_shared.specs.declared.bus_view.BusView.{BusView}
use Rattle.bx_shared.specs.declared.view.View.{View}
use Rattle.bx_shared.specs.Marks.{count_requests, rest_by}
use Rattle.bx_shared.specs.Shown.{Shows, Fits, past_of, IsToReap, count_in, AreHeads, FitsBus, Holds, IsKept, IsKeptAs}
use Rattle.bx_shared.specs.Steps.{view}
use Rattle.bx_shared.specs.BusSteps.{no_heads}
use Rattle.bx_shared.proofs.Moves.{St, no_seal}
use Rattle.bx_shared.proofs.Marking.{count-same}

-- the view of the bus's seat, with the places of routes that no other seat has
abbrev pub with_bus : BusView → List RouteView → View
with_bus b rs = view (b ∷ []) rs

-- the seat goes from b to d, and the words and the core with it
pub bus_moves : (txfp : Bool) (t : St) (k : IsKept txfp t) (id : ℕ) (b d : BusView) (rs : List RouteView) (ws : List ℕ)
    (s : State) → get_elem? t.views id ≡ some (with_bus b rs) →
    Reached s → s.txfp ≡ txfp → length s.routes ≡ 8 → Shows ws s → FitsBus s d →
    ((o : RouteView) → Fits t.words k.core o → Fits ws s o) →
    IsKeptAs txfp (record { words = ws; homes = t.homes; views = set t.views id (with_bus d rs) }) s
bus_moves txfp t k id b d rs ws s me reached priority eight shows mine others =
    let h = k.held id (with_bus b rs) me in
    let my_place : k.bus_at ≡ id = h.buses.0.0 in
    record {
      core_is = refl;
      kept = record {
        core = s;
        reached = reached;
        priority = priority;
        eight = eight;
        shows = shows;
        part = k.part;
        bus = d;
        at = k.at;
        bus_at = k.bus_at;
        route = λ r. let f = k.route r in (f.0, others (k.part r) f.1);
        bus_fits = mine;
        held = λ j v e. ⊎_elim
            (λ (t : (j ≡ id) × (with_bus d rs ≡ v)). subst
            (λ (x : ℕ × View). Holds s.queue k.at k.part k.bus_at d x.0 x.1) (λ i. (sym t.0 i, t.1 i))
            (record {
              routes = h.routes;
              buses = ((my_place, refl), tt);
              once = h.once;
              seal = no_seal (λ es. (s.queue ≡ es) × (k.bus_at ≡ id) × ((r : ℕ) → r < 8 → k.at r ≡ id));
            }))
            (λ (t : (j ≢ id) × (get_elem? t.views j ≡ some v)). let g = k.held j v t.1 in record {
              routes = g.routes;
              buses = each_more (λ x. (k.bus_at ≡ j) × (k.bus ≡ x)) (λ x. (k.bus_at ≡ j) × (d ≡ x)) v.buses
                  (λ x a. absurd (t.0 (sym a.0 ∙ my_place))) g.buses;
              once = g.once;
              seal = λ es y. absurd (t.0 (sym (g.seal es y).1 ∙ my_place));
            })
            (at_set t.views id j (with_bus d rs) v e);
      };
    }

-- what the seat knows is so
pub bus_knows : (txfp : Bool) (t : St) (k : IsKept txfp t) (id : ℕ) (b : BusView) (rs : List RouteView) →
    get_elem? t.views id ≡ some (with_bus b rs) → FitsBus k.core b
bus_knows txfp t k id b rs me = subst (FitsBus k.core) ((k.held id (with_bus b rs) me).buses.0.1) k.bus_fits

-- the words and the core stay
pub bus_stays : (txfp : Bool) (t : St) (k : IsKept txfp t) (id i : ℕ) (b d : BusView) (rs : List RouteView) →
    get_elem? t.views id ≡ some (with_bus b rs) → (FitsBus k.core b → FitsBus k.core d) →
    IsKeptAs txfp (stepped t i (get_or t.words i 0) id [] (with_bus d rs) keeps) k.core
bus_stays txfp t k id i b d rs me mine =
    subst
    (λ (ws : List ℕ). IsKeptAs txfp (record { words = ws; homes = t.homes; views = set t.views id (with_bus d rs) })
    k.core) (sym (set-get_or t.words i 0))
    (bus_moves txfp t k id b d rs t.words k.core me k.reached k.priority k.eight k.shows
    (mine (bus_knows txfp t k id b rs me)) (λ o f. f))

-- what the seat knows is so where it only looked, tried or read: nothing else of it changes
pub bus_as : (s : State) (b d : BusView) → d.txfp ≡ b.txfp → past_of d ≡ past_of b → d.reaped ≡ b.reaped →
    d.sends ≡ b.sends → d.reaps ≡ b.reaps → d.mailbox ≡ b.mailbox → (s.txfp ≡ false → AreHeads s d) → FitsBus s b →
    FitsBus s d
bus_as s b d txfp past reaped sends reaps mailbox heads f = record {
  priority = f.priority ∙ sym txfp;
  stands = subst (BusStands s) (sym past) f.stands;
  reaped_known = subst (Each (λ x. Has (lists_of s x.0).requested (entry_on_bus x))) (sym reaped) f.reaped_known;
  sends = f.sends ∙ sym sends;
  mailbox = λ w on. f.mailbox w on ∙ sym mailbox;
  reaps = λ x e. subst (λ (m : ℕ). IsToReap s m x) (sym mailbox) (f.reaps x (sym reaps ∙ e));
  heads = heads;
}

-- the heads that were read

no_head_read : (m head : ℕ) → slice_index_or no_heads m None ≡ Some head → ⊥
no_head_read m head e = let none = default-replicate None 3 m in let h : None ≡ Some head = sym none ∙ e in cc

-- the count of the control word
pub count_is : (s : State) (word : ℕ) → s.txfp ≡ false → rest_of word ≡ rest_by s.txfp (count_requests s.routes) →
    count_in word ≡ count_requests s.routes
count_is s word by rest = let h = rest ∙ ap (λ b. rest_by b (count_requests s.routes)) by in omega arith

-- none was read since this look
pub heads_looked : (s : State) (b : BusView) (word : ℕ) → count_in word ≡ count_requests s.routes →
    AreHeads s (record b { looks = b.looks + 1; seen = word; heads = no_heads })
heads_looked s b word is = record { before = omega arith; heads = λ _. none s.queue }
  where
    none : (q : List Waiting) → Each (λ w. (head : ℕ) → slice_index_or no_heads w.mailbox None ≡ Some head →
        IsHeadOf w.frame w.number head) q
    none [] = tt
    none (w ∷ ws) = ((λ head e. absurd (no_head_read w.mailbox head e)), none ws)

-- they are still so where one request changes but for its number, its frame and its mailbox, and where one leaves
pub heads_mark : (s : State) (b : BusView) (w : Waiting) (st : Status) (asked : Bool) → IsFound s w → AreHeads s b →
    AreHeads (with_waiting s (at_of s w) (marked w st asked)) b
heads_mark s b w st asked f h = record {
  before = h.before;
  heads = λ is. let P : Waiting → Type 0 =
      λ x. (head : ℕ) → slice_index_or b.heads x.mailbox None ≡ Some head → IsHeadOf x.frame x.number head in
      subst (Each P) (sym (f.split.set (marked w st asked)))
      (each-replace P f.split.before f.split.behind w (marked w st asked) (λ z. z)
      (subst (Each P) f.split.whole (h.heads is)));
}

pub heads_leave : (s : State) (b : BusView) (w : Waiting) (x : RouteLists) → IsFound s w → w.route < length s.routes →
    x.requested ≡ (lists_of s w.route).requested → AreHeads s b →
    AreHeads (without s (at_of s w) w.route x) b
heads_leave s b w x f there same h =
    let count : count_requests (set s.routes w.route x) ≡ count_requests s.routes =
    count-same s.routes w.route x there (ap length same) in
    record {
      before = let l = h.before in omega arith;
      heads = λ is. let P : Waiting → Type 0 =
          λ x. (head : ℕ) → slice_index_or b.heads x.mailbox None ≡ Some head → IsHeadOf x.frame x.number head in
          subst (Each P) (sym f.split.rest) (each-drop P f.split.before f.split.behind w
          (subst (Each P) f.split.whole (h.heads (is ∙ count))));
    }
