-- The last steps of the bus's seat, which holds every place, keep the rule.
use Rattle.std.proofs.Common.{◌≡◌, ◌≢◌, ℕ, ◌+◌, ◌*◌, ⊎_elim, List, [], ◌∷◌, get_or, set, refl, sym, ap, ◌∙◌, subst}
use Rattle.std.proofs.Common.{Some, Bool}
use mathlib.Core.Option.{none, some}
use lib.ListN.{get_elem?}
use lib.Seq.{set-get_or}
use Rattle.atomic_table.specs.Table.{step, keeps, Allows}
use Rattle.atomic_table.proofs.Lists.{at_set, set_again}
use Rattle.bx_core.specs.declared.waiting.Waiting.{Waiting}
use Rattle.bx_core.specs.Lists.{Each}
use Rattle.bx_core.proofs.Words.{each_more, each_of}
use Rattle.bx_core.proofs.Reaches.{law_of}
use Rattle.bx_words.specs.Payloads.{IsHeadOf, bytes_word}
use Rattle.bx_shared.specs.declared.route_view.RouteView.{RouteView}
use Rattle.bx_shared.specs.declared.bus_view.BusView.{BusView}
use Rattle.bx_shared.specs.declared.view.View.{View}
use Rattle.bx_shared.specs.Shown.{IsPaid, Fits, Holds, IsKept}
use Rattle.bx_shared.specs.Steps.{bus_seat}
use Rattle.bx_shared.specs.Closing.{AreAllIdle, Seals, ReadsLast}
use Rattle.bx_shared.proofs.BusMoves.{with_bus, bus_knows}
use Rattle.bx_shared.proofs.Places.{seated}

some_list : (a b : List Waiting) → Some a ≡ Some b → a ≡ b
some_list a b e = cc

abbrev sealed_view : BusView → List RouteView → List Waiting → View
sealed_view b rs es = record { buses = b ∷ []; routes = rs; sealed = Some es }

pub seals-keep : (txfp : Bool) (slots id : ℕ) (b : BusView) (rs : List RouteView) → AreAllIdle rs →
    Allows (IsKept txfp) slots id (bus_seat b rs) 0 (λ n. n) (Seals (step slots 0 0 0 none) (bus_seat b rs))
seals-keep txfp slots id b rs all t k long me fits =
    let s = k.core in
    let h = k.held id (with_bus b rs) me in
    let v = sealed_view b rs s.queue in
    let placed = seated txfp t k (set t.views id v) k.at k.bus_at (λ j u e. ⊎_elim
    (λ (z : (j ≡ id) × (v ≡ u)). subst (λ (x : ℕ × View). Holds s.queue k.at k.part k.bus_at k.bus x.0 x.1)
    (λ i. (sym z.0 i, z.1 i)) (record {
      routes = h.routes;
      buses = h.buses;
      once = h.once;
      seal = λ es y. (
        some_list s.queue es y,
        h.buses.0.0,
        λ r small. let p = all r small in
            ap k.at (sym p.route_is)
            ∙ (each_of (λ o. (k.at o.route ≡ id) × (k.part o.route ≡ o)) rs p.part h.routes p.there).0,
      );
    }))
    (λ (z : (j ≢ id) × (get_elem? t.views j ≡ some u)). k.held j u z.1)
    (at_set t.views id j v u e)) in (
      v,
      keeps,
      tt,
      subst (λ (ws : List ℕ). IsKept txfp (record { words = ws; homes = t.homes; views = set t.views id v }))
          (sym (set-get_or t.words 0 0)) placed.kept,
      (
        s.queue,
        refl,
        record {
          core = s;
          words = t.words;
          reached = k.reached;
          law = law_of s k.reached;
          eight = k.eight;
          queue_is = refl;
          shows = k.shows;
          word_is = refl;
          bus = bus_knows txfp t k id b rs me;
          parts = each_more (λ o. (k.at o.route ≡ id) × (k.part o.route ≡ o)) (Fits t.words s) rs
              (λ o a. subst (Fits t.words s) a.1 (k.route o.route).1) h.routes;
        },
      ),
    )

pub reads_last-keep : (txfp : Bool) (slots id i : ℕ) (v : View) (es : List Waiting) → v.sealed ≡ Some es →
    Allows (IsKept txfp) slots id (v, []) i (λ n. n) (ReadsLast (step slots i 0 0 none) (v, []))
reads_last-keep txfp slots id i v es is t k long me fits = (
  v,
  keeps,
  tt,
  subst (λ (x : List ℕ × List View). IsKept txfp (record { words = x.0; homes = t.homes; views = x.1 }))
      (λ j. (sym (set-get_or t.words i 0) j, sym (set_again t.views id v me) j)) k,
  (
    refl,
    λ fs e. subst (Each (λ w. (i ≡ 1 + 2 * w.mailbox → IsHeadOf w.frame w.number (get_or t.words i 0))
        × (i ≡ 2 + 2 * w.mailbox → get_or t.words i 0 ≡ bytes_word w.frame))) ((k.held id v me).seal fs e).0
        (each_more (IsPaid t.words) (λ w. (i ≡ 1 + 2 * w.mailbox → IsHeadOf w.frame w.number (get_or t.words i 0))
        × (i ≡ 2 + 2 * w.mailbox → get_or t.words i 0 ≡ bytes_word w.frame)) k.core.queue
        (λ w p. (
          (λ e. subst (λ (x : ℕ). IsHeadOf w.frame w.number (get_or t.words x 0)) (sym e) p.head_is),
          λ e. ap (λ x. get_or t.words x 0) e ∙ p.bytes_are,
        )) k.shows.payload),
  ),
)
