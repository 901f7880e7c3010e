-- What the bus's seat keeps at run time, after its calls.
use Rattle.std.proofs.Common.{◌≡◌, ℕ, zero, suc, get_or, slice_get, ⊎_elim, nat_lt, cond, List, [], ◌∷◌, ◌++◌, map}
use Rattle.std.proofs.Common.{length, refl, sym, ap, ◌∙◌, subst, Some, None}
use Rattle.std.specs.Prelude.{option_to_list}
use Rattle.atomic_table.specs.Table.{Me}
use Rattle.bx_core.specs.TxBus.{Item, label_of}
use Rattle.bx_words.specs.Lanes.{mark_of, IsTransmitting}
use Rattle.bx_shared.specs.declared.said.Said.{Said}
use Rattle.bx_shared.specs.declared.tally.Tally.{Tally}
use Rattle.bx_shared.specs.declared.route_view.RouteView.{RouteView}
use Rattle.bx_shared.specs.declared.bus_view.BusView.{BusView}
use Rattle.bx_shared.specs.declared.view.View.{View}
use Rattle.bx_shared.specs.Steps.{bus_seat, bus_of}
use Rattle.bx_shared.specs.BusSteps.{bus_completed, bus_failed, bus_reaped}
use Rattle.bx_core.specs.Stands.{entries_of, numbers_of}
use Rattle.bx_shared.specs.declared.closed.RouteCounts.{RouteCounts}
use Rattle.bx_shared.specs.Seats.{BusPlace, RoutePlace, openings}
use Rattle.bx_shared.specs.Closing.{IsCounted}
use Rattle.bx_shared.specs.Tallies.{IsTally}
use Rattle.bx_shared.proofs.Transmitting.{labels-push}
use Rattle.bx_shared.proofs.Tying.{no_side, same_side}

-- a seat that is the bus's, with the places that it had
pub record IsStill (me : Me Said View) (b : BusView) (rs : List RouteView) : Type 0 where
  pub bus : bus_of me ≡ b
  pub alone : me ≡ bus_seat (bus_of me) me.0.routes
  pub others : rs ≡ openings (length rs) → me.0.routes ≡ openings (length me.0.routes)

pub is_still : (me : Me Said View) (b : BusView) (rs : List RouteView) → me ≡ bus_seat b rs → IsStill me b rs
is_still me b rs e =
    subst (λ (m : Me Said View). IsStill m b rs) (sym e) (record { bus = refl; alone = refl; others = λ h. h })

-- what was sent is counted
pub counts_done : (b d : BusView) (item : Item) (t : Tally) → d ≡ bus_completed b → b.sends ≡ Some item →
    IsTally (b.done ++ item ∷ []) (map label_of b.reaped) t → IsTally d.done (map label_of d.reaped) t
counts_done b d item t is sends h = subst (λ (x : BusView). IsTally x.done (map label_of x.reaped) t) (sym is)
    (subst (λ (l : List Item). IsTally (b.done ++ l) (map label_of b.reaped) t) (sym (ap option_to_list sends)) h)

-- what was reaped is counted
pub counts_reaped : (b d : BusView) (word : ℕ) (item : Item) (t : Tally) → d ≡ bus_reaped (bus_failed b word) →
    b.sends ≡ Some item → IsTransmitting word b.mailbox → ¬ (mark_of word b.mailbox ≡ 15) →
    IsTally b.done (map label_of b.reaped ++ label_of item ∷ []) t → IsTally d.done (map label_of d.reaped) t
counts_reaped b d word item t is sends marks other h =
    let mark : mark_of word b.mailbox ≡ 31 =
    ⊎_elim (λ (e : mark_of word b.mailbox ≡ 15). absurd (other e)) (λ (e : mark_of word b.mailbox ≡ 31). e) marks in
    let due : cond (nat_lt 15 (mark_of word b.mailbox)) b.sends None ≡ Some item =
    ap (λ n. cond (nat_lt 15 n) b.sends None) mark ∙ sends in
    subst (λ (x : BusView). IsTally x.done (map label_of x.reaped) t) (sym is)
    (subst (λ (l : List (ℕ × ℕ)). IsTally b.done l t)
    (sym (ap (λ o. map label_of (b.reaped ++ option_to_list o)) due ∙ labels-push b.reaped item)) h)

-- the counts of a route, by what its seat and the bus's count
pub counts_route : (b : BusPlace) (route : ℕ) (s : RoutePlace) (c : RouteCounts) →
    c.requested ≡ length s.part.requested → c.aborted ≡ length s.part.aborted →
    c.done ≡ length (entries_of route b.bus.done) →
    c.reaped ≡ length (numbers_of route (map label_of b.bus.reaped)) → IsCounted b route s c
counts_route b route s c w x y z = record { requested = w; aborted = x; done = y; reaped = z }

-- it is those of any route and seat that are these
pub counts_there : (b : BusPlace) (route r : ℕ) (s t : RoutePlace) (c x : RouteCounts) → r ≡ route → s ≡ t → c ≡ x →
    IsCounted b route t c → IsCounted b r s x
counts_there b route r s t c x e f g h =
    subst (λ (z : ℕ × RoutePlace × RouteCounts). IsCounted b z.0 z.1 z.2) (λ k. (sym e k, sym f k, g k)) h

-- the seat at a place
pub seat_at : (l : List RoutePlace) (k : ℕ) (s d : RoutePlace) → slice_get l k ≡ Some s → get_or l k d ≡ s
seat_at [] k s d e = no_side s e
seat_at (x ∷ xs) zero s d e = same_side x s e
seat_at (x ∷ xs) (suc k) s d e = seat_at xs k s d e
