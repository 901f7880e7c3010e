-- How the places are dealt out, one route after the other.
use Rattle.std.proofs.Common.{◌≡◌, ℕ, zero, suc, ◌-◌, ◌<◌, List, [], ◌∷◌, ◌++◌, ⊎_elim, Some, slice_get, refl, sym, ap}
use Rattle.std.proofs.Common.{◌∙◌, subst, arith, length, Bool}
use Rattle.atomic_table.specs.Table.{Me, Splits}
use Rattle.bx_shared.specs.declared.said.Said.{Said}
use Rattle.bx_shared.specs.declared.view.View.{View}
use Rattle.bx_shared.specs.Shown.{IsKept}
use Rattle.bx_shared.specs.Steps.{seat_of, bus_seat, bus_of, opening, opening_bus, left_of, right_of}
use Rattle.atomic_table.specs.Seated.{TableId}
use Rattle.bx_core.proofs.Words.{pushed}
use Rattle.bx_shared.specs.Seats.{RoutePlace, AreDealt, openings}
use Rattle.bx_shared.proofs.Places.{splits-keep}

openings-next : (n : ℕ) → 0 < n → openings n ≡ opening (8 - n) ∷ openings (n - 1)
openings-next zero h = absurd (omega arith)
openings-next (suc n) h = λ i. opening ((let e : 7 - n ≡ 8 - suc n = omega arith in e) i)
    ∷ openings ((let e : n ≡ suc n - 1 = omega arith in e) i)

next_seat : (by : Bool) (me : Me Said View) (n : ℕ) → 0 < n → me ≡ bus_seat (opening_bus by) (openings n) →
    me ≡ bus_seat (opening_bus by) (opening (8 - n) ∷ openings (n - 1))
next_seat by me n some e = e ∙ ap (bus_seat (opening_bus by)) (openings-next n some)

pub cuts : (txfp by : Bool) (id : ℕ) (me : Me Said View) (n : ℕ) → 0 < n → me ≡ bus_seat (opening_bus by) (openings n) →
    Splits {S = Said} (IsKept txfp) id me.0 (left_of me.0) (right_of me.0)
cuts txfp by id me n some e =
    subst (λ (m : Me Said View). Splits {S = Said} (IsKept txfp) id m.0 (left_of m.0) (right_of m.0))
    (sym (next_seat by me n some e))
    (splits-keep txfp id (opening_bus by ∷ []) (opening (8 - n)) (openings (n - 1)))

pub cut_left : (by : Bool) (me next : Me Said View) (n : ℕ) → 0 < n → me ≡ bus_seat (opening_bus by) (openings n) →
    next ≡ (left_of me.0, me.1) → next ≡ bus_seat (opening_bus by) (openings (n - 1))
cut_left by me next n some e f = f ∙ ap (λ (m : Me Said View). (left_of m.0, m.1)) (next_seat by me n some e)

pub cut_right : (by : Bool) (me next : Me Said View) (n : ℕ) → 0 < n → me ≡ bus_seat (opening_bus by) (openings n) →
    next ≡ (right_of me.0, []) → next ≡ seat_of (opening (8 - n))
cut_right by me next n some e f = f ∙ ap (λ (m : Me Said View). (right_of m.0, [])) (next_seat by me n some e)

pub length-openings : (n : ℕ) → length (openings n) ≡ n
length-openings zero = refl
length-openings (suc n) = ap suc (length-openings n)

-- the bus's seat as it is left
pub left_alone : (by : Bool) (me : Me Said View) (n : ℕ) → me ≡ bus_seat (opening_bus by) (openings n) →
    (me ≡ bus_seat (bus_of me) me.0.routes) × (me.0.routes ≡ openings (length me.0.routes))
left_alone by me n e = subst (λ (m : Me Said View). (m ≡ bus_seat (bus_of m) m.0.routes)
    × (m.0.routes ≡ openings (length m.0.routes))) (sym e) (refl, ap openings (sym (length-openings n)))

-- one seat more is dealt out
pub dealt-push : (table old : TableId) (seats : List RoutePlace) (n : ℕ) (s : RoutePlace) → length seats ≡ n →
    AreDealt old seats → table ≡ old → s.table ≡ table → s.part ≡ opening n → AreDealt table (seats ++ s ∷ [])
dealt-push table old seats n s long h same at part route x e = ⊎_elim
    (λ (was : slice_get seats route ≡ Some x). let t = h route x was in (t.0 ∙ sym same, t.1))
    (λ (new : (route ≡ length seats) × (s ≡ x)). subst (λ (y : RoutePlace). (y.table ≡ table)
    × (y.part ≡ opening route)) new.1 (at, part ∙ ap opening (sym (new.0 ∙ long))))
    (pushed seats s route x e)
