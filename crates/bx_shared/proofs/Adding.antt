-- The counts of a route add up.
use Rattle.std.proofs.Common.{◌≡◌, ℕ, zero, suc, ◌+◌, List, [], ◌∷◌, length, refl, arith, Some, None, slice_get}
use Rattle.std.proofs.lemmas.List.{length-map}
use Rattle.bx_core.specs.declared.left.Left.{Left}
use Rattle.bx_core.specs.declared.entry.Entry.{Entry}
use Rattle.bx_core.specs.States.{numbers}
use Rattle.bx_core.specs.Ties.{left_of}
use Rattle.bx_shared.specs.declared.closed.RouteCounts.{RouteCounts}
use Rattle.bx_shared.specs.Seats.{BusPlace, RoutePlace}
use Rattle.bx_shared.specs.Closing.{AreCounted, AreAccounted, AddUp, lists_by}
use Rattle.bx_shared.proofs.Few.{add_up}

none_is : {P : Type 0} (c : RouteCounts) → None ≡ Some c → P
none_is c e = cc

-- where there are as many sides as counts, each count has its side
side_of : (counts : List RouteCounts) (sides : List RoutePlace) (k : ℕ) (c : RouteCounts) →
    length counts ≡ length sides → slice_get counts k ≡ Some c → (s : RoutePlace) × (slice_get sides k ≡ Some s)
side_of [] sides k c size at = none_is c at
side_of (x ∷ xs) [] k c size at = absurd (omega arith)
side_of (x ∷ xs) (y ∷ ys) zero c size at = (y, refl)
side_of (x ∷ xs) (y ∷ ys) (suc k) c size at = side_of xs ys k c (omega arith) at

pub counts-add_up : (b : BusPlace) (sides : List RoutePlace) (counts : List RouteCounts) (left : List Left) →
    length counts ≡ length sides → AreCounted b sides counts → AreAccounted b sides left → AddUp counts left
counts-add_up b sides counts left size counted accounted route c at =
    let t = side_of counts sides route c size at in
    let n = counted route t.0 c t.1 at in
    let sum = add_up b.txfp (lists_by b route t.0) (numbers (left_of route left)) (accounted route t.0 t.1) in
    let few : length (numbers (left_of route left)) ≡ length (left_of route left) =
    length-map (left_of route left) (λ (e : Entry). e.number) in
    let requested = n.requested in
    let done = n.done in
    let aborted = n.aborted in
    let reaped = n.reaped in
    omega arith
