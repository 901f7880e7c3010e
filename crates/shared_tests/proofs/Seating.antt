-- Seats that come back from threads of their own are still at their mailboxes.
use Rattle.std.proofs.Common.{◌≡◌, ℕ, ◌<◌, List, length, slice_get, slice_index_or, subst, sym, arith, ◌∙◌}
use Rattle.std.proofs.lemmas.Option.{slice_get_within, slice_get-get_or, get_or_from_slice_get}
use Rattle.bx_core.specs.Ties.{AreSides}
use Rattle.bx_shared.specs.Calls.{SameMailboxes}
use Rattle.bx_shared.specs.Closing.{IsSideOf, routes_of, routes-stay, side-stays, side-moves}
use Rattle.bx_shared.specs.Seats.{BusPlace, RoutePlace}
use Rattle.bx_shared.specs.Sides.{SameRoute}

pub sides_after : (a b : BusPlace) (xs ys : List RoutePlace) → SameMailboxes a b → length ys ≡ length xs →
    ((k : ℕ) (s : RoutePlace) → k < length xs → SameRoute (slice_index_or xs k s) (slice_index_or ys k s)) →
    AreSides IsSideOf a xs → AreSides IsSideOf b ys
sides_after a b xs ys same size each sides k t there =
    let less = slice_get_within ys k t there in
    let here : k < length xs = omega (arith, less, size) in
    let before = sides k (slice_index_or xs k t) (slice_get-get_or xs k t here) in
    let after = side-moves a k (slice_index_or xs k t) (slice_index_or ys k t) (each k t here) before in
    side-stays a b k t same (subst (λ r. IsSideOf a k r) (get_or_from_slice_get ys k t t there) after)

pub all_after : (a b : BusPlace) (xs ys : List RoutePlace) → SameMailboxes a b → length ys ≡ length xs →
    length xs ≡ routes_of a → length ys ≡ routes_of b
all_after a b xs ys same size all = size ∙ all ∙ sym (routes-stay a b same)
