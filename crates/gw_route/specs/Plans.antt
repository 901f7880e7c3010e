-- The aborts that are planned for a route, and what of them was done.
use Rattle.std.specs.Prelude.{◌≡◌, ℕ, List, ◌++◌, map}
use Rattle.gw_route.specs.RouteHand.{HandValue}
use Rattle.gw_route.specs.Sublists.{IsSublist}
use Rattle.gw_route.specs.declared.route_abort.RouteAbort.{RouteAbort}

abbrev pub numbers_in : List RouteAbort → List ℕ
numbers_in aborts = map (λ (abort : RouteAbort). abort.number) aborts

-- Of the planned aborts the hand has done those in front, and has the others still to do. What it aborted are some of
-- the numbers of those done, in their order.
pub record FromPlan (planned : List RouteAbort) (h : HandValue) : Type 0 where
  pub done : List RouteAbort
  pub all : planned ≡ done ++ h.aborts
  pub logged : IsSublist h.aborted (numbers_in done)
