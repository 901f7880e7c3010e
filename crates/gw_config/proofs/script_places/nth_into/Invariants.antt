use Rattle.std.proofs.Common.{◌≡◌, ◌==◌, drop, slice_get}
use Rattle.gw_config.specs.Routes.{RouteValue}
use Rattle.gw_config.specs.Nodes.{places_where}
use Rattle.gw_config.proofs.script_places.nth_into.Given as goal

abbrev pub invariant-loop-place : goal.invariant-loop-place
invariant-loop-place l =
    slice_get (places_where (λ (r : RouteValue). r.target == l.controller) l.place (drop l.place l.routes)) l.left
    ≡ slice_get (places_where (λ (r : RouteValue). r.target == l.controller) 0 l.routes) l.nth
