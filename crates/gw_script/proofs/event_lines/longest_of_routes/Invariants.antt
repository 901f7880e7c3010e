use Rattle.std.proofs.Common.{◌≤◌, All, length, take}
use Rattle.gw_config.specs.Routes.{RouteValue}
use Rattle.gw_script.proofs.event_lines.longest_of_routes.Given as goal

abbrev pub invariant-loop-route : goal.invariant-loop-route
invariant-loop-route l = All (λ (route : RouteValue). length route.name ≤ l.longest) (take l.route-index l.routes)
