-- One route more.
use Rattle.std.proofs.Common.{◌≤◌, All, ap, length, subst, arith}
use Rattle.std.proofs.lemmas.List.{take_all}
use Rattle.gw_config.specs.Routes.{RouteValue}
use Rattle.gw_script.proofs.NameLengths.{longest-step}
use Rattle.gw_script.proofs.event_lines.longest_of_routes.Goals as goal
use Rattle.gw_script.proofs.event_lines.longest_of_routes.Goals.{then-longest-name, else-longest-name}

pub loop-route-preserved : goal.loop-route-preserved
loop-route-preserved c =
    let step = longest-step (λ (r : RouteValue). r.name) c.args.routes.now c.loop-route.route-index
    c.loop-route.longest c.if-longest-name.longest c.route-item.result c.loop-route-test.true c.route-item.is in
    elim c.if-longest-name.branch [
      | then-longest-name w ↦ step (omega (arith, w.longest-is, w.if-longest-name))
          (omega (arith, w.longest-is, ap length c.name-name.ensures)) c.loop-route.invariant
      | else-longest-name w ↦ step (omega (arith, w.longest-is))
          (omega (arith, w.longest-is, w.if-longest-name, ap length c.name-name.ensures)) c.loop-route.invariant
    ]

pub returns : goal.returns
returns c =
    subst (All (λ (r : RouteValue). length r.name ≤ c.loop-route.longest))
    (take_all c.loop-route.route-index c.args.routes.now c.loop-route-test.false) c.loop-route.invariant
