-- One route more is one line more.
use Rattle.std.proofs.Common.{◌∙◌}
use Rattle.gw_script.specs.ReportTexts.{route_line}
use Rattle.gw_script.proofs.LineLaws.{lines-step}
use Rattle.gw_script.proofs.report_text.push_routes.Goals as goal

pub loop-route-preserved : goal.loop-route-preserved
loop-route-preserved c =
    lines-step (route_line c.args.script.now) c.args.routes.now c.loop-route.route c.index-routes-route.result
    c.loop-route.text.items c.push_route.new.text.items
    c.loop-route-test.true c.index-routes-route.is c.in_ok-push_route.ensures
    ∙ c.loop-route.invariant
