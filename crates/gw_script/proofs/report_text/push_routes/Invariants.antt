use Rattle.std.proofs.Common.{◌≡◌, ◌++◌, drop}
use Rattle.gw_script.specs.Lines.{lines_from}
use Rattle.gw_script.specs.ReportTexts.{route_line}
use Rattle.gw_script.proofs.report_text.push_routes.Given as goal

abbrev pub invariant-loop-route : goal.invariant-loop-route
invariant-loop-route l = l.text.items ++ lines_from (route_line l.script) l.route (drop l.route l.routes)
    ≡ l.fn.text.items ++ lines_from (route_line l.script) 0 l.routes
