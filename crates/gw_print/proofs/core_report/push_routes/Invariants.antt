use Rattle.std.proofs.Common.{string_bytes}
use Rattle.gw_print.specs.CoreReports.{AppendsRoutes}
use Rattle.gw_print.proofs.core_report.push_routes.Given as goal

abbrev pub invariant-loop-route : goal.invariant-loop-route
invariant-loop-route l = AppendsRoutes l.core l.route (string_bytes l.fn.text) (string_bytes l.text)
