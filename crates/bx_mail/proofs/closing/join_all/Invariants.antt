use Rattle.std.proofs.Common.{◌≡◌, map}
use Rattle.crossbeam_queue.specs.Passes.{view, IsPassOf}
use Rattle.bx_mail.specs.Rule.{bus_log}
use Rattle.bx_mail.specs.Sides.{RouteSide}
use Rattle.bx_mail.proofs.closing.join_all.Given as goal

abbrev pub invariant-loop-side : goal.invariant-loop-side
invariant-loop-side l = IsPassOf l.line l.pass × (l.pass.table_id ≡ l.fn.pass.table_id)
    × (view l.pass ≡ bus_log (view l.fn.pass).got (view l.fn.pass).made (map (λ (s : RouteSide). s.sent) l.yielded))
