use Rattle.std.proofs.Common.{◌≡◌, [], length}
use Rattle.std.specs.Arc.{arc_value}
use Rattle.crossbeam_queue.specs.Passes.{view, IsPassOf, ruled_capacity}
use Rattle.bx_mail.specs.Rule.{bus_log}
use Rattle.bx_mail.specs.Sides.{AreNewSides}
use Rattle.bx_mail.proofs.opening.open.Given as goal

abbrev pub invariant-loop-route : goal.invariant-loop-route
invariant-loop-route l = IsPassOf (arc_value l.line) l.pass × (ruled_capacity (arc_value l.line) ≡ 8)
    × (view l.pass ≡ bus_log [] l.route []) × (length l.sides.items ≡ l.route)
    × AreNewSides l.pass.table_id l.sides.items
