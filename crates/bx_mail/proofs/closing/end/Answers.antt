-- Of each route, each post that it posted was taken or is left.
use Rattle.std.proofs.Common.{map, refl, rules}
use Rattle.bx_mail.specs.Postings.{item_left}
use Rattle.crossbeam_queue.specs.Passes.{view}
use Rattle.bx_mail.specs.BusParts.{bus_view}
use Rattle.bx_mail.proofs.Leaving.{closed, all_drained}
use Rattle.bx_mail.proofs.Tallied.{left_as}
use Rattle.bx_mail.proofs.closing.end.Goals as goal

pub returns : goal.returns
returns g c = let v = bus_view c.bus.inside in
    closed c.args.bus v c.args.sides.items c.drain-posts.result.items (map item_left c.leave.result.items) c.bus.view_is
    (all_drained v c.args.sides.items (view c.bus.inside.pass) (view c.join_all.new.pass) c.drain-posts.result.items
    refl refl c.join_all.ensures.view c.drain-posts.ensures) (search rules) (search rules)
    (left_as c.leave.result.items c.as_slice.result.now c.bus.inside.boxes.items c.as_slice-2.result.now
    c.drain-posts.result.items c.bus.inside.aside c.as_slice.ensures.value c.as_slice-2.ensures.value c.leave.ensures)
