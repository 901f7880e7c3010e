-- What the fields of a `PostBus` stand for.
use Rattle.std.specs.Prelude.{◌≡◌, []}
use Rattle.std.specs.Arc.{arc_value}
use Rattle.crossbeam_queue.specs.Passes.{view, IsPassOf}
use Rattle.bx_mail.specs.Rule.{bus_log}
use Rattle.bx_mail.specs.Sides.{BusSide, IsRunning}
use Rattle.bx_mail.specs.declared.post_bus.PostBus.TheInside.{Inside}

abbrev pub bus_view : Inside → BusSide
bus_view s = record {
  queue = s.pass.table_id;
  routes = (view s.pass).made;
  got = (view s.pass).got;
  boxes = s.boxes.items;
  aside = s.aside;
  tally = s.tally;
}

-- it may take posts, and what it keeps came from them
abbrev pub IsBus : Inside → Type 0
IsBus s = IsPassOf (arc_value s.line) s.pass × (view s.pass ≡ bus_log (view s.pass).got (view s.pass).made [])
    × IsRunning (bus_view s)
