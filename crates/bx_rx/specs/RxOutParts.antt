-- What the fields of an `RxOut` stand for.
use Rattle.std.specs.Prelude.{◌≡◌, true, false, []}
use Rattle.std.specs.Arc.{arc_value}
use Rattle.crossbeam_queue.specs.Passes.{view, IsPassOf, ruled_capacity}
use Rattle.bx_rx.specs.Rule.{log}
use Rattle.bx_rx.specs.RxOut.{Outlet}
use Rattle.bx_rx.specs.declared.rx_out.RxOut.TheInside.{Inside}

abbrev pub out_view : Inside → Outlet
out_view s = record { queue = s.pass.table_id; released = (view s.pass).released; calls = (view s.pass).calls }

-- it may release and not offer, at a queue of three places
abbrev pub IsOut : Inside → Type 0
IsOut s = IsPassOf (arc_value s.line) s.pass × (ruled_capacity (arc_value s.line) ≡ 3)
    × (view s.pass ≡ log false true [] (view s.pass).released (view s.pass).calls)
