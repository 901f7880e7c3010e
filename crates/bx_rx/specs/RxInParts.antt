-- What the fields of an `RxIn` stand for.
use Rattle.std.specs.Prelude.{◌≡◌, true, false, []}
use Rattle.std.specs.Arc.{arc_value}
use Rattle.crossbeam_queue.specs.Passes.{view, IsPassOf, ruled_capacity}
use Rattle.bx_rx.specs.Rule.{log}
use Rattle.bx_rx.specs.RxIn.{Inlet}
use Rattle.bx_rx.specs.declared.rx_in.RxIn.TheInside.{Inside}

abbrev pub in_view : Inside → Inlet
in_view s = record { queue = s.pass.table_id; stored = (view s.pass).stored; calls = (view s.pass).calls }

-- it may offer and not release, at a queue of three places
abbrev pub IsIn : Inside → Type 0
IsIn s = IsPassOf (arc_value s.line) s.pass × (ruled_capacity (arc_value s.line) ≡ 3)
    × (view s.pass ≡ log true false (view s.pass).stored [] (view s.pass).calls)
