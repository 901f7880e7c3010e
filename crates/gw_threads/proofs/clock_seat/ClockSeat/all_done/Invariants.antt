use Rattle.std.proofs.Common.{◌≡◌, ℕ, ◌<◌, ◌≤◌, length, slice_index}
use Rattle.std.specs.Arc.{arc_value}
use Rattle.gw_threads.specs.Clocks.{pacer_of, IsAtTable}
use Rattle.gw_threads.proofs.clock_seat.ClockSeat.all_done.Given as goal

abbrev pub invariant-loop-segment : goal.invariant-loop-segment
invariant-loop-segment l =
    IsAtTable (arc_value l.self-inside.clocks).shared.table_id l.self-inside.pace l.self-inside.seat.table_id
    l.self-inside.seat.me
    × ((arc_value l.self-inside.clocks).shared.key ≡ l.self-inside.pace)
    × (l.self-inside.pace ≡ l.initial.self-inside.pace)
    × (l.self-inside.first ≡ (pacer_of l.self-inside.seat.me).first)
    × ((pacer_of l.self-inside.seat.me).end ≤ l.self-inside.pace.segments)
    × (length (pacer_of l.self-inside.seat.me).seen ≡ l.self-inside.pace.segments)
    × (l.self-inside.pace.segments ≤ 8)
    × ((pacer_of l.self-inside.seat.me).first ≡ (pacer_of l.initial.self-inside.seat.me).first)
    × ((pacer_of l.self-inside.seat.me).end ≡ (pacer_of l.initial.self-inside.seat.me).end)
    × ((pacer_of l.self-inside.seat.me).made ≡ (pacer_of l.initial.self-inside.seat.me).made)
    × ((pacer_of l.self-inside.seat.me).lent ≡ (pacer_of l.initial.self-inside.seat.me).lent)
    × ((pacer_of l.self-inside.seat.me).stopped ≡ (pacer_of l.initial.self-inside.seat.me).stopped)
    × ((pacer_of l.self-inside.seat.me).warned ≡ (pacer_of l.initial.self-inside.seat.me).warned)
    × ((j : ℕ) → j < l.segment → l.self-inside.pace.bits ≤ slice_index (pacer_of l.self-inside.seat.me).seen j)
