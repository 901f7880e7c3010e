use Rattle.std.proofs.Common.{◌≡◌}
use Rattle.std.specs.Arc.{arc_value}
use Rattle.crossbeam_queue.specs.Passes.{view, IsPassOf, ruled_capacity}
use Rattle.gw_pool.proofs.pool.PoolSeat.put.Given as goal

abbrev pub invariant-loop-try : goal.invariant-loop-try
invariant-loop-try g l =
    (goal.iterator-loop-try g).can_next l._try-iterator
    × (goal.iterator-loop-try g).is_finite l._try-iterator
    × IsPassOf (arc_value l.self-inside.queue) l.self-inside.pass
    × (view l.self-inside.pass ≡ view l.initial.self-inside.pass)
    × (l.self-inside.pass.table_id ≡ l.initial.self-inside.pass.table_id)
    × (l.next ≡ l.fn.baton)
    × (ruled_capacity (arc_value l.self-inside.queue) ≡ 16)
