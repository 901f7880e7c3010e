use Rattle.std.proofs.Common.{◌≡◌, ◌++◌, ◌<◌, length}
use Rattle.std.specs.Vec.Iter.{into_iter_items}
use Rattle.bx_core.specs.Lists.{Each}
use Rattle.gw_pool.specs.Pool.{IsWorkerSeat}
use Rattle.gw_threads.specs.Retired.{AreRetired}
use Rattle.gw_threads.proofs.pool_threads.retire_all.Given as goal

abbrev pub invariant-loop-seat : goal.invariant-loop-seat
invariant-loop-seat g l =
    (l.yielded ++ into_iter_items l.seat-iterator ≡ into_iter_items l.initial.seat-iterator)
    × Each (IsWorkerSeat l.initial.pool.queue) (into_iter_items l.initial.seat-iterator)
    × (0 < l.initial.pool.account.parts)
    × (l.pool.queue ≡ l.initial.pool.queue)
    × AreRetired (length l.yielded) l.initial.pool.account l.pool.account
