use Rattle.std.proofs.Common.{◌≡◌, ◌≤◌, ◌-◌, length, vec_capacity}
use Rattle.bx_core.specs.Lists.{Each}
use Rattle.gw_pool.specs.Pool.{account, IsWorkerSeat}
use Rattle.gw_threads.specs.Clocks.{HasLent}
use Rattle.gw_threads.proofs.pool_threads.start_workers.Given as goal

abbrev pub invariant-loop-worker : goal.invariant-loop-worker
invariant-loop-worker g l =
    (length l.threads.items ≡ l._worker)
    × (l.count ≤ vec_capacity l.threads)
    × (l.pool.queue ≡ l.initial.pool.queue)
    × (l.pool.account ≡ account (l.initial.pool.account.parts - l._worker) l.initial.pool.account.put
    l.initial.pool.account.taken)
    × Each (λ thread. IsWorkerSeat l.initial.pool.queue thread.handle.promise.start.value) l.threads.items
    × HasLent l._worker l.initial.clock l.clock
