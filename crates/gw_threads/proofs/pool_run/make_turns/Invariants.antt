use Rattle.std.specs.Prelude.{◌≡◌, ◌<◌, ◌≤◌, true}
use Rattle.gw_pool.specs.Pool.{IsWorkerSeat}
use Rattle.gw_threads.specs.Clocks.{IsCalm, SeesAllDone}
use Rattle.gw_threads.proofs.pool_run.make_turns.Given as goal

abbrev pub invariant-loop-try : goal.invariant-loop-try
invariant-loop-try g l =
    (goal.iterator-loop-try g).can_next l._try-iterator
    × (goal.iterator-loop-try g).is_finite l._try-iterator
    × IsWorkerSeat l.initial.pool.queue l.pool
    × (l.rests < 32)
    × IsCalm l.clock.view
    × (l.over ≡ true → SeesAllDone l.clock)
