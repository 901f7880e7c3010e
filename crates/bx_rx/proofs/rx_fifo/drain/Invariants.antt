-- What was popped so far stands behind what was released before.
use Rattle.std.proofs.Common.{◌≡◌, ◌++◌, true, ◌+◌, ◌≤◌, length}
use Rattle.bx_rx.specs.Rule.{log}
use Rattle.crossbeam_queue.specs.Passes.{view, IsPassOf}
use Rattle.bx_rx.proofs.rx_fifo.drain.Given as goal

abbrev pub invariant-loop : goal.invariant-loop
invariant-loop g l = IsPassOf l.line l.pass
    × (view l.pass ≡ log true true (view l.fn.pass).stored ((view l.fn.pass).released ++ l.kept.items)
    (view l.pass).calls) × (length l.kept.items ≡ l.counter)
    × (length (view l.fn.pass).stored ≤ length (view l.fn.pass).released + 3)
