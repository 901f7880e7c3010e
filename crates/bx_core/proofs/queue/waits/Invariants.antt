-- The numbers so far, and those of the rest, are those of the whole queue.
use Rattle.std.proofs.Common.{◌≡◌, ◌≤◌, ◌++◌, drop, length}
use Rattle.bx_core.specs.States.{waits_of}
use Rattle.bx_core.proofs.queue.waits.Given as goal

abbrev pub invariant-loop-waiting : goal.invariant-loop-waiting
invariant-loop-waiting l = (l.numbers.items ++ waits_of l.route (drop l.waiting-index l.queue)
    ≡ waits_of l.route l.queue) × (length l.numbers.items ≤ l.waiting-index)
