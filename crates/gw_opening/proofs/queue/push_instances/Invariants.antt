use Rattle.std.proofs.Common.{◌≡◌, ◌++◌}
use Rattle.gw_opening.specs.Queues.{first_instances}
use Rattle.gw_opening.proofs.queue.push_instances.Given as goal

abbrev pub invariant-loop-place : goal.invariant-loop-place
invariant-loop-place l = l.all.items ≡ l.initial.all.items ++ first_instances l.message l.place
