use Rattle.std.proofs.Common.{◌≡◌, take}
use Rattle.gw_opening.specs.Queues.{instances}
use Rattle.gw_opening.proofs.queue.instances.Given as goal

abbrev pub invariant-loop-message : goal.invariant-loop-message
invariant-loop-message l = l.all.items ≡ instances (take l.message-index l.messages)
