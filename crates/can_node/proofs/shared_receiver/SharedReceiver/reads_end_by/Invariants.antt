use Rattle.std.proofs.Common.{take}
use Rattle.can_node.specs.SharedReceiver.{ReadsAlongBy}
use Rattle.can_node.proofs.shared_receiver.SharedReceiver.reads_end_by.Given as goal

abbrev pub invariant-loop-place : goal.invariant-loop-place
invariant-loop-place l = ReadsAlongBy l.fn.self (take l.place l.levels) l.self
