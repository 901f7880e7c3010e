use Rattle.can_node.specs.PlainBits.{StaysBy}
use Rattle.can_node.proofs.stays.stay_waiting.Given as goal

abbrev pub invariant-loop-place : goal.invariant-loop-place
invariant-loop-place l = StaysBy l.fn.state l.levels l.place l.state
