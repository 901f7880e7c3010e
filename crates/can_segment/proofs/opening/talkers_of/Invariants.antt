use Rattle.can_segment.proofs.Fresh.{FreshBelow}
use Rattle.can_segment.proofs.opening.talkers_of.Given as goal

abbrev pub invariant-loop-talker : goal.invariant-loop-talker
invariant-loop-talker l = FreshBelow (λ talker. talker.on) l.talkers l.members.items l.talker-index
