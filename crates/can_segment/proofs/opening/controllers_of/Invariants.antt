use Rattle.can_segment.proofs.Fresh.{FreshBelow}
use Rattle.can_segment.proofs.opening.controllers_of.Given as goal

abbrev pub invariant-loop-controller : goal.invariant-loop-controller
invariant-loop-controller l = FreshBelow (λ controller. controller.on) l.controllers l.members.items l.controller-index
