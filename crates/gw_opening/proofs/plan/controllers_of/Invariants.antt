use Rattle.gw_config.specs.Controllers.{controllers_on}
use Rattle.gw_opening.specs.Plans.{IsControllerOf}
use Rattle.gw_site.proofs.Pairs.{PairsBelow}
use Rattle.gw_opening.proofs.plan.controllers_of.Given as goal

abbrev pub invariant-loop-nth : goal.invariant-loop-nth
invariant-loop-nth l =
    PairsBelow (λ k. IsControllerOf) (controllers_on l.segment l.script.controllers) l.controllers.items l.nth
