use Rattle.gw_opening.specs.Plans.{IsTalkerOf}
use Rattle.gw_site.proofs.Pairs.{PairsBelow}
use Rattle.gw_opening.proofs.plan.talkers_of.Given as goal

abbrev pub invariant-loop-one : goal.invariant-loop-one
invariant-loop-one l = PairsBelow (λ k. IsTalkerOf) l.said l.talkers.items l.one-index
