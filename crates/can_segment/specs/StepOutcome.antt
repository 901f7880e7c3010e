-- How deferred nodes come through a bit. Private clauses cite it.
use Rattle.can_node.specs.declared.shared_sample.SharedSample.{SharedSample}
use Rattle.can_segment.specs.declared.step_outcome.StepOutcome.{StepOutcome}
use Rattle.can_segment.specs.declared.step_outcome.StepOutcome.TheVariants.{Acknowledged, Shares, Through}

-- what holds where the shared receiver followed for them, or they were resumed,
abbrev pub IfThrough : StepOutcome → Type 0 → Type 0
IfThrough Through Stands = Stands
IfThrough step_outcome Stands = Unit {0}

-- where they have still to count a frame,
abbrev pub IfAcknowledged : StepOutcome → Type 0 → Type 0
IfAcknowledged Acknowledged Stands = Stands
IfAcknowledged step_outcome Stands = Unit {0}

-- and where they have still to sample what all hear alike
abbrev pub IfShares : StepOutcome → (SharedSample → Type 0) → Type 0
IfShares (Shares shared) Stands = Stands shared
IfShares step_outcome Stands = Unit {0}
