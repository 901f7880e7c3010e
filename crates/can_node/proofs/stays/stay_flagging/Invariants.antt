use Rattle.can_confinement.specs.declared.confinement.Role.{Role}
use Rattle.can_node.specs.PlainBits.{StaysBy}
use Rattle.can_node.specs.declared.state.State.TheVariants.{PassiveErrorFlag}
use Rattle.can_node.proofs.stays.stay_flagging.Given as goal

abbrev pub invariant-loop-place : goal.invariant-loop-place
invariant-loop-place l = (role : Role) → StaysBy (PassiveErrorFlag role l.fn.owes l.fn.ones l.fn.zeros) l.levels l.place
    (PassiveErrorFlag role l.fn.owes l.recessive l.dominant)
