use Rattle.std.proofs.Common.{◌≡◌, ◌≤◌, Bool, true, false, refl, arith}
use Rattle.can_node.proofs.PassiveMoves.{passive_recessive, passive_dominant, passive_ends_recessive}
use Rattle.can_node.proofs.PassiveMoves.{passive_ends_dominant}
use Rattle.can_node.proofs.transitions.behind_passive_flag.Goals as goal

pub returns-then-ones-lt5-clause-goes : goal.returns-then-ones-lt5-clause-goes
returns-then-ones-lt5-clause-goes c none now errors = rw c.if-level.true
    (passive_recessive c.args.role c.args.owes c.args.ones c.args.zeros now errors c.if-ones-lt5.true)

pub returns-then-level-clause-goes : goal.returns-then-level-clause-goes
returns-then-level-clause-goes c none now errors = rw (c.awaiting.ensures, c.if-level.true)
    (passive_ends_recessive c.args.role c.args.owes c.args.ones c.args.zeros now errors c.if-ones-lt5.false)

pub returns-then-zeros-lt5-clause-goes : goal.returns-then-zeros-lt5-clause-goes
returns-then-zeros-lt5-clause-goes c none now errors =
    rw (c.if-level.false, by c.args.owes (λ is. none is c.if-level.false))
    (passive_dominant c.args.role c.args.ones c.args.zeros now errors c.if-zeros-lt5.true)
  where
    by : (owes : Bool) → (owes ≡ true → 5 ≤ c.args.zeros) → owes ≡ false
    by true many = absurd (omega (arith, many refl, c.if-zeros-lt5.true))
    by false many = refl

pub returns-clause-goes : goal.returns-clause-goes
returns-clause-goes c none now errors = rw (c.awaiting-2.ensures, c.if-level.false)
    (passive_ends_dominant c.args.role c.args.owes c.args.ones c.args.zeros now errors c.if-zeros-lt5.false)
