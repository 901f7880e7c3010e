use Rattle.std.proofs.Common.{◌≡◌, ap, ◌∙◌, sym}
use Rattle.can_confinement.specs.declared.confinement.ErrorState.{ErrorState}
use Rattle.can_confinement.specs.declared.confinement.Role.{Role}
use Rattle.can_confinement.specs.declared.confinement.Role.TheVariants.{Receiver}
use Rattle.can_node.specs.Phases.{suspends}
use Rattle.can_node.proofs.Moves.{intermission_on, intermission_pressed, intermission_ends, intermission_waits, intermission_hurried}
use Rattle.can_node.proofs.transitions.after_intermission.Goals as goal

-- a receiver is never suspended
never : (role : Role) (one other : ErrorState) → role ≡ Receiver → suspends role other ≡ suspends role one
never role one other is = ap (λ r. suspends r other) is ∙ sym (ap (λ r. suspends r one) is)

pub returns-then-level-clause-goes : goal.returns-then-level-clause-goes
returns-then-level-clause-goes c =
    rw (c.plain.ensures, c.if-level.true) (intermission_on c.args.role c.args.ones c.args.now c.args.errors c.if-ones-lt2.true)

pub returns-then-ones-lt2-clause-goes : goal.returns-then-ones-lt2-clause-goes
returns-then-ones-lt2-clause-goes c = rw (c.plain-then-ones-lt2.ensures, c.dominant_flag.ensures, c.if-level.false)
    (intermission_pressed c.args.role c.args.ones c.args.now c.args.errors c.if-ones-lt2.true)

pub returns-then-not-level-clause-goes : goal.returns-then-not-level-clause-goes
returns-then-not-level-clause-goes c = rw (c.plain-then-not-level.ensures, c.if-not-level.true)
    (intermission_hurried c.args.role c.args.ones c.args.now c.args.errors c.if-ones-lt2.false c.is_suspended-waits.result
    (sym c.is_suspended-waits.ensures))

pub returns-then-waits-clause-goes : goal.returns-then-waits-clause-goes
returns-then-waits-clause-goes c = rw (c.plain-then-waits.ensures, c.if-not-level.false)
    (intermission_waits c.args.role c.args.ones c.args.now c.args.errors c.if-ones-lt2.false
    (sym c.is_suspended-waits.ensures ∙ c.if-waits.true))

pub returns-clause-goes : goal.returns-clause-goes
returns-clause-goes c = rw (c.plain-2.ensures, c.if-not-level.false)
    (intermission_ends c.args.role c.args.ones c.args.now c.args.errors c.if-ones-lt2.false
    (sym c.is_suspended-waits.ensures ∙ c.if-waits.false))

pub returns-then-level-clause-alike : goal.returns-then-level-clause-alike
returns-then-level-clause-alike c is other =
    rw (c.plain.ensures, c.if-level.true) (intermission_on c.args.role c.args.ones c.args.now other c.if-ones-lt2.true)

pub returns-then-ones-lt2-clause-alike : goal.returns-then-ones-lt2-clause-alike
returns-then-ones-lt2-clause-alike c is other = rw (c.plain-then-ones-lt2.ensures, c.dominant_flag.ensures, c.if-level.false)
    (intermission_pressed c.args.role c.args.ones c.args.now other c.if-ones-lt2.true)

pub returns-then-not-level-clause-alike : goal.returns-then-not-level-clause-alike
returns-then-not-level-clause-alike c is other = rw (c.plain-then-not-level.ensures, c.if-not-level.true)
    (intermission_hurried c.args.role c.args.ones c.args.now other c.if-ones-lt2.false c.is_suspended-waits.result
    (never c.args.role c.args.errors other is ∙ sym c.is_suspended-waits.ensures))

pub returns-then-waits-clause-alike : goal.returns-then-waits-clause-alike
returns-then-waits-clause-alike c is other = absurd (let never_waits = ap (λ role. suspends role c.args.errors) is in
    cc (never_waits, c.is_suspended-waits.ensures, c.if-waits.true))

pub returns-clause-alike : goal.returns-clause-alike
returns-clause-alike c is other = rw (c.plain-2.ensures, c.if-not-level.false)
    (intermission_ends c.args.role c.args.ones c.args.now other c.if-ones-lt2.false (ap (λ role. suspends role other) is))
