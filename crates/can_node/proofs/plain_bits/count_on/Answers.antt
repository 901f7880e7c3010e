use Rattle.std.proofs.Common.{false, ap, subst, ◌∙◌}
use Rattle.can_node.specs.Machine.{is_sending}
use Rattle.can_node.specs.PlainBits.{LeavesPlainly}
use Rattle.can_node.proofs.GoingBy.{is_out}
use Rattle.can_node.proofs.plain_bits.count_on.Goals as goal

pub returns-then-stay_on-clause-counted : goal.returns-then-stay_on-clause-counted
returns-then-stay_on-clause-counted c reported counters now =
    let on = c.stay_on.ensures.stays c.if-stay_on.true in
    rw on.1 ((is_out c.args.state.now c.args.level on.0).leaves counters now)

pub returns-then-stay_on-clause-sends_none : goal.returns-then-stay_on-clause-sends_none
returns-then-stay_on-clause-sends_none c reported =
    let on = c.stay_on.ensures.stays c.if-stay_on.true in
    ap is_sending on.1 ∙ (is_out c.args.state.now c.args.level on.0).sends_then

pub returns-clause-counted : goal.returns-clause-counted
returns-clause-counted c reported counters now = rw c.if-level.false
    (subst (λ state. LeavesPlainly state counters now false c.flag_on.new.state)
    (c.stay_on.ensures.other c.if-stay_on.false) (c.flag_on.ensures.counted reported counters now))
