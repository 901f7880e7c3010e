use Rattle.std.proofs.Common.{◌≡◌, [], true, false, not, ap, sym, ◌∙◌}
use Rattle.can_node.proofs.SendMoves.{send_acknowledged, send_unacknowledged, send_echoed, send_completed}
use Rattle.can_node.proofs.SendMoves.{send_undriven, equal_levels, other_level}
use Rattle.can_confinement.specs.declared.confinement.Role.TheVariants.{Sender}
use Rattle.can_node.proofs.Readers.{flag_reads_nothing}
use Rattle.can_node.proofs.sends.after_sending.Goals as goal

pub returns-then-level-clause-goes : goal.returns-then-level-clause-goes
returns-then-level-clause-goes c = rw c.if-level.true
    (send_unacknowledged c.args.position.start c.args.position.place c.args.spelling.now c.args.errors c.unacknowledged.result
    (c.is_slot.ensures.yes c.if-is_slot.true) c.unacknowledged.ensures.flags c.unacknowledged.ensures.event
    c.unacknowledged.ensures.outcome)

pub returns-then-is_slot-clause-goes : goal.returns-then-is_slot-clause-goes
returns-then-is_slot-clause-goes c = rw (c.if-level.false, c.plain.ensures)
    (send_acknowledged c.args.position.start c.args.position.place c.saturating_add.result c.args.spelling.now c.args.errors
    (c.is_slot.ensures.yes c.if-is_slot.true) c.saturating_add.ensures)

pub returns-then-is_last-clause-goes : goal.returns-then-is_last-clause-goes
returns-then-is_last-clause-goes c =
    send_completed c.args.position.start c.args.position.place c.args.spelling.now c.args.errors c.args.level
    (c.is_slot.ensures.no c.if-is_slot.false)
    (equal_levels c.args.level c.level-driven.result c.if-level-driven.true ∙ c.level-driven.ensures)
    (c.is_last.ensures.yes c.if-is_last.true)

pub returns-then-level-driven-clause-goes : goal.returns-then-level-driven-clause-goes
returns-then-level-driven-clause-goes c = rw c.plain-then-level-driven.ensures
    (send_echoed c.args.position.start c.args.position.place c.saturating_add-then-level-driven.result c.args.spelling.now c.args.errors
    c.args.level (c.is_slot.ensures.no c.if-is_slot.false)
    (equal_levels c.args.level c.level-driven.result c.if-level-driven.true ∙ c.level-driven.ensures)
    (c.is_last.ensures.no c.if-is_last.false) c.saturating_add-then-level-driven.ensures)

pub returns-then-driven-clause-goes : goal.returns-then-driven-clause-goes
returns-then-driven-clause-goes c = let dominant : c.args.level ≡ false =
    other_level c.args.level c.level-driven.result c.if-level-driven.false ∙ ap not c.if-driven.true in
    rw dominant (c.overruled.ensures.goes c.args.position.place c.args.spelling.now c.bit.ensures
    (sym c.level-driven.ensures ∙ c.if-driven.true) (c.is_slot.ensures.no c.if-is_slot.false))

pub returns-clause-goes : goal.returns-clause-goes
returns-clause-goes c = let recessive : c.args.level ≡ true =
    other_level c.args.level c.level-driven.result c.if-level-driven.false ∙ ap not c.if-driven.false in
    rw recessive (send_undriven c.args.position.start c.args.position.place c.args.spelling.now c.args.errors c.bit_error.result
    c.bit_error.ensures (sym c.level-driven.ensures ∙ c.if-driven.false) (c.is_slot.ensures.no c.if-is_slot.false))

pub returns-clause-lost : goal.returns-clause-lost
returns-clause-lost c is = let none = flag_reads_nothing c.args.errors [] Sender c.bit_error.result.state
    c.bit_error.ensures.flags in absurd (cc (is, none))
