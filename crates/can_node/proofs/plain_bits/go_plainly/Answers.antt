use Rattle.std.proofs.Common.{◌≡◌, ℕ, Bool, true, false, ap, subst, sym, ◌∙◌}
use Rattle.can_confinement.specs.declared.confinement.Role.{Role}
use Rattle.can_node.specs.declared.state.State.TheVariants.{PassiveErrorFlag}
use Rattle.can_node.specs.Machine.{Goes, is_sending, is_taking}
use Rattle.can_confinement.specs.Confinement.{state_of}
use Rattle.can_confinement.specs.Counters.{counts_of}
use Rattle.can_node.specs.PlainBits.{IsPlain, is_plain, stays_out, steps_plainly}
use Rattle.can_node.proofs.PlainBits.{owes_none, transition_leaves}
use Rattle.can_node.proofs.plain_bits.go_plainly.Goals as goal

pub returns-then-count_on : goal.returns-then-count_on
returns-then-count_on c plain = c.count_on.ensures.counted c.if-count_on.true c.args.counters.now c.args.now

pub returns-in-PassiveErrorFlag : goal.returns-in-PassiveErrorFlag
returns-in-PassiveErrorFlag c plain =
    let flag = c.in-PassiveErrorFlag in
    let is = sym (c.count_on.ensures.other c.if-count_on.false) ∙ flag.is in
    rw is (record {
      goes = c.behind_passive_flag.ensures.goes
          (owes_none c.args.level flag.role flag.owes flag.ones flag.zeros
          (ap (is_plain c.args.level) (sym is) ∙ plain)) c.args.now (state_of (counts_of c.args.counters.now));
      reads_none = c.behind_passive_flag.ensures.reads;
    })

pub returns-in_default : goal.returns-in_default
returns-in_default c plain =
    let same = c.count_on.ensures.other c.if-count_on.false in
    let ends = c.count_on.ensures.ends c.if-count_on.false in
    transition_leaves c.args.state.now c.args.counters.now c.args.now c.args.level c.state.result c.transition_of.result
    (λ runs ones is. absurd (let on = ap (is_plain c.args.level) (sym is) ∙ plain in
    let off = ap (stays_out c.args.level) (sym is) ∙ ends in cc (on, off)))
    (subst (λ state. (role : Role) (owes : Bool) (ones zeros : ℕ) → state ≡ PassiveErrorFlag role owes ones zeros → ⊥)
    same c.in_default.not-PassiveErrorFlag) plain c.state.ensures.shown
    (subst (λ state. is_taking state ≡ false → is_sending state ≡ false →
    Goes state c.args.now c.state.result c.args.level c.transition_of.result) same c.transition_of.ensures.goes)
    (subst (λ state. steps_plainly c.args.level state ≡ true → IsPlain c.transition_of.result) same
    c.transition_of.ensures.plain)
