use Rattle.std.proofs.Common.{arith, ◌≡◌, ◌+◌, ◌^◌, ◌∙◌, sym, ap, false, get_or, length}
use Rattle.std.proofs.lemmas.Nat.{pow_below}
use Rattle.can_frame.specs.FieldReading.{digit}
use Rattle.can_frame.proofs.Numbers.{number-next, number-none, number-bound}
use Rattle.can_frame.proofs.reading.number_in.Goals as goal

pub loop-level-init : goal.loop-level-init
loop-level-init c = sym (number-none c.args.field.now 0)

pub overflow_mul-number : goal.overflow_mul-number
overflow_mul-number c =
    let b = number-bound c.args.field.now 0 c.loop-level.level-index in
    let p = pow_below c.loop-level.level-index 18 (omega (arith, c.loop-level-test.true, c.requires)) in
    omega (arith, b, p, c.loop-level.invariant)

pub overflow_add-number : goal.overflow_add-number
overflow_add-number c =
    let b = number-bound c.args.field.now 0 c.loop-level.level-index in
    let p = pow_below c.loop-level.level-index 18 (omega (arith, c.loop-level-test.true, c.requires)) in
    omega (arith, b, p, c.loop-level.invariant, c.digit_of.ensures.few)

pub loop-level-preserved : goal.loop-level-preserved
loop-level-preserved c =
    let n = number-next c.args.field.now 0 c.loop-level.level-index in
    let first : 0 + c.loop-level.level-index ≡ c.loop-level.level-index = omega arith in
    let e : c.digit_of.result ≡ digit (get_or c.args.field.now (0 + c.loop-level.level-index) false) =
    c.digit_of.ensures.value ∙ ap (λ i. digit (get_or c.args.field.now i false)) (sym first) in
    omega (arith, n, e, c.loop-level.invariant)

pub returns-clause-range : goal.returns-clause-range
returns-clause-range c =
    let e : c.loop-level.level-index ≡ length c.args.field.now =
    omega (arith, c.loop-level-test.false, c.loop-level.auto.level-index-end) in
    let b = number-bound c.args.field.now 0 c.loop-level.level-index in
    omega (arith, c.loop-level.invariant, b, ap (λ k. 2 ^ k) e)
