-- One digit more is read. At most eight digits are before it, so the number has room.
use Rattle.std.proofs.Common.{rules, arith}
use Rattle.gw_fields.proofs.Numerals.{next_fits, all_below, next_digits, next_number}
use Rattle.gw_fields.proofs.digits.number_in.Goals as goal

pub overflow_mul-number : goal.overflow_mul-number
overflow_mul-number c =
    let fits = next_fits c.args.radix c.args.digits.now c.loop-digit.digit-index c.loop-digit.number
    c.from-in-loop-digit.result c.from-in-loop-digit.ensures c.requires.high c.loop-digit-test.true c.requires.few
    c.loop-digit.invariant.digits c.loop-digit.invariant.number in
    omega (arith, fits)

pub overflow_add-number : goal.overflow_add-number
overflow_add-number c =
    let fits = next_fits c.args.radix c.args.digits.now c.loop-digit.digit-index c.loop-digit.number
    c.from-in-loop-digit.result c.from-in-loop-digit.ensures c.requires.high c.loop-digit-test.true c.requires.few
    c.loop-digit.invariant.digits c.loop-digit.invariant.number in
    omega (arith, fits, c.in-Some.ensures.value)

pub loop-digit-preserved : goal.loop-digit-preserved
loop-digit-preserved c = record {
  digits = next_digits c.args.radix c.args.digits.now c.loop-digit.digit-index c.from.result c.loop-digit-test.true
      (search rules) c.loop-digit.invariant.digits c.in-Some.ensures.value.0;
  number = next_number c.args.radix c.args.digits.now c.loop-digit.digit-index c.loop-digit.number c.from.result
      c.from-in-loop-digit-2.result c.from-in-loop-digit.result c.loop-digit-test.true (search rules)
      c.loop-digit.invariant.number (omega (arith, c.in-Some.ensures.value)) c.from-in-loop-digit.ensures;
}

pub returns-clause-range : goal.returns-clause-range
returns-clause-range c =
    all_below c.args.radix c.args.digits.now c.loop-digit.digit-index c.loop-digit.number c.loop-digit-test.false
    c.loop-digit.invariant.digits c.loop-digit.invariant.number
