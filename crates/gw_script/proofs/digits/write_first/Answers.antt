-- One digit or two.
use Rattle.std.proofs.Common.{◌≡◌, ◌+◌, ◌-◌, arith}
use Rattle.std.proofs.lemmas.Fmt.{decimal_digit}
use Rattle.std.proofs.lemmas.List.{drop-set}
use Rattle.gw_script.proofs.Decimal.{decimal_two, length_one, length_two}
use Rattle.gw_script.proofs.digits.write_first.Goals as goal

pub overflow_sub-digits : goal.overflow_sub-digits
overflow_sub-digits c = omega (arith, length_one c.args.number c.if-number-lt10.true)

pub bounds-digits-end : goal.bounds-digits-end
bounds-digits-end c = omega (arith, length_one c.args.number c.if-number-lt10.true)

pub overflow_sub-result : goal.overflow_sub-result
overflow_sub-result c = omega (arith, length_one c.args.number c.if-number-lt10.true)

pub returns-then-number-lt10-clause-written : goal.returns-then-number-lt10-clause-written
returns-then-number-lt10-clause-written c =
    let one = length_one c.args.number c.if-number-lt10.true in
    let e : c.args.end - 1 + 1 ≡ c.args.end = omega arith in
    rw (
      drop-set c.args.digits.now (c.args.end - 1) _ (omega arith),
      e,
      decimal_digit c.args.number c.if-number-lt10.true,
    )

pub overflow_sub-end : goal.overflow_sub-end
overflow_sub-end c = omega (arith, length_two c.args.number c.if-number-lt10.false c.requires.few)

pub write_pair-requires-clause-room : goal.write_pair-requires-clause-room
write_pair-requires-clause-room c = omega (arith, length_two c.args.number c.if-number-lt10.false c.requires.few)

pub overflow_sub-result-2 : goal.overflow_sub-result-2
overflow_sub-result-2 c = omega (arith, length_two c.args.number c.if-number-lt10.false c.requires.few)

pub returns-clause-written : goal.returns-clause-written
returns-clause-written c =
    let two = length_two c.args.number c.if-number-lt10.false c.requires.few in
    let e : c.args.end - 2 + 2 ≡ c.args.end = omega arith in
    rw (c.write_pair.ensures, e, decimal_two c.args.number c.if-number-lt10.false c.requires.few)
