-- Each pair is written in front of those behind it.
use Rattle.std.proofs.Common.{◌≡◌, ◌+◌, ◌-◌, refl, arith, append_assoc}
use Rattle.std.proofs.lemmas.Fmt.{length-decimal-le}
use Rattle.gw_script.proofs.Decimal.{decimal_pair, length_pair}
use Rattle.gw_script.proofs.digits.write_digits.Goals as goal

pub loop-left-init : goal.loop-left-init
loop-left-init c = record {
  room = omega (arith, length-decimal-le 20 c.args.number (omega arith) (omega arith) (omega arith));
  at = omega arith;
  written = refl;
}

pub overflow_sub-at : goal.overflow_sub-at
overflow_sub-at c = omega (arith, length_pair c.loop-left.left c.loop-left-test.true (omega arith))

pub loop-left-preserved : goal.loop-left-preserved
loop-left-preserved c =
    let l = c.loop-left in
    let long = length_pair l.left c.loop-left-test.true (omega arith) in
    let e : l.at - 2 + 2 ≡ l.at = omega arith in
    record {
      room = omega arith;
      at = omega arith;
      written = rw (c.write_pair.ensures, e)
          (rw (decimal_pair l.left c.loop-left-test.true (omega arith), append_assoc) at l.invariant.written);
    }
