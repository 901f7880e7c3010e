use Rattle.std.proofs.Common.{◌≡◌, ◌+◌, ◌%◌, set, arith, length-set}
use Rattle.std.proofs.lemmas.List.{set_comm, drop-set}
use Rattle.gw_script.proofs.Decimal.{PAIRS_at}
use Rattle.gw_script.proofs.digits.write_pair.Goals as goal

pub returns : goal.returns
returns c =
    let at = c.args.at in
    let digits = c.args.digits.now in
    let ones = 48 + c.args.pair % 10 in
    let e : at + 1 + 1 ≡ at + 2 = omega arith in
    let p = PAIRS_at c.args.pair c.requires.pair in
    rw (
      p.0,
      p.1,
      set_comm digits at (at + 1) _ _ (λ x. omega arith),
      drop-set (set digits (at + 1) ones) at _ (omega (arith, length-set digits (at + 1) ones)),
      drop-set digits (at + 1) _ (omega arith),
      e,
    )
