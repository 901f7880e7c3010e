-- A byte has two digits.
use Rattle.std.proofs.Common.{arith, append_assoc}
use Rattle.gw_script.proofs.Hexadecimal.{two-digits, PAIRS_at}
use Rattle.gw_script.proofs.frame_text.push_byte.Goals as goal

pub returns-clause-items : goal.returns-clause-items
returns-clause-items c =
    rw (
      two-digits c.args.byte (omega arith),
      c.push-2.ensures.items,
      c.push.ensures.items,
      (PAIRS_at c.args.byte (omega arith)).0,
      (PAIRS_at c.args.byte (omega arith)).1,
      append_assoc,
    )
