-- Eight digits of an extended identifier, three of a standard one.
use Rattle.std.proofs.Common.{◌≡◌, ◌/◌, ◌%◌, ◌<◌, arith, append_assoc}
use Rattle.gw_script.proofs.Hexadecimal.{extended-text, standard-text, standard-fits, eight-digits, three-digits}
use Rattle.gw_script.proofs.Hexadecimal.{PAIRS_at}
use Rattle.gw_script.proofs.frame_text.push_identifier.Goals as goal

pub returns-then-is_extended-clause-items : goal.returns-then-is_extended-clause-items
returns-then-is_extended-clause-items c =
    rw (
      extended-text c.args.id c.if-is_extended.ensures,
      ← c.number-number.ensures.value,
      eight-digits c.number-number.result (omega arith),
      c.push_byte-then-is_extended-3.ensures.items,
      c.push_byte-then-is_extended-2.ensures.items,
      c.push_byte-then-is_extended.ensures.items,
      c.push_byte.ensures.items,
    )
    (simp append_assoc)

pub returns-else-is_extended-clause-items : goal.returns-else-is_extended-clause-items
returns-else-is_extended-clause-items c =
    let fits = standard-fits c.args.id c.if-is_extended.ensures c.facts.ensures in
    let few : c.number-number.result < 4096 = omega (arith, fits, c.number-number.ensures.value) in
    let low : c.number-number.result / 256 % 16 ≡ c.number-number.result / 256 = omega arith in
    rw (
      standard-text c.args.id c.if-is_extended.ensures,
      ← c.number-number.ensures.value,
      three-digits c.number-number.result few,
      c.push_byte-else-is_extended.ensures.items,
      c.push.ensures.items,
      (PAIRS_at (c.number-number.result / 256) (omega arith)).1,
      low,
      append_assoc,
    )
