use Rattle.std.proofs.Common.{rules, ◌*◌, ◌/◌, ◌%◌, ◌^◌, ◌<◌, bit_and, bit_xor, arith}
use Rattle.std.proofs.lemmas.Nat.{xor_lt}
use Rattle.can_frame.proofs.Bits.{next_either}
use Rattle.can_frame.proofs.crc.next_register.Goals as goal

pub returns-clause-fits : goal.returns-clause-fits
returns-clause-fits c =
    let register = c.args.register in
    let small : bit_and (register * 2 % 65536) 32767 < 2 ^ 15 = search rules in
    let one : bit_xor (register / 16384) c.from.result < 2 ^ 1 =
    xor_lt 1 (register / 16384) c.from.result (omega (arith, c.requires)) (search rules) in
    xor_lt 15 (bit_and (register * 2 % 65536) 32767) _ small (omega (arith, one))

pub returns-clause-step : goal.returns-clause-step
returns-clause-step c = rw c.from.ensures (next_either c.args.register c.args.level c.requires)
