-- The masked comparison is the one bit by bit.
use Rattle.std.proofs.Common.{bit_and, eqb-true, eq-eqb}
use Rattle.bx_rx.proofs.Masks.{bits_agree, masks_agree}
use Rattle.bx_rx.proofs.bank.admits.Goals as goal

pub returns : goal.returns
returns c = let a = c.args in (
  λ same. bits_agree a.image a.identifier a.mask (eqb-true (bit_and a.image a.mask) (bit_and a.identifier a.mask) same),
  λ bits. eq-eqb (bit_and a.image a.mask) (bit_and a.identifier a.mask) (masks_agree a.image a.identifier a.mask bits),
)
