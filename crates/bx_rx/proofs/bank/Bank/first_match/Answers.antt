-- The two filters of a bank of 16 bits with masks.
use Rattle.bx_rx.specs.BankParts.{bank_view}
use Rattle.bx_rx.proofs.Places.{first_of_masks}
use Rattle.bx_rx.proofs.bank.Bank.first_match.Goals as goal

pub returns-in-Bits16-Mask : goal.returns-in-Bits16-Mask
returns-in-Bits16-Mask c = rw (← c.self.view_is)
    (first_of_masks (bank_view c.self.inside) _ _ _ _ _ _ _ _ _ c.in-Bits16-Mask.is-0 c.in-Bits16-Mask.is-1
    c.low.ensures c.high.ensures c.low-in-Bits16-Mask.ensures c.high-in-Bits16-Mask.ensures
    c.admits-in-Bits16-Mask.ensures c.admits-in-Bits16-Mask-2.ensures c.first_of-in-Bits16-Mask.ensures)
