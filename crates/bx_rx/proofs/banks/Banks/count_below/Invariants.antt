-- The filters of the banks passed so far, four a bank at most.
use Rattle.std.proofs.Common.{◌≡◌, ◌*◌, ◌≤◌, take}
use Rattle.bx_rx.specs.Banks.{count_of}
use Rattle.bx_rx.proofs.banks.Banks.count_below.Given as goal

abbrev pub invariant-loop-bank : goal.invariant-loop-bank
invariant-loop-bank l = (l.count ≡ count_of l.fifo (take l.bank-index l.bank-items)) × (l.count ≤ 4 * l.bank-index)
