-- The best filter of the banks passed so far.
use Rattle.bx_rx.specs.Banks.{IsBest}
use Rattle.bx_rx.proofs.banks.Banks.best.Given as goal

abbrev pub invariant-loop-number : goal.invariant-loop-number
invariant-loop-number l = IsBest l.self-inside.banks l.frame l.number l.best
