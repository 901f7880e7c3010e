-- The rule stays when one side takes in the other.
use Rattle.std.proofs.Common.{ap}
use Rattle.bx_rx.proofs.Relays.{merges}
use Rattle.bx_rx.proofs.rx_fifo.RxFifo.close.Goals as goal

pub absorb-requires-clause-rule : goal.absorb-requires-clause-rule
absorb-requires-clause-rule g c =
    merges _ _ _ _ (ap (λ v. v.offers) c.rxin.invariant.2) (ap (λ v. v.releases) c.rxout.invariant.2)
