-- The rule begins with one side that has all, and stays when it is divided.
use Rattle.std.proofs.Common.{rules}
use Rattle.bx_rx.proofs.Relays.{begins, forks}
use Rattle.bx_rx.proofs.rx_fifo.sides.Goals as goal

pub ruled-requires-clause-rule : goal.ruled-requires-clause-rule
ruled-requires-clause-rule c = begins

pub another-releasing-requires-clause-rule : goal.another-releasing-requires-clause-rule
another-releasing-requires-clause-rule c = forks _ _ (search rules) (search rules)
