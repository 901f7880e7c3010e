-- The rule stays when a call is noted.
use Rattle.bx_rx.proofs.Relays.{forks_aside, notes}
use Rattle.bx_rx.proofs.rx_in.RxIn.note_none.Goals as goal

pub another-aside-requires-clause-rule : goal.another-aside-requires-clause-rule
another-aside-requires-clause-rule c = forks_aside _ _

pub absorb-requires-clause-rule : goal.absorb-requires-clause-rule
absorb-requires-clause-rule c = notes _ _ _ _
