-- The rule stays when a frame is released.
use Rattle.std.proofs.Common.{ap, ◌∙◌}
use Rattle.bx_rx.proofs.Relays.{releases_one, learns_released}
use Rattle.bx_rx.proofs.rx_out.RxOut.release.Goals as goal

pub is_empty_as-requires-clause-rule : goal.is_empty_as-requires-clause-rule
is_empty_as-requires-clause-rule g c = learns_released _ _ (ap (λ v. v.releases) c.self.invariant.2)

pub pop_as-requires-clause-rule : goal.pop_as-requires-clause-rule
pop_as-requires-clause-rule g c = let may = ap (λ v. v.releases) (c.is_empty_as.ensures.queue.1 ∙ c.self.invariant.2) in
    (releases_one _ _ may, learns_released _ _ may)
