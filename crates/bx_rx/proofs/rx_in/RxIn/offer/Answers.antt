-- The rule stays when a frame is stored in a queue of three places.
use Rattle.std.proofs.Common.{ap, ◌∙◌}
use Rattle.crossbeam_queue.specs.Passes.{ruled_capacity}
use Rattle.bx_rx.proofs.Relays.{stores, learns_stored}
use Rattle.bx_rx.proofs.rx_in.RxIn.offer.Goals as goal

pub push_as-requires-clause-rule : goal.push_as-requires-clause-rule
push_as-requires-clause-rule g c = let may = ap (λ v. v.offers) c.self.invariant.2 in
    (stores _ _ _ _ (ap ruled_capacity c.deref.ensures ∙ c.self.invariant.1) may, learns_stored _ _ may)
