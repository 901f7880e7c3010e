-- The rule stays when a seat comes back.
use Rattle.std.proofs.Common.{◌<◌, subst, sym}
use Rattle.crossbeam_queue.specs.Passes.{view}
use Rattle.gw_pool.specs.Pool.{PoolPlace}
use Rattle.gw_pool.proofs.Fair.{merges}
use Rattle.gw_pool.proofs.pool.PoolSeat.retire.Goals as goal

pub absorb-requires-clause-rule : goal.absorb-requires-clause-rule
absorb-requires-clause-rule g c =
    merges g.X.Placed.place _ (view c.self.inside.pass) _ (view c.seat.inside.pass)
    (subst (λ (s : PoolPlace). 0 < s.account.parts) (sym c.self.view_is) c.requires.part)
