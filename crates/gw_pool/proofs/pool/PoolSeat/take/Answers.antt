-- The rule stays when a baton is taken.
use Rattle.std.proofs.Common.{◌<◌, subst, sym}
use Rattle.crossbeam_queue.specs.Passes.{view}
use Rattle.gw_pool.specs.Pool.{PoolPlace}
use Rattle.gw_pool.proofs.Fair.{takes}
use Rattle.gw_pool.proofs.pool.PoolSeat.take.Goals as goal

pub try_pop_as-requires-clause-rule : goal.try_pop_as-requires-clause-rule
try_pop_as-requires-clause-rule g c =
    takes g.X.Placed.place _ (view c.self.inside.pass)
    (subst (λ (s : PoolPlace). 0 < s.account.parts) (sym c.self.view_is) c.requires)
