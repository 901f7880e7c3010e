-- The rule stays when a part is given away.
use Rattle.std.proofs.Common.{◌<◌, subst, sym}
use Rattle.crossbeam_queue.specs.Passes.{view}
use Rattle.gw_pool.specs.Pool.{PoolPlace}
use Rattle.gw_pool.proofs.Fair.{forks}
use Rattle.gw_pool.proofs.pool.PoolSeat.recruit.Goals as goal

pub another-pass-requires-clause-rule : goal.another-pass-requires-clause-rule
another-pass-requires-clause-rule g c =
    forks g.X.Placed.place _ (view c.self.inside.pass)
    (subst (λ (s : PoolPlace). 1 < s.account.parts) (sym c.self.view_is) c.requires)
