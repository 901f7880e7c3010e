-- The rule stays when a baton is taken, and tells the seat that has all parts what is left.
use Rattle.std.proofs.Common.{◌≡◌, arith, subst, sym}
use Rattle.crossbeam_queue.specs.Passes.{view}
use Rattle.gw_pool.specs.Pool.{PoolPlace}
use Rattle.gw_pool.proofs.Fair.{takes, learns}
use Rattle.gw_pool.proofs.pool.PoolSeat.collect.Goals as goal

pub pop_as-requires-clause-rule : goal.pop_as-requires-clause-rule
pop_as-requires-clause-rule g c =
    let v = view c.self.inside.pass in
    let all = subst (λ (s : PoolPlace). s.account.parts ≡ 1024) (sym c.self.view_is) c.requires in
    (takes g.X.Placed.place _ v (omega (arith, all)), learns g.X.Placed.place _ v)
