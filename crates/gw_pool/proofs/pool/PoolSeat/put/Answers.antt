-- The rule stays when a baton is put.
use Rattle.std.proofs.Common.{◌<◌, arith, ap, subst, sym}
use Rattle.crossbeam_queue.specs.Passes.{view}
use Rattle.gw_pool.specs.declared.account.Account.{Account}
use Rattle.gw_pool.specs.Pool.{PoolPlace}
use Rattle.gw_pool.proofs.Fair.{puts}
use Rattle.gw_pool.proofs.pool.PoolSeat.put.Goals as goal

pub try_push_as-requires-clause-rule : goal.try_push_as-requires-clause-rule
try_push_as-requires-clause-rule g c =
    let some = subst (λ (s : PoolPlace). 0 < s.account.parts) (sym c.self.view_is) c.requires in
    puts g.X.Placed.place _ _ (view c.loop-try.self-inside.pass) _
    (omega (arith, some, ap (λ (v : Account). v.parts) c.loop-try.invariant.3))
