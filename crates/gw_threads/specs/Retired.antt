-- Workers' seats that came back to a pool.
use Rattle.std.specs.Prelude.{◌≡◌, ℕ, ◌+◌}
use Rattle.gw_pool.specs.declared.account.Account.{Account}
use Rattle.gw_pool.specs.Pool.{weigh}

-- So many seats, each with one part, came back: what they put they took.
pub record AreRetired (count : ℕ) (old new : Account) : Type 0 where
  pub parts_are : new.parts ≡ old.parts + count
  pub even : (h : ℕ → ℕ) → weigh h new.put + weigh h old.taken ≡ weigh h new.taken + weigh h old.put
