-- How many requests of each route were sent and reaped.
use Rattle.std.specs.Prelude.{◌≡◌, ℕ, ◌<◌, List, length, slice_index}
use Rattle.bx_core.specs.TxBus.{Item}
use Rattle.bx_core.specs.Stands.{entries_of, numbers_of}
use Rattle.bx_shared.specs.declared.tally.Tally.{Tally}

-- these are the counts of what was sent, and of what was reaped, of each of eight routes
pub record IsTally (done : List Item) (reaped : List (ℕ × ℕ)) (t : Tally) : Type 0 where
  pub eight : (length t.done ≡ 8) × (length t.reaped ≡ 8)
  pub done_is : (route : ℕ) → route < 8 → slice_index t.done route ≡ length (entries_of route done)
  pub reaped_is : (route : ℕ) → route < 8 → slice_index t.reaped route ≡ length (numbers_of route reaped)
