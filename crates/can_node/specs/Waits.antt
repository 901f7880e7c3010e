-- Waiting for runs of eleven recessive levels: a node that is switched on, and one in bus off. Bosch CAN
-- Specification 2.0, part B, 8 FAULT CONFINEMENT; ISO 11898-1.
use Rattle.std.specs.Prelude.{ℕ, suc, ◌<◌, Bool, false, List, [], ◌∷◌, ◌++◌}
use Rattle.can_node.specs.Pairs.{recessive}

-- runs of fewer than eleven recessive levels, each ended by a dominant one
pub data Broken : List Bool → Type 0 where
  none : Broken []
  again : {text : List Bool} → Broken text → (n : ℕ) → n < 11 → Broken (text ++ recessive n ++ false ∷ [])

-- so many runs of eleven recessive levels that do not overlap
pub data Recoveries : ℕ → List Bool → Type 0 where
  no_run : Recoveries 0 []
  one_more : {n : ℕ} {text broken : List Bool} → Recoveries n text → Broken broken →
      Recoveries (suc n) (text ++ broken ++ recessive 11)
