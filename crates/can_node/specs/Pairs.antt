-- What a node drives and samples, bit by bit. False is dominant, true is recessive.
use Rattle.std.specs.Prelude.{ℕ, Bool, true, false, List, [], ◌∷◌, map, replicate}

-- one bit: what the node drives, and what it samples
pub record Pair : Type 0 where
  pub driven : Bool
  pub sampled : Bool

-- a node that drives recessive while it samples these levels
abbrev pub listening : List Bool → List Pair
listening = map (λ level. record { driven = true; sampled = level })

-- a node that drives dominant while it samples these levels
abbrev pub dominating : List Bool → List Pair
dominating = map (λ level. record { driven = false; sampled = level })

-- a node that drives the first levels while it samples the second ones
abbrev pub driving : List Bool → List Bool → List Pair
driving [] levels = []
driving (driven ∷ more) [] = []
driving (driven ∷ more) (sampled ∷ levels) = record { driven = driven; sampled = sampled } ∷ driving more levels

-- so many recessive levels, and so many dominant ones
abbrev pub recessive : ℕ → List Bool
recessive n = replicate n true

abbrev pub dominant : ℕ → List Bool
dominant n = replicate n false
