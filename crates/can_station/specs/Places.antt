-- What a loop over the nodes of a segment does, place by place; and one over nodes and their ports.
use Rattle.std.specs.Prelude.{◌≡◌, ℕ, List, Some, slice_get, length}

-- each element made this step
pub record AtPlaces {M : Type 0} (Step : ℕ → M → M → Type 0) (old new : List M) : Type 0 where
  pub at : (k : ℕ) (a b : M) → slice_get old k ≡ Some a → slice_get new k ≡ Some b → Step k a b
  pub size : length new ≡ length old

-- each element made this step with the one at its place in the other list
pub record AtBoth {M P : Type 0} (Step : ℕ → M → M → P → P → Type 0) (old new : List M)
    (from to : List P) : Type 0 where
  pub at : (k : ℕ) (a b : M) (p q : P) → slice_get old k ≡ Some a → slice_get new k ≡ Some b →
      slice_get from k ≡ Some p → slice_get to k ≡ Some q → Step k a b p q
  pub size : length new ≡ length old
  pub size_too : length to ≡ length from
