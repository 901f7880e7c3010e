-- Things that come back to their places.
use Rattle.std.specs.Prelude.{◌≡◌, ℕ, ◌<◌, List, Option, Some, length, slice_get}

-- in each place stands what this relation ties to the one that was dealt there
pub record AreBack {X Y : Type 0} (Back : X → Y → Type 0) (dealt : List X) (slots : List (Option Y)) : Type 0 where
  pub at : (k : ℕ) (x : X) → slice_get dealt k ≡ Some x → (y : Y) × (slice_get slots k ≡ Some (Some y)) × Back x y
  pub size : length slots ≡ length dealt

-- each place has something
abbrev pub AreFull : {Y : Type 0} → List (Option Y) → Type 0
AreFull slots = (k : ℕ) → k < length slots → (y : _) × (slice_get slots k ≡ Some (Some y))
