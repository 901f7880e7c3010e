-- Sets of places of a list.
use Rattle.std.specs.Prelude.{◌≡◌, ◌≢◌, ℕ, ◌≤◌}
use Rattle.std.specs.Int.{bit_at}
use Rattle.can_station.specs.declared.place_set.PlaceSet.{PlaceSet}

-- this place is one of them
abbrev pub HasPlace : PlaceSet → ℕ → Type 0
HasPlace set k = bit_at set.bits k ≡ 1

-- none is
abbrev pub IsEmpty : PlaceSet → Type 0
IsEmpty set = (k : ℕ) → HasPlace set k → ⊥

-- the first place of the set
pub record IsFirst (place : ℕ) (set : PlaceSet) : Type 0 where
  pub has : HasPlace set place
  pub first : (k : ℕ) → HasPlace set k → place ≤ k

-- this place is the only one of the set
pub record IsOnly (place : ℕ) (set : PlaceSet) : Type 0 where
  pub has : HasPlace set place
  pub no_others : (k : ℕ) → HasPlace set k → k ≡ place

-- the set with this place too
pub record IsWith (place : ℕ) (old new : PlaceSet) : Type 0 where
  pub has : HasPlace new place
  pub others : (k : ℕ) → k ≢ place → HasPlace old k → HasPlace new k
  pub no_others : (k : ℕ) → k ≢ place → HasPlace new k → HasPlace old k

-- the set without this place
pub record IsWithout (place : ℕ) (old new : PlaceSet) : Type 0 where
  pub has_not : HasPlace new place → ⊥
  pub others : (k : ℕ) → k ≢ place → HasPlace old k → HasPlace new k
  pub no_others : (k : ℕ) → HasPlace new k → HasPlace old k
