-- Which request goes first, by the control word.
use Rattle.std.specs.Prelude.{◌≡◌, ℕ, ◌<◌, ◌⊎◌, List, slice_index}
use Rattle.bx_words.specs.Lanes.{IsRequested, IsOlder}

-- mailbox m holds a request that is older than that in each other mailbox that holds one
pub record IsOldest (w m : ℕ) : Type 0 where
  pub small : m < 3
  pub requested : IsRequested w m
  pub oldest : (j : ℕ) → j < 3 → ¬ (j ≡ m) → IsRequested w j → IsOlder w m j

abbrev pub HasNoOldest : ℕ → Type 0
HasNoOldest w = (m : ℕ) → ¬ IsOldest w m

-- by key, and of equal keys by mailbox
abbrev pub GoesBefore : List ℕ → ℕ → ℕ → Type 0
GoesBefore keys i j = (slice_index keys i < slice_index keys j) ⊎ (slice_index keys i ≡ slice_index keys j) × (i < j)

-- of the mailboxes below n, mailbox m holds the request with the least (key, mailbox)
pub record IsLeastOf (n w : ℕ) (keys : List ℕ) (m : ℕ) : Type 0 where
  pub small : m < n
  pub requested : IsRequested w m
  pub least : (j : ℕ) → j < n → ¬ (j ≡ m) → IsRequested w j → GoesBefore keys m j

-- none of the mailboxes below n holds a request
abbrev pub NoneRequested : ℕ → ℕ → Type 0
NoneRequested n w = (m : ℕ) → m < n → ¬ IsRequested w m
