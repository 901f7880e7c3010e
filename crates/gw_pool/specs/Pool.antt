-- A queue of batons: each that was put was taken, or is in the queue, as often as it was put.
use Rattle.std.specs.Prelude.{◌≡◌, ℕ, zero, suc, ◌+◌, List, [], ◌∷◌, ◌++◌, map}
use mathlib.Core.Option.{some}
use lib.ListN.{get_elem?}
use Rattle.atomic_table.specs.Seated.{TableId}
use Rattle.gw_pool.specs.declared.account.Account.{Account}

abbrev pub account : ℕ → List ℕ → List ℕ → Account
account parts put taken = record { parts = parts; put = put; taken = taken }

-- the weights of the places, added up
abbrev pub weigh : (ℕ → ℕ) → List ℕ → ℕ
weigh h [] = 0
weigh h (x ∷ xs) = h x + weigh h xs

-- f of each account, added up
abbrev pub total : (Account → ℕ) → List Account → ℕ
total f [] = 0
total f (v ∷ vs) = f v + total f vs

-- a seat with no part has put and taken nothing
abbrev pub IdleIsEmpty : List Account → Type 0
IdleIsEmpty views = (seat : ℕ) (v : Account) → get_elem? views seat ≡ some v → v.parts ≡ 0 → (v.put ≡ [])
    × (v.taken ≡ [])

-- what was put is what was taken and what the queue holds, however the places are weighed: so each place as often
abbrev pub Balanced : {X : Type 0} → (X → ℕ) → List X → List Account → Type 0
Balanced place items views =
    (total (λ v. v.parts) views ≡ 1024)
    × ((h : ℕ → ℕ) → total (λ v. weigh h v.put) views ≡ total (λ v. weigh h v.taken) views + weigh h (map place items))
    × IdleIsEmpty views

-- what the seat with all parts learns of what the queue holds
abbrev pub Remains : {X : Type 0} → (X → ℕ) → Account → List X → Type 0
Remains place v items = v.parts ≡ 1024 → (h : ℕ → ℕ) → weigh h v.put ≡ weigh h v.taken + weigh h (map place items)

-- it put what it took
abbrev pub IsEven : Account → Type 0
IsEven v = (h : ℕ → ℕ) → weigh h v.put ≡ weigh h v.taken

-- the first so many places
abbrev pub places : ℕ → List ℕ
places zero = []
places (suc n) = places n ++ n ∷ []

-- what was put beyond what was taken is a baton of each of the first so many places
abbrev pub IsOwed : ℕ → Account → Type 0
IsOwed n v = (h : ℕ → ℕ) → weigh h v.put ≡ weigh h v.taken + weigh h (places n)

-- what contracts see of a seat: the queue that it is at, and what it did there
pub record PoolPlace : Type 0 where
  pub queue : TableId
  pub account : Account

abbrev pub pool_place : TableId → Account → PoolPlace
pool_place queue done = record { queue = queue; account = done }

-- the seat of a worker at this queue: it has one part, and put what it took
pub record IsWorkerSeat (queue : TableId) (s : PoolPlace) : Type 0 where
  pub queue_is : s.queue ≡ queue
  pub part : s.account.parts ≡ 1
  pub even : IsEven s.account
