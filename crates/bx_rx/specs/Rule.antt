-- The rule of a FIFO's queue: what was stored is what was released and then what the queue holds, three
-- frames at most. One side alone may offer, and it has the list of what was stored; one side alone may
-- release, and it has the list of what was released.
use Rattle.std.specs.Prelude.{◌≡◌, ℕ, ◌≤◌, Bool, true, Option, List, ◌++◌, length}
use mathlib.Core.Option.{some}
use lib.ListN.{get_elem?}
use Rattle.bx_rx.specs.declared.log.Log.{Log}
use Rattle.bx_rx.specs.declared.rx_frame.RxFrame.{RxFrame}

abbrev pub log : Bool → Bool → List RxFrame → List RxFrame → List (Option RxFrame) → Log
log offers releases stored released calls =
    record { offers = offers; releases = releases; stored = stored; released = released; calls = calls }

-- the side with this number knows what it has to
abbrev pub Knows : ℕ → ℕ → List RxFrame → List RxFrame → ℕ → Log → Type 0
Knows offering releasing stored released side v = (v.offers ≡ true → (side ≡ offering) × (v.stored ≡ stored))
    × (v.releases ≡ true → (side ≡ releasing) × (v.released ≡ released))

abbrev pub Relays : List RxFrame → List Log → Type 0
Relays items views = (offering : ℕ) × (releasing : ℕ) × (stored : List RxFrame) × (released : List RxFrame)
    × (stored ≡ released ++ items) × (length items ≤ 3)
    × ((side : ℕ) (v : Log) → get_elem? views side ≡ some v → Knows offering releasing stored released side v)

-- what the offering side learns: the queue holds the last of what was stored
abbrev pub StoredFact : Log → List RxFrame → Type 0
StoredFact v items = (released : List RxFrame) × (v.stored ≡ released ++ items)

-- what the releasing side learns: something was stored, which is what was released and then what the queue holds
abbrev pub ReleasedFact : Log → List RxFrame → Type 0
ReleasedFact v items = (stored : List RxFrame) × (stored ≡ v.released ++ items) × (length items ≤ 3)
    × (v.offers ≡ true → v.stored ≡ stored)

-- what both learn together
abbrev pub TotalFact : Log → List RxFrame → Type 0
TotalFact v items = (v.stored ≡ v.released ++ items) × (length items ≤ 3)
