-- What of a route goes to its thread, and what stays at home.
use Rattle.std.specs.Prelude.{◌≡◌, ℕ, ◌≤◌, ◌<◌, Option, Some, List, length, slice_get}
use Rattle.gw_opening.specs.declared.lane.Lane.{Lane}
use Rattle.gw_site.specs.Pairs.{Pairs}
use Rattle.gw_pool.specs.declared.courier.Courier.{Courier}
use Rattle.gw_threaded.specs.declared.lead.Lead.{Lead}

-- where a route comes from and where it leads to
abbrev pub lead_of : Lane → Lead
lead_of lane = record { source = lane.source; fifo = lane.fifo; target = lane.target; number = lane.number }

-- something stands at each of the first places
abbrev pub AreThere : {X : Type 0} → ℕ → List (Option X) → Type 0
AreThere {X} count slots = (k : ℕ) → k < count → (x : X) × (slice_get slots k ≡ Some (Some x))

-- a route goes to its thread with its hand, and with the side and the gate that stand at its place
pub record IsCourierOf {S G : Type 0} (seats : List (Option S)) (gates : List (Option G)) (k : ℕ) (lane : Lane)
    (courier : Courier S G) : Type 0 where
  pub hand_is : courier.hand ≡ lane.hand
  pub side_there : slice_get seats k ≡ Some (Some courier.side)
  pub gate_there : slice_get gates k ≡ Some (Some courier.gate)

-- each route has parted
pub record HaveParted {S G : Type 0} (seats : List (Option S)) (gates : List (Option G)) (lanes : List Lane)
    (leads : List Lead) (couriers : List (Courier S G)) : Type 0 where
  pub leads_are : Pairs (λ k lane lead. lead ≡ lead_of lane) lanes leads
  pub couriers_are : Pairs (IsCourierOf seats gates) lanes couriers

-- each route goes to its thread with the gate at its place in this list
abbrev pub HaveGates : {S G : Type 0} → List G → List (Courier S G) → Type 0
HaveGates gates couriers = Pairs (λ k gate courier. courier.gate ≡ gate) gates couriers

-- a route is together again: its hand is that of the courier, and it comes from and leads to where it did
pub record IsLaneFrom {S G : Type 0} (leads : List Lead) (k : ℕ) (courier : Courier S G) (lane : Lane) : Type 0 where
  pub hand_is : lane.hand ≡ courier.hand
  pub lead_is : slice_get leads k ≡ Some (lead_of lane)

-- all places but the first ones are as they were
pub record LeavesBehind {X : Type 0} (count : ℕ) (old new : List (Option X)) : Type 0 where
  pub others : (place : ℕ) → count ≤ place → slice_get new place ≡ slice_get old place
  pub size : length new ≡ length old

-- the side of each courier stands at its place, and the other places are as they were
pub record HaveCome {S G : Type 0} (couriers : List (Courier S G)) (old new : List (Option S)) : Type 0 where
  pub at : (k : ℕ) (courier : Courier S G) → slice_get couriers k ≡ Some courier →
      slice_get new k ≡ Some (Some courier.side)
  pub leaves : LeavesBehind (length couriers) old new
