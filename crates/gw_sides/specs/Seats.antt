-- Where the sides of all mailboxes of a run are kept while they are together.
use Rattle.std.specs.Prelude.{◌≡◌, ◌≢◌, ℕ, ◌+◌, ◌<◌, Option, None, Some, List, length, slice_get}
use Rattle.gw_config.specs.Nodes.{controller_places, route_at}
use Rattle.gw_config.specs.Scripts.{ScriptValue}
use Rattle.gw_opening.specs.Openings.{routes_at}

abbrev pub seat_from : ℕ → Option ℕ → ℕ
seat_from spare None = spare
seat_from spare (Some route) = route

-- the place of the side of this number at a controller: that of the route which has the number there; or, behind all
-- routes, the controller's own, where no route leads into it
abbrev pub seat_of : ScriptValue → ℕ → ℕ → ℕ
seat_of s controller number = seat_from (length s.routes + controller) (route_at s controller number)

-- there is a place for each route and each controller
abbrev pub HasSeats : {S : Type 0} → ScriptValue → List (Option S) → Type 0
HasSeats s seats = length seats ≡ length s.routes + length s.controllers

-- the sides of a controller's mailboxes stand at their places
pub record HoldsAll {S : Type 0} (s : ScriptValue) (controller : ℕ) (sides : List S)
    (seats : List (Option S)) : Type 0 where
  pub at : (number : ℕ) (side : S) → slice_get sides number ≡ Some side →
      slice_get seats (seat_of s controller number) ≡ Some (Some side)

-- this is no place of this controller's sides
abbrev pub IsElsewhere : ScriptValue → ℕ → ℕ → Type 0
IsElsewhere s controller place = (number : ℕ) → number < routes_at s controller → place ≢ seat_of s controller number

-- all other places are as they were
pub record Leaves {S : Type 0} (s : ScriptValue) (controller : ℕ) (old new : List (Option S)) : Type 0 where
  pub others : (place : ℕ) → IsElsewhere s controller place → slice_get new place ≡ slice_get old place
  pub size : length new ≡ length old

-- all places but those of the controllers on this segment are as they were
pub record LeavesOn {S : Type 0} (s : ScriptValue) (segment : ℕ) (old new : List (Option S)) : Type 0 where
  pub others : (place : ℕ) → ((k controller : ℕ) → slice_get (controller_places s segment) k ≡ Some controller →
      IsElsewhere s controller place) → slice_get new place ≡ slice_get old place
  pub size : length new ≡ length old

-- each side of a controller's mailboxes stands at its place, and has this relation to them and to its number
abbrev pub Seated : {B S : Type 0} (Rel : B → ℕ → S → Type 0) → ScriptValue → ℕ → B → List (Option S) → Type 0
Seated Rel s controller mail seats = (number : ℕ) → number < routes_at s controller → (side : _)
    × (slice_get seats (seat_of s controller number) ≡ Some (Some side)) × Rel mail number side
