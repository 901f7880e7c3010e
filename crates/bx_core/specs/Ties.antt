-- What the sides of mailboxes did, once all of them are together again (RM0008, bxCAN, "Transmission handling").
use Rattle.std.specs.Prelude.{◌≡◌, ◌⊎◌, ℕ, ◌≤◌, ◌==◌, Bool, Some, List, [], ◌∷◌, slice_get, if◌then◌else◌}
use Rattle.bx_core.specs.declared.entry.Entry.{Entry}
use Rattle.bx_core.specs.declared.left.Left.{Left}
use Rattle.bx_core.specs.declared.waiting.Waiting.{Waiting}
use Rattle.bx_core.specs.Law.{IsRouteLawful}
use Rattle.bx_core.specs.Lists.{Each, Has}
use Rattle.bx_core.specs.RouteTx.{RoutePast, no_route_past}
use Rattle.bx_core.specs.Stands.{entries_of, numbers_of}
use Rattle.bx_core.specs.States.{RouteLists, numbers}
use Rattle.bx_core.specs.TxBus.{BusPast}

-- these are the sides of the routes of one set of mailboxes, in order
abbrev pub AreSides : {B S : Type 0} (side_of : B → ℕ → S → Type 0) → B → List S → Type 0
AreSides side_of bus sides = (route : ℕ) (s : _) → slice_get sides route ≡ Some s → side_of bus route s

-- none of them did anything yet
abbrev pub AreNew : {S : Type 0} (after : S → RoutePast → Type 0) → List S → Type 0
AreNew after sides = (route : ℕ) (s : _) → slice_get sides route ≡ Some s → after s no_route_past

-- a request that waits, as closing leaves it
abbrev pub as_left : Waiting → Left
as_left w = record { route = w.route; number = w.number; frame = w.frame }

-- a route's own requests among those that are left, in their order
abbrev pub left_of : ℕ → List Left → List Entry
left_of route [] = []
left_of route (x ∷ xs) = if x.route == route then record { number = x.number; frame = x.frame } ∷ left_of route xs
    else left_of route xs

-- What the bus side did of a route's requests is tied to what the route did, where these requests of it wait at the
-- end.
pub record RouteTied (txfp : Bool) (route : ℕ) (bus : BusPast) (past : RoutePast) (waiting : List Entry) : Type 0 where
  -- what became of the requests
  pub lists : RouteLists
  -- what was requested is what the route requested; what is done and reaped is what the bus side sent and reaped of it
  pub requested_is : lists.requested ≡ past.requested
  pub done_is : lists.done ≡ entries_of route bus.done
  pub reaped_is : lists.reaped ≡ numbers_of route bus.reaped
  -- they keep the core law: each request is in exactly one of done, aborted, reaped and waiting
  pub law : IsRouteLawful txfp lists (numbers waiting)
  -- what waits was requested, with that frame
  pub waiting_known : Each (Has past.requested) waiting
  -- what was aborted was answered so, or asked for; what was reaped was asked for
  pub ended : (n : ℕ) → Has lists.aborted n → Has past.aborted n ⊎ Has past.asked n
  pub reaped_asked : (n : ℕ) → Has lists.reaped n → Has past.asked n
  -- each transmission that was started is one of a request
  pub starts : (e : Entry) → Has (entries_of route bus.started) e → Has past.requested e

-- so it is for each route, whatever the sides did
abbrev pub AllTied : {B S : Type 0} (bus_after : B → BusPast → Type 0) (route_after : S → RoutePast → Type 0) → Bool →
    B → List S → List Left → Type 0
AllTied bus_after route_after txfp bus sides left = (route : ℕ) (s : _) (did : BusPast) (past : RoutePast) →
    slice_get sides route ≡ Some s →
    bus_after bus did → route_after s past → RouteTied txfp route did past (left_of route left)

-- the bus side did nothing for a route of this number, and nothing of it is left
pub record NothingOf (route : ℕ) (bus : BusPast) (left : List Left) : Type 0 where
  pub none_started : entries_of route bus.started ≡ []
  pub none_done : entries_of route bus.done ≡ []
  pub none_reaped : numbers_of route bus.reaped ≡ []
  pub none_left : left_of route left ≡ []

-- so it is for each number that no route has
abbrev pub NothingBeyond : {B : Type 0} (bus_after : B → BusPast → Type 0) → ℕ → B → List Left → Type 0
NothingBeyond bus_after routes bus left = (did : BusPast) → bus_after bus did → (route : ℕ) → routes ≤ route →
    NothingOf route did left
