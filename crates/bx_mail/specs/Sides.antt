-- What contracts see of the sides of a post, and what they may have done (RM0008, bxCAN, "Transmission handling").
use Rattle.std.specs.Prelude.{◌≡◌, ℕ, ◌+◌, ◌≤◌, Bool, true, false, Option, Some, None, IfSome}
use Rattle.std.specs.Prelude.{◌-◌, List, [], ◌∷◌, ◌++◌, length, option_to_list, slice_get, slice_index, map}
use Rattle.atomic_table.specs.Seated.{TableId}
use Rattle.crossbeam_queue.specs.Fifo.{Held}
use Rattle.bx_core.specs.declared.waiting.Waiting.{Waiting}
use Rattle.bx_core.specs.declared.left.Left.{Left}
use Rattle.bx_core.specs.declared.answer.Sent.{Sent}
use Rattle.bx_core.specs.declared.answer.Sent.TheVariants.{Yes, NotNow}
use Rattle.bx_core.specs.declared.answer.AbortAnswer.{AbortAnswer}
use Rattle.bx_core.specs.declared.answer.AbortAnswer.TheVariants.{Ended, Asked, Gone, NotNow as NotAsked}
use Rattle.bx_core.specs.declared.point.Heard.{Heard}
use Rattle.bx_core.specs.declared.point.Heard.TheVariants.{Posted, Not}
use Rattle.bx_core.specs.Law.{Law}
use Rattle.bx_core.specs.Lists.{Each, Has}
use Rattle.bx_core.specs.RouteTx.{RoutePast}
use Rattle.bx_core.specs.Stands.{BusStands, RouteStands, entries_of, numbers_of}
use Rattle.bx_core.specs.States.{State}
use Rattle.bx_core.specs.Ties.{as_left, left_of}
use Rattle.bx_core.specs.TxBus.{BusPast}
use Rattle.bx_shared.specs.declared.closed.RouteCounts.{RouteCounts}
use Rattle.bx_shared.specs.declared.tally.Tally.{Tally}
use Rattle.bx_shared.specs.Tallies.{IsTally}
use Rattle.bx_mail.specs.declared.posting.Posting.{Posting}
use Rattle.bx_mail.specs.declared.posting.Asks.{Asks}
use Rattle.bx_mail.specs.Postings.{of, requests_in, aborts_in, lefts_in, IsRequest, AreOrderly}

-- the bus side: its queue, for how many routes it is, the posts that it took, the requests in its mailboxes, the oldest
-- first, the one aside, and how many requests of each route were sent and reaped
pub record BusSide : Type 0 where
  pub queue : TableId
  pub routes : ℕ
  pub got : List Posting
  pub boxes : List Waiting
  pub aside : Option Posting
  pub tally : Tally

-- the side of a route: its queue, its route, and what it posted
pub record RouteSide : Type 0 where
  pub queue : TableId
  pub route : ℕ
  pub sent : List Posting

-- The bus side may have done this. There is a mailbox core of which it is so: its requests wait in the mailboxes, what
-- each route asked of it is what was taken of that route's posts but for the one aside, and only what was asked to end
-- was aborted or reaped.
pub record Runs (v : BusSide) (past : BusPast) : Type 0 where
  pub core : State
  pub law : Law core
  pub order : core.txfp ≡ true
  pub free : core.claims ≡ None ∷ None ∷ None ∷ []
  pub routes : length core.routes ≡ v.routes
  pub boxes : core.queue ≡ v.boxes
  pub bus : BusStands core past
  pub asks : ℕ → RoutePast
  pub stands : (route : ℕ) → RouteStands core route (asks route)
  pub asked : (route : ℕ) → Each (Has (aborts_in (of route v.got))) (asks route).asked
  pub aborted : (route : ℕ) → Each (Has (aborts_in (of route v.got))) (asks route).aborted
  pub requested : (route : ℕ) → (asks route).requested
      ++ requests_in (of route (option_to_list v.aside)) ≡ requests_in (of route v.got)
  pub orderly : AreOrderly v.routes v.got
  pub aside : IfSome v.aside (λ (p : Posting). IsRequest p.what)

-- it may have done this, and its counts are of this
pub record HasRun (v : BusSide) (past : BusPast) : Type 0 where
  pub runs : Runs v past
  pub tally : IsTally past.done past.reaped v.tally

abbrev pub IsRunning : BusSide → Type 0
IsRunning v = (past : BusPast) × HasRun v past

-- The side of a route may have done this: what it requested and what it asked to end is what it posted, and nothing was
-- answered Ended.
pub record RouteRuns (s : RouteSide) (past : RoutePast) : Type 0 where
  pub requested : past.requested ≡ requests_in s.sent
  pub aborted : past.aborted ≡ []
  pub asked : past.asked ≡ aborts_in s.sent

-- what no call of a side changes
pub record BusKeeps (a b : BusSide) : Type 0 where
  pub queue : b.queue ≡ a.queue
  pub routes : b.routes ≡ a.routes

pub record RouteKeeps (a b : RouteSide) : Type 0 where
  pub queue : b.queue ≡ a.queue
  pub route : b.route ≡ a.route

-- of this bus side's post, this is the side of the route of this number
pub record IsSideOf (bus : BusSide) (route : ℕ) (s : RouteSide) : Type 0 where
  pub queue_is : s.queue ≡ bus.queue
  pub route_is : s.route ≡ route

-- a post behind those before it
abbrev pub posted : RouteSide → ℕ → Asks → RouteSide
posted s number what = record s { sent = s.sent ++ record { route = s.route; number = number; what = what } ∷ [] }

-- these are the last of what was posted: what the queue holds of the route
abbrev pub AreLastOf : RouteSide → List Posting → Type 0
AreLastOf s items = (got : List Posting) × (s.sent ≡ of s.route (got ++ items))

-- True: the post is the last one of the route. False: nothing is posted, and at one moment of the call the queue held
-- eight posts, as far as this side can know.
abbrev pub IsPosted : RouteSide → ℕ → Asks → Bool → RouteSide → Type 0
IsPosted before number what true after = after ≡ posted before number what
IsPosted before number what false after = (after ≡ before) × Held 8 (AreLastOf before)

-- a request's answer: Yes where it was posted, else NotNow
abbrev pub is_yes : Sent → Bool
is_yes Yes = true
is_yes NotNow = false

-- an abort's answer: Asked where it was posted, else NotNow, and there is no other
abbrev pub IsAbortAnswer : RouteSide → ℕ → Asks → AbortAnswer → RouteSide → Type 0
IsAbortAnswer before number what Asked after = IsPosted before number what true after
IsAbortAnswer before number what NotAsked after = IsPosted before number what false after
IsAbortAnswer before number what Ended after = ⊥
IsAbortAnswer before number what Gone after = ⊥

-- what a gate is told of the answer to a request
abbrev pub heard_as : Sent → Heard
heard_as Yes = Posted
heard_as NotNow = Not

-- a bus side for so many routes that took no post yet
pub record IsNewBus (routes : ℕ) (bus : BusSide) : Type 0 where
  pub routes_is : bus.routes ≡ routes
  pub none_taken : bus.got ≡ []
  pub none_waits : bus.boxes ≡ []
  pub none_aside : bus.aside ≡ None
  pub none_counted : IsTally [] [] bus.tally

-- the sides of routes in order, which posted nothing yet
abbrev pub AreNewSides : TableId → List RouteSide → Type 0
AreNewSides queue sides = (route : ℕ) (s : RouteSide) → slice_get sides route ≡ Some s → s ≡ record {
  queue = queue;
  route = route;
  sent = [];
}

-- Of these routes, in order, the posts that the bus side took and then these that were left are all that they posted.
pub record AreAll (bus : BusSide) (sides : List RouteSide) (posts : List Posting) : Type 0 where
  pub orderly : AreOrderly bus.routes (bus.got ++ posts)
  pub ended : (route : ℕ) (s : RouteSide) → slice_get sides route ≡ Some s → of route (bus.got ++ posts) ≡ s.sent

-- what is left in the mailboxes, aside and in these posts
abbrev pub left_with : BusSide → List Posting → List Left
left_with bus posts = (map as_left bus.boxes ++ lefts_in (option_to_list bus.aside)) ++ lefts_in posts

-- What is left: the requests in the mailboxes, the one aside, and those in the posts that the queue held.
pub record IsClosed (bus : BusSide) (sides : List RouteSide) (left : List Left) : Type 0 where
  pub posts : List Posting
  pub all : AreAll bus sides posts
  pub left_is : left ≡ left_with bus posts
  pub few : length left ≤ 12

-- The counts of a route: of what its side requested, and of what the bus side sent and reaped of it, whatever the bus
-- side did. These, what was aborted and what is left are all that the route requested.
pub record IsCounted (bus : BusSide) (route : ℕ) (s : RouteSide) (left : List Left) (c : RouteCounts) : Type 0 where
  pub requested : c.requested ≡ length (requests_in s.sent)
  pub done : (did : BusPast) → HasRun bus did → c.done ≡ length (entries_of route did.done)
  pub reaped : (did : BusPast) → HasRun bus did → c.reaped ≡ length (numbers_of route did.reaped)
  pub all : c.requested ≡ c.done + c.aborted + c.reaped + length (left_of route left)

-- these are the counts of each route, in order
abbrev pub AreCounted : BusSide → List RouteSide → List Left → List RouteCounts → Type 0
AreCounted bus sides left counts = (route : ℕ) (s : RouteSide) (c : RouteCounts) → slice_get sides route ≡ Some s →
    slice_get counts route ≡ Some c → IsCounted bus route s left c

-- the counts that the sides keep
pub record IsKept (tally : Tally) (route : ℕ) (s : RouteSide) (c : RouteCounts) : Type 0 where
  pub requested : c.requested ≡ length (requests_in s.sent)
  pub done : c.done ≡ slice_index tally.done route
  pub reaped : c.reaped ≡ slice_index tally.reaped route

abbrev pub AreKept : Tally → List RouteSide → List RouteCounts → Type 0
AreKept tally sides counts = (route : ℕ) (s : RouteSide) (c : RouteCounts) → slice_get sides route ≡ Some s →
    slice_get counts route ≡ Some c → IsKept tally route s c

-- the same counts, with what was aborted: what is neither sent, reaped nor left
pub record IsFilled (route : ℕ) (left : List Left) (a c : RouteCounts) : Type 0 where
  pub requested : c.requested ≡ a.requested
  pub done : c.done ≡ a.done
  pub reaped : c.reaped ≡ a.reaped
  pub aborted : c.aborted ≡ a.requested - a.done - a.reaped - length (left_of route left)

abbrev pub AreFilled : List Left → List RouteCounts → List RouteCounts → Type 0
AreFilled left kept counts = (route : ℕ) (a c : RouteCounts) → slice_get kept route ≡ Some a →
    slice_get counts route ≡ Some c → IsFilled route left a c
