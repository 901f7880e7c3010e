-- How the mailboxes end: the bus's seat takes all places back, seals the mailboxes, and tells what waits, the oldest
-- first.
use Rattle.std.specs.Prelude.{◌≡◌, ℕ, ◌+◌, ◌-◌, ◌*◌, ◌/◌, ◌<◌, ◌≤◌, Option, Some, None}
use Rattle.std.specs.Prelude.{List, [], ◌∷◌, ◌++◌, false, map, length, slice_get, slice_index}
use Rattle.std.proofs.Common.{◌∙◌, sym, ap}
use Rattle.atomic_table.specs.Table.{Me}
use Rattle.bx_core.specs.declared.left.Left.{Left}
use Rattle.bx_core.specs.declared.waiting.Waiting.{Waiting}
use Rattle.bx_core.specs.Lists.{Each, Has}
use Rattle.bx_core.specs.States.{State, RouteLists, claim_of, numbers}
use Rattle.bx_core.specs.Law.{Law, IsRouteLawful, Reached, count_at}
use Rattle.bx_core.specs.Stands.{entries_of, numbers_of}
use Rattle.bx_core.specs.TxBus.{label_of}
use Rattle.bx_core.specs.Ties.{as_left, left_of}
use Rattle.bx_words.specs.Lanes.{lane_of}
use Rattle.bx_words.specs.Payloads.{IsHeadOf, bytes_word}
use Rattle.bx_shared.specs.declared.said.Said.{Said}
use Rattle.bx_shared.specs.declared.closed.RouteCounts.{RouteCounts}
use Rattle.bx_shared.specs.declared.route_view.RouteView.{RouteView}
use Rattle.bx_shared.specs.declared.bus_view.BusView.{BusView}
use Rattle.bx_shared.specs.declared.view.View.{View}
use Rattle.bx_shared.specs.Marks.{waiting_lane}
use Rattle.bx_shared.specs.Shown.{AreOrdered, Shows, Fits, FitsBus}
use Rattle.bx_shared.specs.Steps.{Tells, bus_of}
use Rattle.bx_shared.specs.Seats.{BusPlace, RoutePlace}
use Rattle.bx_shared.specs.Calls.{SameMailboxes}
use Rattle.bx_shared.specs.Sides.{SameRoute}

-- this place is among these, and fills no mailbox
pub record IsIdleIn (rs : List RouteView) (route : ℕ) : Type 0 where
  pub part : RouteView
  pub there : Has rs part
  pub route_is : part.route ≡ route
  pub idle : part.claims ≡ false

-- so it is with the places of all eight routes
abbrev pub AreAllIdle : List RouteView → Type 0
AreAllIdle rs = (route : ℕ) → route < 8 → IsIdleIn rs route

-- What the seat that holds every place knows: the state of the core that words and views show, with these requests
-- waiting.
pub record Ends (b : BusView) (rs : List RouteView) (es : List Waiting) (word : ℕ) : Type 0 where
  pub core : State
  pub words : List ℕ
  pub reached : Reached core
  pub law : Law core
  pub eight : length core.routes ≡ 8
  pub queue_is : core.queue ≡ es
  pub shows : Shows words core
  pub word_is : slice_index words 0 ≡ word
  pub bus : FitsBus core b
  pub parts : Each (Fits words core) rs

abbrev pub sealed_seat : BusView → List RouteView → List Waiting → Me Said View
sealed_seat b rs es = (record { buses = b ∷ []; routes = rs; sealed = Some es }, [])

-- a last look, by the seat that holds every place
abbrev pub Seals : Tells
Seals st me found next = (es : List Waiting) × (next ≡ sealed_seat (bus_of me) me.0.routes es)
    × Ends (bus_of me) me.0.routes es found

-- this payload word is of the request that waits in its mailbox
abbrev pub IsLast : List Waiting → ℕ → ℕ → Type 0
IsLast es place found = Each (λ w. (place ≡ 1 + 2 * w.mailbox → IsHeadOf w.frame w.number found)
    × (place ≡ 2 + 2 * w.mailbox → found ≡ bytes_word w.frame)) es

-- a payload word of sealed mailboxes
abbrev pub ReadsLast : Tells
ReadsLast st me found next = (next ≡ me) × ((es : List Waiting) → me.0.sealed ≡ Some es → IsLast es st.word found)

-- the requests that wait, as a seat that sealed the mailboxes knows them
abbrev pub list_in : Option (List Waiting) → List Waiting
list_in None = []
list_in (Some es) = es

abbrev pub waiting_in : Me Said View → List Waiting
waiting_in me = list_in me.0.sealed

-- by this word one of them is in this mailbox
pub record IsInMailbox (es : List Waiting) (word mailbox : ℕ) : Type 0 where
  pub request : Waiting
  pub there : Has es request
  pub mailbox_is : request.mailbox ≡ mailbox
  pub owner : lane_of word mailbox / 32 ≡ request.route

-- Some of the requests that wait were told, in their order; the lanes and the order bits of the word are those of the
-- rest.
pub record Remains (word : ℕ) (es : List Waiting) (left : List Left) : Type 0 where
  pub taken : List Waiting
  pub rest : List Waiting
  pub split : es ≡ taken ++ rest
  pub told : left ≡ map as_left taken
  pub lanes : (m : ℕ) → m < 3 → lane_of word m ≡ waiting_lane rest m
  pub order : AreOrdered word rest
  pub small : Each (λ w. w.mailbox < 3) rest
  pub apart : (m : ℕ) → count_at m rest ≤ 1

-- the seat is of the route of this number, at the same mailboxes
pub record IsSideOf (b : BusPlace) (route : ℕ) (s : RoutePlace) : Type 0 where
  pub table : s.table ≡ b.table
  pub route_is : s.part.route ≡ route

-- these are the counts of this route: the lengths of the lists of what its seat requested and aborted, and of what the
-- bus's seat sent and reaped of it
pub record IsCounted (b : BusPlace) (route : ℕ) (s : RoutePlace) (c : RouteCounts) : Type 0 where
  pub requested : c.requested ≡ length s.part.requested
  pub aborted : c.aborted ≡ length s.part.aborted
  pub done : c.done ≡ length (entries_of route b.bus.done)
  pub reaped : c.reaped ≡ length (numbers_of route (map label_of b.bus.reaped))

abbrev pub AreCounted : BusPlace → List RoutePlace → List RouteCounts → Type 0
AreCounted b sides counts = (route : ℕ) (s : RoutePlace) (c : RouteCounts) → slice_get sides route ≡ Some s →
    slice_get counts route ≡ Some c → IsCounted b route s c

-- what became of a route's requests, by what its seat and the bus's seat know: the very lists that are counted
abbrev pub lists_by : BusPlace → ℕ → RoutePlace → RouteLists
lists_by b route s = record {
  requested = s.part.requested;
  done = entries_of route b.bus.done;
  aborted = s.part.aborted;
  reaped = numbers_of route (map label_of b.bus.reaped);
}

-- Of each route these lists and what is left keep the core law: each number that was requested is in exactly one of
-- done, aborted, reaped and left, and these hold no other.
abbrev pub AreAccounted : BusPlace → List RoutePlace → List Left → Type 0
AreAccounted b sides left = (route : ℕ) (s : RoutePlace) → slice_get sides route ≡ Some s →
    IsRouteLawful b.txfp (lists_by b route s) (numbers (left_of route left))

-- of each route the four ways to end add up to its requests
abbrev pub AddUp : List RouteCounts → List Left → Type 0
AddUp counts left = (route : ℕ) (c : RouteCounts) → slice_get counts route ≡ Some c →
    c.requested ≡ c.done + c.aborted + c.reaped + length (left_of route left)

-- The mailboxes end in a state of the core to which accepted events led, which the words show and all seats know. No
-- mailbox is claimed. What is left are the requests that wait, in the order of request over all routes.
pub record HasEnded (b : BusPlace) (sides : List RoutePlace) (left : List Left) : Type 0 where
  pub core : State
  pub reached : Reached core
  pub priority : core.txfp ≡ b.txfp
  pub words : List ℕ
  pub shows : Shows words core
  pub bus : FitsBus core b.bus
  pub routes : (route : ℕ) (s : RoutePlace) → slice_get sides route ≡ Some s → Fits words core s.part
  pub unclaimed : (mailbox : ℕ) → claim_of core mailbox ≡ None
  pub left_is : left ≡ map as_left core.queue

-- for how many routes the mailboxes are
abbrev pub routes_of : BusPlace → ℕ
routes_of b = 8 - length b.routes

pub side-stays : (a b : BusPlace) (route : ℕ) (s : RoutePlace) → SameMailboxes a b → IsSideOf a route s →
    IsSideOf b route s
side-stays a b route s same h = record { table = h.table ∙ sym same.table; route_is = h.route_is }

pub side-moves : (a : BusPlace) (route : ℕ) (s t : RoutePlace) → SameRoute s t → IsSideOf a route s → IsSideOf a route t
side-moves a route s t same h = record { table = same.table ∙ h.table; route_is = same.route ∙ h.route_is }

pub routes-stay : (a b : BusPlace) → SameMailboxes a b → routes_of b ≡ routes_of a
routes-stay a b same = ap (λ (l : List RouteView). 8 - length l) same.routes

pub txfp-stays : (a b : BusPlace) → SameMailboxes a b → b.txfp ≡ a.txfp
txfp-stays a b same = same.priority
