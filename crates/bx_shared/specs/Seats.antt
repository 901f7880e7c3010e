-- What the seats at a controller's mailboxes are to their callers.
use Rattle.std.specs.Prelude.{◌≡◌, ◌⊎◌, ℕ, zero, suc, ◌+◌, ◌-◌, ◌<◌, Some, List}
use Rattle.std.specs.Prelude.{[], ◌∷◌, ◌++◌, Bool, true, false, slice_get, slice_set}
use Rattle.atomic_table.specs.Seated.{TableId}
use Rattle.atomic_table.specs.Table.{Me}
use Rattle.can_frame.specs.Frames.{FrameValue}
use Rattle.bx_core.specs.declared.entry.Entry.{Entry}
use Rattle.bx_core.specs.declared.point.Point.{Point}
use Rattle.bx_core.specs.declared.point.Point.TheVariants.{Look, Claim, Fill, Request, Withdraw}
use Rattle.bx_core.specs.Gate.{Passes}
use Rattle.bx_words.specs.Lanes.{lane_of, filling}
use Rattle.bx_shared.specs.declared.said.Said.{Said}
use Rattle.bx_shared.specs.declared.route_view.RouteView.{RouteView}
use Rattle.bx_shared.specs.declared.bus_view.BusView.{BusView}
use Rattle.bx_shared.specs.declared.view.View.{View}
use Rattle.bx_shared.specs.declared.request_answer.RequestAnswer.{RequestAnswer}
use Rattle.bx_shared.specs.declared.request_answer.RequestAnswer.TheVariants.{Taken, NoRoom, Contended}
use Rattle.bx_shared.specs.Steps.{part_of, bus_of, opening, opening_bus}

-- a seat at this table, which has the seven words
pub record IsAt (table theirs : TableId) : Type 0 where
  pub same : theirs ≡ table
  pub seven : table.words ≡ 7

-- this is the lowest empty mailbox of the word
pub record IsLowest (word mailbox : ℕ) : Type 0 where
  pub small : mailbox < 3
  pub empty : lane_of word mailbox ≡ 0
  pub lowest : (j : ℕ) → j < mailbox → ¬ (lane_of word j ≡ 0)

-- it has no empty mailbox
abbrev pub IsFull : ℕ → Type 0
IsFull word = (mailbox : ℕ) → mailbox < 3 → ¬ (lane_of word mailbox ≡ 0)

-- in both words the same mailboxes fill under the route
pub record SameFilling (route one other : ℕ) : Type 0 where
  pub on : (mailbox : ℕ) → mailbox < 3 → lane_of one mailbox ≡ filling route → lane_of other mailbox ≡ filling route
  pub back : (mailbox : ℕ) → mailbox < 3 → lane_of other mailbox ≡ filling route → lane_of one mailbox ≡ filling route

-- the seat is of the same route, aborted and asked are as before, and it fills no mailbox
pub record Rests (p q : RouteView) : Type 0 where
  pub route : q.route ≡ p.route
  pub aborted : q.aborted ≡ p.aborted
  pub asked : q.asked ≡ p.asked
  pub claims : q.claims ≡ false

abbrev pub entry : ℕ → FrameValue → Entry
entry number frame = record { number = number; frame = frame }

-- The seat looked once, and claimed the lowest empty mailbox of that word; all else that it knows of its requests is as
-- before.
pub record IsClaimed (p q : RouteView) (mailbox : ℕ) : Type 0 where
  pub route : q.route ≡ p.route
  pub requested : q.requested ≡ p.requested
  pub aborted : q.aborted ≡ p.aborted
  pub asked : q.asked ≡ p.asked
  pub last : q.last ≡ p.last
  pub claims : q.claims ≡ true
  pub is : q.mailbox ≡ mailbox
  pub looks : q.looks ≡ p.looks + 1
  pub lowest : IsLowest q.seen mailbox

-- The seat looked once more, and requested what it had stored.
pub record IsRequested (p q : RouteView) (e : Entry) : Type 0 where
  pub rests : Rests p q
  pub requested : q.requested ≡ p.requested ++ e ∷ []
  pub last : q.last ≡ slice_set p.last p.mailbox e.number
  pub looks : q.looks ≡ p.looks + 1
  pub before : q.before ≡ p.seen

-- Taken: requested grew by just this request, which was put into the lowest empty mailbox of the first of the two words
-- looked at
pub record IsTaken (p q : RouteView) (number : ℕ) (frame : FrameValue) (mailbox : ℕ) : Type 0 where
  pub requested : q.requested ≡ p.requested ++ entry number frame ∷ []
  pub last : q.last ≡ slice_set p.last mailbox number
  pub looks : q.looks ≡ p.looks + 2
  pub lowest : IsLowest q.before mailbox

-- NoRoom: one look was made, at a word with no empty mailbox
pub record IsNoRoom (p q : RouteView) : Type 0 where
  pub requested : q.requested ≡ p.requested
  pub last : q.last ≡ p.last
  pub looks : q.looks ≡ p.looks + 1
  pub full : IsFull q.seen

-- Contended: an exchange found this word in the place of the last one looked at; the same mailboxes fill under the
-- route in both
pub record IsContended (p q : RouteView) (word : ℕ) : Type 0 where
  pub requested : q.requested ≡ p.requested
  pub last : q.last ≡ p.last
  pub found : q.found ≡ word
  pub differs : ¬ (word ≡ q.seen)
  pub same : SameFilling p.route q.seen word

-- the seat looked once, or once more, and lost the exchange that followed
pub record IsLost (p q : RouteView) (word : ℕ) : Type 0 where
  pub rests : Rests p q
  pub contended : IsContended p q word
  pub looks : q.looks ≡ p.looks + 1

-- the answer to a request that claimed no mailbox
abbrev pub IsUnclaimed : RouteView → RouteView → RequestAnswer → Type 0
IsUnclaimed p q (Taken mailbox) = ⊥
IsUnclaimed p q NoRoom = Rests p q × IsNoRoom p q
IsUnclaimed p q (Contended word) = IsLost p q word

-- what an answer to a request says of the seat before and after
abbrev pub Answers : RouteView → RouteView → ℕ → FrameValue → RequestAnswer → Type 0
Answers p q number frame (Taken mailbox) = Rests p q × IsTaken p q number frame mailbox
Answers p q number frame NoRoom = Rests p q × IsNoRoom p q
Answers p q number frame (Contended word) = Rests p q × IsContended p q word

-- the points that a request passes up to its claim, and up to its request
abbrev pub to_claim : List Point
to_claim = Look ∷ Claim ∷ []

abbrev pub to_request : List Point
to_request = Look ∷ Claim ∷ Fill ∷ Fill ∷ Look ∷ Request ∷ []

-- what the gate heard where no mailbox was claimed
abbrev pub HearsUnclaimed : {G : Type 0} → (G → List Point → Type 0) → RequestAnswer → G → G → Type 0
HearsUnclaimed may_have_heard (Taken mailbox) old new = ⊥
HearsUnclaimed may_have_heard NoRoom old new = Passes may_have_heard (Look ∷ []) old new
HearsUnclaimed may_have_heard (Contended word) old new = Passes may_have_heard to_claim old new

-- what the gate heard of a request with this answer: an exchange that is lost is the claim, at the first look, or the
-- request, at the second, and then the claim is given back
abbrev pub Hears : {G : Type 0} → (G → List Point → Type 0) → RouteView → RouteView → RequestAnswer → G → G → Type 0
Hears may_have_heard p q (Taken mailbox) old new = Passes may_have_heard to_request old new
Hears may_have_heard p q NoRoom old new = Passes may_have_heard (Look ∷ []) old new
Hears may_have_heard p q (Contended word) old new = ((q.looks ≡ p.looks + 1) × Passes may_have_heard to_claim old new)
    ⊎ ((q.looks ≡ p.looks + 2) × Passes may_have_heard (to_request ++ Withdraw ∷ []) old new)

-- a route's seat: the mailboxes that it is at, and what it knows
pub record RoutePlace : Type 0 where
  pub table : TableId
  pub part : RouteView

-- the bus's seat: the mailboxes, their priority (true is TXFP set), what it knows, and the places that no route's seat
-- has
pub record BusPlace : Type 0 where
  pub table : TableId
  pub txfp : Bool
  pub bus : BusView
  pub routes : List RouteView

abbrev pub route_place : TableId → Me Said View → RoutePlace
route_place table me = record { table = table; part = part_of me }

abbrev pub bus_place : TableId → Bool → Me Said View → BusPlace
bus_place table txfp me = record { table = table; txfp = txfp; bus = bus_of me; routes = me.0.routes }

-- the places of the last n of eight routes, as they begin
abbrev pub openings : ℕ → List RouteView
openings zero = []
openings (suc n) = opening (7 - n) ∷ openings n

-- these are new seats at one table, of the first routes in order
abbrev pub AreDealt : TableId → List RoutePlace → Type 0
AreDealt table seats = (route : ℕ) (s : RoutePlace) → slice_get seats route ≡ Some s → (s.table ≡ table)
    × (s.part ≡ opening route)

-- a new bus's seat for so many routes
pub record IsNewBus (txfp : Bool) (routes : ℕ) (b : BusPlace) : Type 0 where
  pub priority : b.txfp ≡ txfp
  pub bus : b.bus ≡ opening_bus txfp
  pub others : b.routes ≡ openings (8 - routes)
