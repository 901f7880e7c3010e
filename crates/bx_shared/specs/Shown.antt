-- What the seven words of a controller's mailboxes and the views of their seats show: a state of the mailbox core
-- (RM0008, bxCAN, "Transmission handling").
use Rattle.std.specs.Prelude.{Ok, ◌≡◌, ℕ, ◌+◌, ◌*◌, ◌/◌, ◌^◌, ◌<◌, ◌≤◌, Some, None}
use Rattle.std.specs.Prelude.{List, [], ◌∷◌, Bool, true, false, map, length, slice_index}
use Rattle.std.specs.List.{slice_index_or}
use mathlib.Core.Option.{some}
use lib.ListN.{get_elem?}
use Rattle.atomic_table.specs.Table.{State as Table}
use Rattle.bx_words.specs.Lanes.{lane_of, rest_of, IsOlder}
use Rattle.bx_words.specs.Payloads.{IsHead, IsHeadOf, ArePacked}
use Rattle.bx_core.specs.declared.waiting.Waiting.{Waiting}
use Rattle.bx_core.specs.Lists.{Each, Has}
use Rattle.bx_core.specs.States.{State, claim_of, lists_of, on_bus, in_turn}
use Rattle.bx_core.specs.declared.event.Event.{Event}
use Rattle.bx_core.specs.Steps.{last_number, after}
use Rattle.bx_core.specs.Law.{Reached}
use Rattle.bx_core.specs.PlainMail.{item_of, sending}
use Rattle.bx_core.specs.TxBus.{Item, label_of, BusPast}
use Rattle.bx_core.specs.Stands.{BusStands, entry_on_bus}
use Rattle.bx_shared.specs.declared.said.Said.{Said}
use Rattle.bx_shared.specs.declared.route_view.RouteView.{RouteView}
use Rattle.bx_shared.specs.declared.bus_view.BusView.{BusView}
use Rattle.bx_shared.specs.declared.view.View.{View}
use Rattle.bx_shared.specs.Marks.{claim_lane, waiting_lane, count_requests, rest_by}

-- each request is older than those behind it
abbrev pub AreOrdered : ℕ → List Waiting → Type 0
AreOrdered word [] = Unit {0}
AreOrdered word (w ∷ ws) = Each (λ x. IsOlder word w.mailbox x.mailbox) ws × AreOrdered word ws

-- the payload words of its mailbox are the request's
abbrev pub IsPaid : List ℕ → Waiting → Type 0
IsPaid words w = ArePacked w.frame w.number (slice_index words (1 + 2 * w.mailbox))
    (slice_index words (2 + 2 * w.mailbox))

-- the words show the mailboxes of the core: claims and requests by their lanes, the order of requests by the order
-- bits, whether requests are counted and how many by the bits above, and frames and numbers by the payload words; each
-- head is that of some frame
pub record Shows (words : List ℕ) (s : State) : Type 0 where
  pub seven : length words ≡ 7
  pub lanes : (mailbox : ℕ) → mailbox < 3 →
      lane_of (slice_index words 0) mailbox ≡ claim_lane (claim_of s mailbox) + waiting_lane s.queue mailbox
  pub order : AreOrdered (slice_index words 0) s.queue
  pub rest : rest_of (slice_index words 0) ≡ rest_by s.txfp (count_requests s.routes)
  pub payload : Each (IsPaid words) s.queue
  pub heads : (mailbox : ℕ) → mailbox < 3 → IsHead (slice_index words (1 + 2 * mailbox))

-- the mailbox that a route's seat fills is claimed by it, and has the words that it stored so far
pub record Fills (words : List ℕ) (s : State) (v : RouteView) : Type 0 where
  pub own : claim_of s v.mailbox ≡ Some v.route
  pub head : 0 < v.stored → slice_index words (1 + 2 * v.mailbox) ≡ v.head
  pub bytes : 1 < v.stored → slice_index words (2 + 2 * v.mailbox) ≡ v.bytes

-- a request of the route that waits has the number that was last requested in its mailbox; where its abort was asked
-- the route asked it; and it is none of those that ended
abbrev pub IsKnown : RouteView → Waiting → Type 0
IsKnown v w = w.route ≡ v.route → (slice_index v.last w.mailbox ≡ w.number)
    × (w.abort_asked ≡ true → Has v.asked w.number) × Each (λ n. ¬ (n ≡ w.number)) v.ended

-- what a route's seat knows is so
pub record Fits (words : List ℕ) (s : State) (v : RouteView) : Type 0 where
  pub requested : (lists_of s v.route).requested ≡ v.requested
  pub aborted : (lists_of s v.route).aborted ≡ v.aborted
  -- only what it asked to end was reaped
  pub reaped : Each (Has v.asked) (lists_of s v.route).reaped
  pub claim : v.claims ≡ true → Fills words s v
  -- no other claim is its own
  pub only : (mailbox : ℕ) → claim_of s mailbox ≡ Some v.route → (v.claims ≡ true) × (v.mailbox ≡ mailbox)
  pub three : length v.last ≡ 3
  pub waiting : Each (IsKnown v) s.queue
  pub ended : Each (λ n. n ≤ last_number v.requested) v.ended

-- what the bus's seat did, as the bus side of mailboxes tells it
abbrev pub past_of : BusView → BusPast
past_of b = record { started = b.started; done = b.done; reaped = map label_of b.reaped }

-- the request in this mailbox is scheduled, was asked to end, and is this one: it is to be reaped
pub record IsToReap (s : State) (mailbox : ℕ) (item : Item) : Type 0 where
  pub request : Waiting
  pub turn : in_turn s ≡ Some request
  pub asked : request.abort_asked ≡ true
  pub mailbox_is : request.mailbox ≡ mailbox
  pub item_is : item_of request ≡ item

-- how many requests the word counts
abbrev pub count_in : ℕ → ℕ
count_in word = word / 2 ^ 28

-- where nothing was requested since the last look, the heads that were read since are those of the requests that wait
pub record AreHeads (s : State) (b : BusView) : Type 0 where
  pub before : count_in b.seen ≤ count_requests s.routes
  pub heads : count_in b.seen ≡ count_requests s.routes →
      Each (λ w. (head : ℕ) → slice_index_or b.heads w.mailbox None ≡ Some head → IsHeadOf w.frame w.number head)
      s.queue

-- what the bus's seat knows is so
pub record FitsBus (s : State) (b : BusView) : Type 0 where
  pub priority : s.txfp ≡ b.txfp
  pub stands : BusStands s (past_of b)
  -- what it reaped was requested, with that frame
  pub reaped_known : Each (λ x. Has (lists_of s x.0).requested (entry_on_bus x)) b.reaped
  pub sends : sending s ≡ b.sends
  pub mailbox : (w : Waiting) → on_bus s ≡ Some w → w.mailbox ≡ b.mailbox
  pub reaps : (x : Item) → b.reaps ≡ Some x → IsToReap s b.mailbox x
  pub heads : s.txfp ≡ false → AreHeads s b

-- no number stands twice in the list
abbrev pub AreDistinct : List ℕ → Type 0
AreDistinct [] = Unit {0}
AreDistinct (x ∷ xs) = Each (λ y. ¬ (y ≡ x)) xs × AreDistinct xs

-- A seat's places are those that stand at it, each as it is. `at` and `bus_at` say at which seat each place stands,
-- `part` and `bus` what is known there.
pub record Holds (queue : List Waiting) (at : ℕ → ℕ) (part : ℕ → RouteView) (bus_at : ℕ) (bus : BusView) (seat : ℕ)
    (v : View) : Type 0 where
  pub routes : Each (λ p. (at p.route ≡ seat) × (part p.route ≡ p)) v.routes
  pub buses : Each (λ b. (bus_at ≡ seat) × (bus ≡ b)) v.buses
  pub once : AreDistinct (map (λ p. p.route) v.routes)
  -- a seat that sealed the mailboxes holds every place, and knows what waits
  pub seal : (es : List Waiting) → v.sealed ≡ Some es → (queue ≡ es) × (bus_at ≡ seat) × ((r : ℕ) → r < 8 → at r ≡ seat)

-- The rule of the words, for mailboxes of this priority: some state of the core to which accepted events led is shown
-- by the words and known to the seats, each place of which stands at one of them.
pub record IsKept (txfp : Bool) (t : Table Said View) : Type 0 where
  pub core : State
  pub reached : Reached core
  pub priority : core.txfp ≡ txfp
  pub eight : length core.routes ≡ 8
  pub shows : Shows t.words core
  pub part : ℕ → RouteView
  pub bus : BusView
  pub at : ℕ → ℕ
  pub bus_at : ℕ
  pub route : (r : ℕ) → ((part r).route ≡ r) × Fits t.words core (part r)
  pub bus_fits : FitsBus core bus
  pub held : (seat : ℕ) (v : View) → get_elem? t.views seat ≡ some v → Holds core.queue at part bus_at bus seat v

-- the rule holds with this state of the core
pub record IsKeptAs (txfp : Bool) (t : Table Said View) (s : State) : Type 0 where
  pub kept : IsKept txfp t
  pub core_is : kept.core ≡ s

-- the rule holds with the state of the core that this event leaves, which is not refused
pub record IsEvent (txfp : Bool) (from : State) (event : Event) (t : Table Said View) : Type 0 where
  pub next : State
  pub after_is : after from event ≡ Ok next
  pub then : IsKeptAs txfp t next
