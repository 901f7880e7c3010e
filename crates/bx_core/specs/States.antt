-- What the mailbox core of one controller keeps (RM0008, bxCAN, "Transmission handling").
use Rattle.std.specs.Prelude.{◌≡◌, ℕ, suc, ◌<◌, ◌==◌, ◌&&◌, Option, Some, None, List}
use Rattle.std.specs.Prelude.{[], ◌∷◌, map, replicate, Bool, true, false, if◌then◌else◌}
use Rattle.std.specs.List.{slice_index_or, find}
use Rattle.bx_core.specs.declared.entry.Entry.{Entry}
use Rattle.bx_core.specs.declared.waiting.Waiting.{Waiting}
use Rattle.bx_core.specs.declared.status.Status.{Status}
use Rattle.bx_core.specs.declared.status.Status.TheVariants.{Pending, Scheduled, Transmitting}

-- what became of a route's requests, each list in the order of its events
pub record RouteLists : Type 0 where
  -- every request, with its frame
  pub requested : List Entry
  -- those that were sent
  pub done : List Entry
  -- those that were aborted before their transmission began
  pub aborted : List ℕ
  -- those that were aborted after a transmission that failed
  pub reaped : List ℕ

pub record State : Type 0 where
  -- the priority: the order of requests (TXFP set), or else the identifier
  pub txfp : Bool
  -- of each mailbox, the route that fills it
  pub claims : List (Option ℕ)
  -- the requests that wait in a mailbox, the oldest first
  pub queue : List Waiting
  -- of each route, its lists
  pub routes : List RouteLists

-- a route that requested nothing yet
abbrev pub no_lists : RouteLists
no_lists = record { requested = []; done = []; aborted = []; reaped = [] }

-- three empty mailboxes with this priority, and this many routes that requested nothing yet
abbrev pub opening_by : Bool → ℕ → State
opening_by txfp routes = record {
  txfp = txfp;
  claims = replicate 3 None;
  queue = [];
  routes = replicate routes no_lists;
}

-- the same, with the order of requests as the priority
abbrev pub opening : ℕ → State
opening = opening_by true

-- the route that fills a mailbox
abbrev pub claim_of : State → ℕ → Option ℕ
claim_of s mailbox = slice_index_or s.claims mailbox None

-- the lists of a route
abbrev pub lists_of : State → ℕ → RouteLists
lists_of s route = slice_index_or s.routes route no_lists

-- a request waits in this mailbox
abbrev pub is_at : ℕ → Waiting → Bool
is_at mailbox w = w.mailbox == mailbox

-- the request that waits in a mailbox
abbrev pub at_mailbox : ℕ → List Waiting → Option Waiting
at_mailbox mailbox [] = None
at_mailbox mailbox (w ∷ ws) = if is_at mailbox w then Some w else at_mailbox mailbox ws

-- its place in the queue, from 0, or the queue's length where the mailbox holds none
abbrev pub place_of : ℕ → List Waiting → ℕ
place_of mailbox [] = 0
place_of mailbox (w ∷ ws) = if is_at mailbox w then 0 else suc (place_of mailbox ws)

-- a waiting request as its route's lists keep it
abbrev pub entry_of : Waiting → Entry
entry_of w = record { number = w.number; frame = w.frame }

-- the numbers of requests
abbrev pub numbers : List Entry → List ℕ
numbers = map (λ (e : Entry). e.number)

-- the numbers of a route's requests that wait, the oldest first
abbrev pub waits_of : ℕ → List Waiting → List ℕ
waits_of route [] = []
waits_of route (w ∷ ws) = if w.route == route then w.number ∷ waits_of route ws else waits_of route ws

abbrev pub is_pending : Status → Bool
is_pending Pending = true
is_pending Scheduled = false
is_pending Transmitting = false

abbrev pub is_scheduled : Status → Bool
is_scheduled Pending = false
is_scheduled Scheduled = true
is_scheduled Transmitting = false

abbrev pub is_transmitting : Status → Bool
is_transmitting Pending = false
is_transmitting Scheduled = false
is_transmitting Transmitting = true

-- a mailbox that is neither claimed nor holds a request
pub record IsEmpty (s : State) (mailbox : ℕ) : Type 0 where
  pub unclaimed : claim_of s mailbox ≡ None
  pub unrequested : at_mailbox mailbox s.queue ≡ None

-- the empty mailbox of the lowest number
pub record IsLowestEmpty (s : State) (mailbox : ℕ) : Type 0 where
  pub within : mailbox < 3
  pub empty : IsEmpty s mailbox
  pub lowest : (k : ℕ) → k < mailbox → IsEmpty s k → ⊥

-- no mailbox is empty
abbrev pub NoneIsEmpty : State → Type 0
NoneIsEmpty s = (k : ℕ) → k < 3 → IsEmpty s k → ⊥

-- the request of a route's number, where it waits
abbrev pub of_number : ℕ → ℕ → List Waiting → Option Waiting
of_number route number [] = None
of_number route number (w ∷ ws) = if (w.route == route) && (w.number == number) then Some w
    else of_number route number ws

-- the request that is transmitting: by the core law there is at most one
abbrev pub on_bus : State → Option Waiting
on_bus s = find (λ w. is_transmitting w.status) s.queue

-- the request that is scheduled: by the core law there is at most one
abbrev pub in_turn : State → Option Waiting
in_turn s = find (λ w. is_scheduled w.status) s.queue
