-- The core law: what holds of a core after every list of events.
use Rattle.std.specs.Prelude.{◌≡◌, ◌<◌, ◌≤◌, length, ℕ, suc, ◌+◌, Option, Some, None, Result}
use Rattle.std.specs.Prelude.{Ok, Err, List, [], ◌∷◌, ◌++◌, Bool, true, false, if◌then◌else◌}
use Rattle.bx_core.specs.declared.waiting.Waiting.{Waiting}
use Rattle.bx_core.specs.declared.status.Status.TheVariants.{Pending}
use Rattle.bx_core.specs.declared.event.Event.{Event}
use Rattle.bx_core.specs.declared.event.Event.TheVariants.{Schedule}
use Rattle.bx_core.specs.declared.refused.Refused.{Refused}
use Rattle.bx_core.specs.Lists.{Each, Has, Rises, times}
use Rattle.bx_core.specs.States.{State, RouteLists, opening_by, claim_of}
use Rattle.bx_core.specs.States.{lists_of, is_at, is_pending, entry_of, numbers, waits_of}
use Rattle.bx_core.specs.Priority.{next}
use Rattle.bx_core.specs.Steps.{after, InRange, InRoutes, greatest_number}

-- how many requests wait in a mailbox
abbrev pub count_at : ℕ → List Waiting → ℕ
count_at mailbox [] = 0
count_at mailbox (w ∷ ws) = if is_at mailbox w then suc (count_at mailbox ws) else count_at mailbox ws

-- how many claims a mailbox has
abbrev pub count_of_claim : Option ℕ → ℕ
count_of_claim None = 0
count_of_claim (Some route) = 1

-- a request of a route that is there, in a mailbox that is there
pub record IsInPlace (routes : ℕ) (w : Waiting) : Type 0 where
  pub route : w.route < routes
  pub mailbox : w.mailbox < 3

-- how many of these requests are scheduled or transmitting
abbrev pub count_busy : List Waiting → ℕ
count_busy [] = 0
count_busy (w ∷ ws) = (if is_pending w.status then 0 else 1) + count_busy ws

-- only what is scheduled or transmitting is asked to end
abbrev pub IsAskedBusy : Waiting → Type 0
IsAskedBusy w = w.abort_asked ≡ true → is_pending w.status ≡ false

-- a request that was neither scheduled nor asked to end
pub record IsUntouched (w : Waiting) : Type 0 where
  pub pending : w.status ≡ Pending
  pub not_asked : w.abort_asked ≡ false

-- all requests but the first are untouched
abbrev pub RestUntouched : List Waiting → Type 0
RestUntouched [] = Unit {0}
RestUntouched (w ∷ ws) = Each IsUntouched ws

-- the law of one route under this priority: its lists, and the numbers of its requests that wait
pub record IsRouteLawful (txfp : Bool) (l : RouteLists) (waits : List ℕ) : Type 0 where
  -- a route's numbers rise
  pub rises : Rises (numbers l.requested)
  -- and are at least 1 and at most 16,777,215
  pub in_range : Each (λ n. (1 ≤ n) × (n ≤ greatest_number)) (numbers l.requested)
  -- with `rises`: each requested number is in exactly one of done, aborted, reaped and waiting, and these hold no other
  pub once : (n : ℕ) → times n (numbers l.requested) ≡ times n (numbers l.done) + times n l.aborted + times n l.reaped
      + times n waits
  -- waiting rises
  pub waits_rise : Rises waits
  -- by order of requests, done and waiting rise, and each done number is below each waiting one
  pub ordered : txfp ≡ true → Rises (numbers l.done ++ waits)
  -- what is done was requested, with that frame
  pub done_known : Each (Has l.requested) l.done

pub record Law (s : State) : Type 0 where
  -- there are three mailboxes
  pub three : length s.claims ≡ 3
  -- and at most eight routes
  pub few : length s.routes ≤ 8
  -- each claim is of a route that is there
  pub owners : (mailbox route : ℕ) → claim_of s mailbox ≡ Some route → route < length s.routes
  -- and so is each request that waits, in a mailbox that is there
  pub in_place : Each (IsInPlace (length s.routes)) s.queue
  -- no mailbox stands twice among the claims and the requests that wait
  pub apart : (mailbox : ℕ) → count_of_claim (claim_of s mailbox) + count_at mailbox s.queue ≤ 1
  -- at most one request is scheduled or transmitting
  pub one : count_busy s.queue ≤ 1
  -- and by order of requests it is the oldest
  pub first : s.txfp ≡ true → RestUntouched s.queue
  -- only it may be asked to end
  pub asked : Each IsAskedBusy s.queue
  -- what waits was requested by its route, with that frame
  pub waiting_known : Each (λ w. Has (lists_of s w.route).requested (entry_of w)) s.queue
  -- and each route keeps its own law
  pub route : (r : ℕ) → IsRouteLawful s.txfp (lists_of s r) (waits_of r s.queue)

-- the states that events lead to, from empty mailboxes and one to eight routes
pub data Reached : State → Type 0 where
  opened : (txfp : Bool) (routes : ℕ) → 1 ≤ routes → routes ≤ 8 → Reached (opening_by txfp routes)
  stepped : (s t : State) (event : Event) → Reached s → InRange s event → after s event ≡ Ok t → Reached t

-- the state that an event leaves, refused or not
abbrev pub left_by : State → Result State Refused → State
left_by s (Ok t) = t
left_by s (Err why) = s

-- the state after a list of events
abbrev pub run : State → List Event → State
run s [] = s
run s (event ∷ events) = run (left_by s (after s event)) events

-- the core law holds after every list of events, by either priority, whichever of the events are refused
abbrev pub LawAfterAll : Type 0
LawAfterAll = (txfp : Bool) (routes : ℕ) (events : List Event) → routes ≤ 8 → Each (InRoutes routes) events →
    Law (run (opening_by txfp routes) events)

-- where requests wait and none is scheduled or transmitting, the next one may be scheduled
abbrev pub NextGoes : Type 0
NextGoes = (s : State) → Law s → count_busy s.queue ≡ 0 → 0 < length s.queue →
    (w : Waiting) × (t : State) × (next s ≡ Some w) × (after s (Schedule w.mailbox) ≡ Ok t)
