-- Which request is to be sent next (RM0008, bxCAN, "Transmit priority").
use Rattle.std.specs.Prelude.{ℕ, ◌==◌, ◌&&◌, ◌||◌, Bool, true, false, nat_lt, nat_le, Option, List, slice_get}
use Rattle.std.specs.List.{find, list_all}
use Rattle.can_frame.specs.Keys.{key_of}
use Rattle.bx_core.specs.declared.waiting.Waiting.{Waiting}
use Rattle.bx_core.specs.States.{State, is_pending}

-- a key in a mailbox comes before another in another: it is the lower key, or the same one in no higher mailbox
abbrev pub comes_before : (key mailbox other_key other_mailbox : ℕ) → Bool
comes_before key mailbox other_key other_mailbox = nat_lt key other_key
    || ((key == other_key) && nat_le mailbox other_mailbox)

-- the same of two requests, each with the key of its frame
abbrev pub goes_before : Waiting → Waiting → Bool
goes_before w x = comes_before (key_of w.frame) w.mailbox (key_of x.frame) x.mailbox

-- each of these requests is pending, and this one comes before it: none is scheduled or transmitting, and this one is
-- the least
abbrev pub goes_first : Waiting → List Waiting → Bool
goes_first w q = list_all (λ x. is_pending x.status && goes_before w x) q

-- where a name ends in _by, it is given the priority: true is the order of requests, false is by identifier

-- a pending request at this place of the queue may be scheduled: by order of requests the oldest; by identifier the
-- least, where none is scheduled or transmitting
abbrev pub is_next_by : Bool → ℕ → Waiting → List Waiting → Bool
is_next_by true place w q = place == 0
is_next_by false place w q = goes_first w q

abbrev pub is_next : State → ℕ → Waiting → Bool
is_next s place w = is_next_by s.txfp place w s.queue

-- the request that a try to schedule takes: by order of requests the oldest, whatever its status; by identifier the one
-- that may be scheduled
abbrev pub next_by : Bool → List Waiting → Option Waiting
next_by true q = slice_get q 0
next_by false q = find (λ w. goes_first w q) q

abbrev pub next : State → Option Waiting
next s = next_by s.txfp s.queue
