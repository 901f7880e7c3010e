-- What each call of the bus side does to the requests in the mailboxes, the oldest first (RM0008, bxCAN, "Transmission
-- handling"). By order of requests only the oldest is scheduled or transmitting.
use Rattle.std.specs.Prelude.{◌≡◌, ◌<◌, ℕ, Bool, true, false, Option, Some}
use Rattle.std.specs.Prelude.{None, List, [], ◌∷◌, ◌++◌, slice_set, if◌then◌else◌}
use Rattle.std.specs.List.{remove}
use Rattle.bx_core.specs.declared.waiting.Waiting.{Waiting}
use Rattle.bx_core.specs.declared.status.Status.TheVariants.{Scheduled, Transmitting}
use Rattle.bx_core.specs.PlainMail.{item_of}
use Rattle.bx_core.specs.States.{at_mailbox, place_of, of_number, is_pending, is_transmitting}
use Rattle.bx_core.specs.Steps.{may_start, new_waiting}
use Rattle.bx_core.specs.TxBus.{Item}
use Rattle.bx_mail.specs.declared.posting.Asks.{Asks}
use Rattle.bx_mail.specs.declared.posting.Asks.TheVariants.{Transmit, Abort}

-- the lowest mailbox that holds no request
pub record IsLowestFree (boxes : List Waiting) (mailbox : ℕ) : Type 0 where
  pub within : mailbox < 3
  pub free : at_mailbox mailbox boxes ≡ None
  pub lowest : (k : ℕ) → k < mailbox → at_mailbox k boxes ≡ None → ⊥

abbrev pub NoneIsFree : List Waiting → Type 0
NoneIsFree boxes = (k : ℕ) → k < 3 → at_mailbox k boxes ≡ None → ⊥

-- True: a request went into the lowest mailbox that held none, behind the others. False: nothing changed, and where a
-- request is asked for each mailbox holds one.
abbrev pub IsSeated : List Waiting → ℕ → ℕ → Asks → Bool → List Waiting → Type 0
IsSeated old route number (Transmit frame) true new = (mailbox : ℕ) × IsLowestFree old mailbox
    × (new ≡ old ++ new_waiting route mailbox number frame ∷ [])
IsSeated old route number (Transmit frame) false new = (new ≡ old) × NoneIsFree old
IsSeated old route number Abort true new = ⊥
IsSeated old route number Abort false new = new ≡ old

-- what is on the bus
abbrev pub on_bus_now : List Waiting → Option Item
on_bus_now [] = None
on_bus_now (w ∷ ws) = if is_transmitting w.status then Some (item_of w) else None

-- the oldest request is scheduled, where it is pending
abbrev pub scheduled_first : List Waiting → List Waiting
scheduled_first [] = []
scheduled_first (w ∷ ws) = (if is_pending w.status then record w { status = Scheduled } else w) ∷ ws

-- the oldest may start
abbrev pub may_start_first : List Waiting → Bool
may_start_first [] = false
may_start_first (w ∷ ws) = may_start w

-- the oldest starts, where it may, and what is told of it
abbrev pub started_first : List Waiting → List Waiting
started_first [] = []
started_first (w ∷ ws) = (if may_start w then record w { status = Transmitting } else w) ∷ ws

abbrev pub starting : List Waiting → Option Item
starting [] = None
starting (w ∷ ws) = if may_start w then Some (item_of w) else None

-- the oldest leaves its mailbox; and what left so
abbrev pub left_first : List Waiting → List Waiting
left_first [] = []
left_first (w ∷ ws) = ws

abbrev pub leaving : List Waiting → Option Item
leaving [] = None
leaving (w ∷ ws) = Some (item_of w)

-- the oldest failed: where its abort was asked it leaves, else it is scheduled again; and the label of what left so
abbrev pub failed_first : List Waiting → List Waiting
failed_first [] = []
failed_first (w ∷ ws) = if w.abort_asked then ws else record w { status = Scheduled } ∷ ws

abbrev pub reaping : List Waiting → Option (ℕ × ℕ)
reaping [] = None
reaping (w ∷ ws) = if w.abort_asked then Some (w.route, w.number) else None

-- where a name ends in _found, it is told of the request that was found

-- a request that waits leaves its mailbox, and one that is transmitting is asked to end; of one that was asked before
-- nothing changes
abbrev pub aborted_found : List Waiting → Option Waiting → List Waiting
aborted_found ws None = ws
aborted_found ws (Some w) =
    if w.abort_asked then ws
    else (if is_transmitting w.status then slice_set ws (place_of w.mailbox ws) (record w { abort_asked = true })
    else remove ws (place_of w.mailbox ws))

abbrev pub aborted_of : ℕ → ℕ → List Waiting → List Waiting
aborted_of route number ws = aborted_found ws (of_number route number ws)
