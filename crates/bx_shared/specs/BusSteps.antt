-- What each atomic step of the bus's seat tells it, and what it then knows.
use Rattle.std.specs.Prelude.{◌≡◌, ℕ, ◌+◌, ◌*◌, ◌%◌, ◌<◌, ◌≤◌, Option, Some, None, List, [], ◌∷◌, ◌++◌}
use Rattle.std.specs.Prelude.{Bool, true, false, nat_lt, if◌then◌else◌, option_to_list, map, length, slice_index, slice_set}
use Rattle.std.specs.List.{slice_index_or}
use Rattle.can_frame.specs.Frames.{FrameValue}
use Rattle.can_frame.specs.Keys.{key_of}
use Rattle.bx_core.specs.declared.waiting.Waiting.{Waiting}
use Rattle.bx_core.specs.Law.{Reached}
use Rattle.bx_core.specs.PlainMail.{item_of}
use Rattle.bx_core.specs.Stands.{BusStands, entries_of, numbers_of}
use Rattle.bx_core.specs.States.{State, in_turn}
use Rattle.bx_core.specs.Steps.{greatest_number}
use Rattle.bx_core.specs.TxBus.{Item, BusPast, IsUndone, label_of}
use Rattle.bx_words.specs.Lanes.{lane_of, mark_of, rest_of, IsRequested, IsTransmitting}
use Rattle.bx_words.specs.Orders.{IsOldest, IsLeastOf}
use Rattle.bx_words.specs.Payloads.{IsHead, IsHeadOf, bytes_word}
use Rattle.bx_shared.specs.declared.bus_view.BusView.{BusView}
use Rattle.bx_shared.specs.Shown.{Shows, past_of}
use Rattle.bx_shared.specs.Steps.{Tells, bus_seat, bus_of, mailbox_said}

-- no mailbox's head was read
abbrev pub no_heads : List (Option ℕ)
no_heads = None ∷ None ∷ None ∷ []

-- A look at this word: it is one look more, and no head was read since.
abbrev pub bus_looked : BusView → ℕ → BusView
bus_looked b word = record b { looks = b.looks + 1; seen = word; heads = no_heads }

-- an exchange that found this word, and was to write that one
abbrev pub bus_tried : BusView → ℕ → ℕ → BusView
bus_tried b found written = record b { exchanges = b.exchanges + 1; found = found; written = written }

-- such an exchange started this transmission
abbrev pub bus_started : BusView → ℕ → ℕ → ℕ → Item → BusView
bus_started b found written mailbox item =
    record b {
      exchanges = b.exchanges + 1;
      found = found;
      written = written;
      started = b.started ++ item ∷ [];
      sends = Some item;
      mailbox = mailbox;
    }

-- the head of a mailbox was read
abbrev pub head_read : BusView → ℕ → ℕ → BusView
head_read b mailbox head = record b { heads = slice_set b.heads mailbox (Some head) }

-- what it transmitted was sent
abbrev pub bus_completed : BusView → BusView
bus_completed b = record b { done = b.done ++ option_to_list b.sends; sends = None }

-- what it transmitted failed, and is to be reaped where the word found has its abort asked
abbrev pub bus_failed : BusView → ℕ → BusView
bus_failed b word = record b {
  sends = None;
  reaps = if nat_lt 15 (mark_of word b.mailbox) then b.sends else None;
  found = word;
}

-- what was to be reaped is
abbrev pub bus_reaped : BusView → BusView
bus_reaped b = record b { reaped = b.reaped ++ option_to_list b.reaps; reaps = None }

-- The request that starts was the one that is scheduled. In a state of the core to which accepted events led, which
-- this control word showed and in which the bus had done this, it was in this mailbox, scheduled, and not asked to
-- end. By order of requests it was the oldest.
pub record WasInTurn (txfp : Bool) (past : BusPast) (word mailbox : ℕ) (item : Item) : Type 0 where
  pub core : State
  pub reached : Reached core
  pub priority : core.txfp ≡ txfp
  pub words : List ℕ
  pub shows : Shows words core
  pub word_is : slice_index words 0 ≡ word
  pub did : BusStands core past
  pub request : Waiting
  pub turn : in_turn core ≡ Some request
  pub mailbox_is : request.mailbox ≡ mailbox
  pub not_asked : request.abort_asked ≡ false
  pub item_is : item_of request ≡ item
  pub oldest : txfp ≡ true → (behind : List Waiting) × (core.queue ≡ request ∷ behind)

-- The exchange started this: it was scheduled under this route, it was neither sent nor reaped, and nothing was
-- transmitting.
pub record IsStarted (b d : BusView) (mailbox word written : ℕ) : Type 0 where
  pub item : Item
  pub lane : lane_of word mailbox ≡ 7 + 32 * item.0
  pub idle : b.sends ≡ None
  pub undone : IsUndone (past_of b) item
  pub turn : WasInTurn b.txfp (past_of b) word mailbox item
  pub is : d ≡ bus_started b word written mailbox item

-- the head of this mailbox was read, and this is the arbitration key of its frame
pub record HasKey (b : BusView) (mailbox key : ℕ) : Type 0 where
  pub head : ℕ
  pub read : slice_index_or b.heads mailbox None ≡ Some head
  pub key_is : (f : FrameValue) (n : ℕ) → IsHeadOf f n head → key ≡ key_of f

-- By identifier: the word is the one looked at last; each request is pending; the head of each was read since, and of
-- their keys this mailbox's is the least.
pub record IsLeastRead (b : BusView) (word mailbox : ℕ) : Type 0 where
  pub seen : b.seen ≡ word
  pub pending : (j : ℕ) → j < 3 → IsRequested word j → mark_of word j ≡ 3
  pub keys : List ℕ
  pub read : (j : ℕ) → j < 3 → IsRequested word j → HasKey b j (slice_index keys j)
  pub least : IsLeastOf 3 word keys mailbox

-- The request in this mailbox is the next one to be scheduled, by the priority that bit 27 of the word tells.
pub record GoesNext (b : BusView) (word mailbox : ℕ) : Type 0 where
  pub pending : mark_of word mailbox ≡ 3
  pub by_order : rest_of word % 2 ≡ 0 → IsOldest word mailbox
  pub by_identifier : rest_of word % 2 ≡ 1 → IsLeastRead b word mailbox

-- this is the head of what it transmits, where that is in this mailbox; and these are its bytes
abbrev pub IsHeadSent : BusView → ℕ → ℕ → Type 0
IsHeadSent b mailbox head = (item : Item) → b.sends ≡ Some item → b.mailbox ≡ mailbox → IsHeadOf item.2 item.1 head

abbrev pub AreBytesSent : BusView → ℕ → ℕ → Type 0
AreBytesSent b mailbox bytes = (item : Item) → b.sends ≡ Some item → b.mailbox ≡ mailbox → bytes ≡ bytes_word item.2

-- of each route at most as many were sent and reaped as there are numbers
abbrev pub AreFew : BusView → Type 0
AreFew b = (route : ℕ) → (length (entries_of route b.done) ≤ greatest_number)
    × (length (numbers_of route (map label_of b.reaped)) ≤ greatest_number)

abbrev pub BusLooks : Tells
BusLooks st me found next = next ≡ bus_seat (bus_looked (bus_of me) found) me.0.routes

-- whether it found the word that it was to find is a matter of the two words
abbrev pub Schedules : Tells
Schedules st me found next = next ≡ bus_seat (bus_tried (bus_of me) found st.second) me.0.routes

abbrev pub Starts : Tells
Starts st me found next = (found ≡ st.first → (next ≡ bus_seat (bus_of next) me.0.routes)
    × IsStarted (bus_of me) (bus_of next) (mailbox_said st.said) found st.second)
    × (¬ (found ≡ st.first) → next ≡ bus_seat (bus_tried (bus_of me) found st.second) me.0.routes)

-- the payload words of mailbox m are 1 + 2m and 2 + 2m
abbrev pub ReadsHead : Tells
ReadsHead st me found next = (mailbox : ℕ) → st.word ≡ 1 + 2 * mailbox →
    (next ≡ bus_seat (head_read (bus_of me) mailbox found) me.0.routes) × IsHead found
    × IsHeadSent (bus_of me) mailbox found

abbrev pub ReadsBytes : Tells
ReadsBytes st me found next = (next ≡ me)
    × ((mailbox : ℕ) → st.word ≡ 2 + 2 * mailbox → AreBytesSent (bus_of me) mailbox found)

abbrev pub Completes : Tells
Completes st me found next = (next ≡ bus_seat (bus_completed (bus_of me)) me.0.routes) × AreFew (bus_of me)

abbrev pub Fails : Tells
Fails st me found next = (next ≡ bus_seat (bus_failed (bus_of me) found) me.0.routes)
    × IsTransmitting found (bus_of me).mailbox

abbrev pub Reaps : Tells
Reaps st me found next = (next ≡ bus_seat (bus_reaped (bus_of me)) me.0.routes) × AreFew (bus_of me)
