-- One turn of a route: an abort that is due, or else a request of the first frame in the hand. And how a hand with a
-- queue is filled before that.
use Rattle.std.specs.Prelude.{◌≡◌, ℕ, ◌+◌, ◌/◌, ◌<◌, ◌≤◌, ◌↔◌, ◌⊎◌, min, nat_lt, if◌then◌else◌, Bool, true, false}
use Rattle.std.specs.Prelude.{List, [], ◌∷◌, ◌++◌, drop, length, remove, slice_get, Option, Some, None, Result, Ok, Err, IsErr}
use Rattle.can_frame.specs.Frames.{FrameValue}
use Rattle.bx_core.specs.declared.entry.Entry.{Entry}
use Rattle.bx_core.specs.declared.answer.Sent.{Sent}
use Rattle.bx_core.specs.declared.answer.Sent.TheVariants.{Yes, NotNow}
use Rattle.bx_core.specs.declared.answer.AbortAnswer.{AbortAnswer}
use Rattle.bx_core.specs.declared.answer.AbortAnswer.TheVariants.{Ended, Asked, Gone, NotNow as Later}
use Rattle.bx_core.specs.declared.answer.NumberTooLarge.{NumberTooLarge}
use Rattle.bx_core.specs.Lists.{Has}
use Rattle.bx_core.specs.States.{numbers}
use Rattle.bx_core.specs.Steps.{greatest_number}
use Rattle.bx_core.specs.RouteTx.{RoutePast, after_request, after_abort}
use Rattle.bx_rx.specs.RxOut as outlet
use Rattle.bx_rx.specs.RxOut.{WasEmpty}
use Rattle.bx_rx.specs.declared.rx_frame.RxFrame.{RxFrame}
use Rattle.gw_route.specs.RouteHand.{HandValue, LogMatches, LogsReleased, entry_of}
use Rattle.gw_route.specs.declared.route_abort.RouteAbort.{RouteAbort}
use Rattle.gw_route.specs.declared.turn_answer.TurnAnswer.{TurnAnswer}
use Rattle.gw_route.specs.declared.turn_answer.TurnAnswer.TheVariants.{Idle, Requested, AbortDone, Waiting}

-- turns are counted up to a million
abbrev pub next_turn : ℕ → ℕ
next_turn turns = if nat_lt turns 1000000 then turns + 1 else turns

-- the turns of `bits` bits, one behind each multiple of `turn` bits, counted up to a million
abbrev pub turns_in : ℕ → ℕ → ℕ
turns_in turn bits = min (bits / turn) 1000000

-- the hand at its next turn
abbrev pub counted : HandValue → HandValue
counted h = record h { turns = next_turn h.turns }

-- the first abort still to do
abbrev pub first_abort : HandValue → Option RouteAbort
first_abort h = slice_get h.aborts 0

-- the count of turns has reached the abort's, and its number was requested
pub record IsDue (turns : ℕ) (requested : List Entry) (abort : RouteAbort) : Type 0 where
  pub reached : abort.turn ≤ turns
  pub known : Has (numbers requested) abort.number

-- the same as the hand alone tells it: all numbers that were given out are requested, but those in the hand
pub record IsDueByCount (h : HandValue) (abort : RouteAbort) : Type 0 where
  pub reached : abort.turn ≤ h.turns
  pub positive : 0 < abort.number
  pub below : abort.number + length h.in_hand ≤ h.tickets

-- the first abort isn't due, whatever stands behind it
abbrev pub NoneIsDue : HandValue → RoutePast → Type 0
NoneIsDue h past = (abort : RouteAbort) → first_abort h ≡ Some abort → IsDue h.turns past.requested abort → ⊥

-- a frame is noted in the log as it was, and the next number is given out for it
abbrev pub noted : HandValue → FrameValue → HandValue
noted h frame = record h { tickets = h.tickets + 1; released = h.released ++ frame ∷ [] }

-- and it comes into the hand, behind the frames there
abbrev pub taken : HandValue → FrameValue → HandValue
taken h frame = record (noted h frame) { in_hand = h.in_hand ++ entry_of h frame ∷ [] }

-- the FIFO was asked, and released this, or nothing
abbrev pub given : HandValue → RxFrame → HandValue
given h x = record h { out = outlet.given h.out x }

abbrev pub none_given : HandValue → HandValue
none_given h = record h { out = outlet.none_given h.out }

-- the FIFO is asked, and what it releases comes into the hand
abbrev pub taken_out : HandValue → RxFrame → HandValue
taken_out h x = taken (given h x) x.frame

-- the FIFO is asked, and a frame that it releases comes into the hand
abbrev pub TakesOne : Bool → HandValue → HandValue → Type 0
TakesOne true h new = (x : RxFrame) × (new ≡ taken_out h x)
TakesOne false h new = (new ≡ none_given h) × WasEmpty h.out

-- The hand fills its queue out of the FIFO, until there is no room for more or the FIFO is empty. Without a queue it
-- takes nothing.
pub data Filled : HandValue → HandValue → Type 0 where
  unqueued : {h : HandValue} → h.queue ≡ None → Filled h h
  full : {h : HandValue} (size : ℕ) → h.queue ≡ Some size → size ≤ length h.in_hand → Filled h h
  emptied : {h : HandValue} (size : ℕ) → h.queue ≡ Some size → length h.in_hand < size → WasEmpty h.out →
      Filled h (none_given h)
  one : {h filled : HandValue} (size : ℕ) (x : RxFrame) → h.queue ≡ Some size → length h.in_hand < size →
      Filled (taken_out h x) filled → Filled h filled

-- a hand's queue is full, or the FIFO gave nothing when it was asked last: so it is once the hand is filled
abbrev pub IsFull : HandValue → Type 0
IsFull h = (size : ℕ) → h.queue ≡ Some size →
    (size ≤ length h.in_hand) ⊎ ((out : outlet.Outlet) × (h.out ≡ outlet.none_given out))

-- in its turn a hand has a frame to request: the first one in it, or, where it is empty and has no queue, the next one
-- of the FIFO
abbrev pub HasNext : HandValue → HandValue → Entry → List Entry → Type 0
HasNext h next entry behind = (next.in_hand ≡ entry ∷ behind)
    × ((next ≡ h) ⊎ ((x : RxFrame) × (h.in_hand ≡ []) × (h.queue ≡ None) × (next ≡ taken_out h x)))

-- in its turn a hand has no frame to request: with a queue it doesn't ask the FIFO
abbrev pub HasNone : HandValue → HandValue → Type 0
HasNone h next = (h.in_hand ≡ [])
    × (((h.queue ≡ None) × WasEmpty h.out × (next ≡ none_given h)) ⊎ ((size : ℕ) × (h.queue ≡ Some size) × (next ≡ h)))

-- the hand after a request of its first frame, which leaves it where the answer is Yes
abbrev pub if_requested : Result Sent NumberTooLarge → HandValue → HandValue
if_requested (Ok Yes) h = record h { in_hand = drop 1 h.in_hand }
if_requested (Ok NotNow) h = h
if_requested (Err e) h = h

abbrev pub requested_answer : Result Sent NumberTooLarge → TurnAnswer
requested_answer (Ok Yes) = Requested
requested_answer (Ok NotNow) = Waiting
requested_answer (Err e) = Waiting

-- the first abort is done
abbrev pub abort_off : HandValue → HandValue
abort_off h = record h { aborts = remove h.aborts 0 }

-- and its number comes into the log
abbrev pub logged : HandValue → ℕ → HandValue
logged h number = record (abort_off h) { aborted = h.aborted ++ number ∷ [] }

-- the hand after the first abort, by its answer
abbrev pub if_aborted : AbortAnswer → ℕ → HandValue → HandValue
if_aborted Ended number h = logged h number
if_aborted Asked number h = logged h number
if_aborted Gone number h = abort_off h
if_aborted Later number h = h

abbrev pub aborted_answer : AbortAnswer → TurnAnswer
aborted_answer Ended = AbortDone
aborted_answer Asked = AbortDone
aborted_answer Gone = AbortDone
aborted_answer Later = Waiting

-- What a turn does to the hand and on the route's side, by its answer: one call at most. It is idle only where nothing
-- is in the hand, and, without a queue, the FIFO was asked and gave nothing. A request is of the first frame in the hand,
-- unchanged and under its number.
pub data Turned : HandValue → HandValue → RoutePast → RoutePast → TurnAnswer → Type 0 where
  idle : {h next : HandValue} {past : RoutePast} → NoneIsDue h past → HasNone h next → Turned h next past past Idle
  by_request : {h next : HandValue} {past : RoutePast} (entry : Entry) (behind : List Entry)
      (answer : Result Sent NumberTooLarge) →
      NoneIsDue h past →
      HasNext h next entry behind → IsErr answer ↔ (greatest_number < entry.number) →
      Turned h (if_requested answer next) past (after_request past entry.number entry.frame answer)
      (requested_answer answer)
  by_abort : {h : HandValue} {past : RoutePast} (abort : RouteAbort) (answer : AbortAnswer) (asks : Bool) →
      first_abort h ≡ Some abort →
      IsDue h.turns past.requested abort →
      Turned h (if_aborted answer abort.number h) past (after_abort past abort.number answer asks)
      (aborted_answer answer)

-- the same for whatever the route's side may have done, where the hand matches that
abbrev pub Acted : (RoutePast → Type 0) → (RoutePast → Type 0) → HandValue → HandValue → TurnAnswer → Type 0
Acted after after' old new answer = (past : RoutePast) → after past → LogMatches old past →
    (next : RoutePast) × (after' next) × Turned old new past next answer

-- a turn, which is counted first
abbrev pub TurnMade : (RoutePast → Type 0) → (RoutePast → Type 0) → HandValue → HandValue → TurnAnswer → Type 0
TurnMade after after' old new answer = Acted after after' (counted old) new answer

-- filling keeps what the hand matches and its log, and changes no count, no abort and no identifier
pub record FillKeeps (old new : HandValue) : Type 0 where
  pub matches : (past : RoutePast) → LogMatches old past → LogMatches new past
  pub log : LogsReleased old → LogsReleased new
  pub queue_is : new.queue ≡ old.queue
  pub turns_is : new.turns ≡ old.turns
  pub aborts_is : new.aborts ≡ old.aborts
  pub aborted_is : new.aborted ≡ old.aborted
  pub rewrites_is : new.rewrites ≡ old.rewrites

-- after a turn the hand matches what the route's side did, where it did before
abbrev pub TurnKeeps : HandValue → HandValue → TurnAnswer → Type 0
TurnKeeps old new answer = (past next : RoutePast) → Turned (counted old) new past next answer → LogMatches old past →
    LogMatches new next

-- Nothing is in the hand, and no abort comes due, whatever the count of turns is: so each turn is idle as long as the
-- FIFO is empty.
pub record WaitsForFrame (h : HandValue) : Type 0 where
  pub none_held : h.in_hand ≡ []
  pub none_due : (turns : ℕ) (abort : RouteAbort) → first_abort h ≡ Some abort →
      IsDueByCount (record h { turns = turns }) abort → ⊥

-- the hand behind `more` idle turns, counted up to a million; what the FIFO was asked is left aside
abbrev pub idled : ℕ → HandValue → HandValue
idled more h = record h { turns = min (h.turns + more) 1000000 }
