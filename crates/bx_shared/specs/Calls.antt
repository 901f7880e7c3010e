-- What the calls of the bus's seat, and the aborts of a route's, are to their callers.
use Rattle.std.specs.Prelude.{◌≡◌, ◌⊎◌, ℕ, ◌+◌, ◌/◌, ◌%◌, ◌<◌, Some, None, List, [], ◌∷◌, ◌++◌}
use Rattle.std.specs.Prelude.{Bool, true, false, length}
use Rattle.bx_core.specs.declared.point.Point.{Point}
use Rattle.bx_core.specs.declared.point.Point.TheVariants.{Look, Abort}
use Rattle.bx_core.specs.Gate.{Passes}
use Rattle.bx_core.specs.Lists.{Has}
use Rattle.bx_core.specs.TxBus.{Item, IsUndone}
use Rattle.bx_words.specs.Lanes.{lane_of, mark_of, rest_of, IsRequested}
use Rattle.bx_words.specs.Orders.{IsOldest}
use Rattle.bx_shared.specs.declared.route_view.RouteView.{RouteView}
use Rattle.bx_shared.specs.declared.bus_view.BusView.{BusView}
use Rattle.bx_shared.specs.declared.abort_outcome.AbortOutcome.{AbortOutcome}
use Rattle.bx_shared.specs.declared.abort_outcome.AbortOutcome.TheVariants.{Aborted, Asked, Gone, Contended}
use Rattle.bx_shared.specs.Ended.{is_in}
use Rattle.bx_shared.specs.Shown.{past_of}
use Rattle.bx_shared.specs.Steps.{missed, aborted_at, asked_at}
use Rattle.bx_shared.specs.BusSteps.{WasInTurn, bus_failed, bus_reaped}
use Rattle.bx_shared.specs.Seats.{SameFilling, BusPlace}

-- the word has a mailbox whose request is scheduled and was not asked to end; and it has none
pub record IsScheduled (word mailbox : ℕ) : Type 0 where
  pub small : mailbox < 3
  pub scheduled : mark_of word mailbox ≡ 7

abbrev pub HasScheduled : ℕ → Type 0
HasScheduled word = (mailbox : ℕ) × IsScheduled word mailbox

abbrev pub NoneScheduled : ℕ → Type 0
NoneScheduled word = (mailbox : ℕ) → ¬ IsScheduled word mailbox

-- By the word this request may be scheduled: it is pending; by order of requests (bit 27 is clear) it is the oldest; by
-- identifier no request is scheduled or transmitting.
pub record MayBeScheduled (word mailbox : ℕ) : Type 0 where
  pub small : mailbox < 3
  pub pending : mark_of word mailbox ≡ 3
  pub by_order : rest_of word % 2 ≡ 0 → IsOldest word mailbox
  pub by_identifier : rest_of word % 2 ≡ 1 → (j : ℕ) → j < 3 → IsRequested word j → mark_of word j ≡ 3

abbrev pub NoneToSchedule : ℕ → Type 0
NoneToSchedule word = (mailbox : ℕ) → ¬ MayBeScheduled word mailbox

-- nothing was started, sent or reaped
pub record BusRests (b d : BusView) : Type 0 where
  pub priority : d.txfp ≡ b.txfp
  pub started : d.started ≡ b.started
  pub done : d.done ≡ b.done
  pub reaped : d.reaped ≡ b.reaped
  pub sends : d.sends ≡ b.sends
  pub reaps : d.reaps ≡ b.reaps
  pub mailbox : d.mailbox ≡ b.mailbox

-- heads alone were read: of three mailboxes, before and after
pub record HasReadHeads (b d : BusView) : Type 0 where
  pub is : d ≡ record b { heads = d.heads }
  pub three : length d.heads ≡ 3

-- no exchange was made
abbrev pub NoExchange : BusView → BusView → Type 0
NoExchange b d = d.exchanges ≡ b.exchanges

-- one was, and found the word looked at; or it found another
pub record Won (b d : BusView) : Type 0 where
  pub exchanges : d.exchanges ≡ b.exchanges + 1
  pub found : d.found ≡ d.seen

pub record Lost (b d : BusView) : Type 0 where
  pub exchanges : d.exchanges ≡ b.exchanges + 1
  pub found : ¬ (d.found ≡ d.seen)

-- Whether one is scheduled that may start: the seat looked once. True: the word looked at, or the one that its exchange
-- wrote, has it. False: the word looked at has none, and no request to schedule, or an exchange found another word.
pub record Readied (b d : BusView) (result : Bool) : Type 0 where
  pub rests : BusRests b d
  pub looks : d.looks ≡ b.looks + 1
  pub yes : result ≡ true → (NoExchange b d × HasScheduled d.seen) ⊎ (Won b d × HasScheduled d.written)
  pub no : result ≡ false → (NoExchange b d × NoneScheduled d.seen × NoneToSchedule d.seen) ⊎ Lost b d

-- This transmission started: nothing was transmitting, it was neither sent nor reaped, and started grew by just it. The
-- seat looked once and its one exchange was made. By the word looked at its mailbox held a request of this route that
-- was scheduled and not asked to end, and the item is that request.
pub record Began (b d : BusView) (item : Item) : Type 0 where
  pub route : item.0 < 8
  pub priority : d.txfp ≡ b.txfp
  pub idle : b.sends ≡ None
  pub undone : IsUndone (past_of b) item
  pub scheduled : IsScheduled d.seen d.mailbox
  pub owner : lane_of d.seen d.mailbox / 32 ≡ item.0
  pub turn : WasInTurn b.txfp (past_of b) d.seen d.mailbox item
  pub sends : d.sends ≡ Some item
  pub started : d.started ≡ b.started ++ item ∷ []
  pub done : d.done ≡ b.done
  pub reaped : d.reaped ≡ b.reaped
  pub reaps : d.reaps ≡ b.reaps
  pub looks : d.looks ≡ b.looks + 1
  pub won : Won b d

-- None started: the seat looked once. The word looked at has none that is scheduled, or the exchange found another
-- word.
pub record NotBegan (b d : BusView) : Type 0 where
  pub rests : BusRests b d
  pub looks : d.looks ≡ b.looks + 1
  pub none : (NoExchange b d × NoneScheduled d.seen) ⊎ Lost b d

-- The transmission failed in one step, by whose word its abort was asked, or wasn't; where it was, a second step reaped
-- it.
pub record Failed (b d : BusView) : Type 0 where
  pub is : d ≡ bus_failed b d.found
  pub not_asked : mark_of d.found b.mailbox ≡ 15

pub record FailedAndReaped (b d : BusView) : Type 0 where
  pub is : d ≡ bus_reaped (bus_failed b d.found)
  pub asked : mark_of d.found b.mailbox ≡ 31

-- what a route requested, and its claim, stay
pub record Stays (p q : RouteView) : Type 0 where
  pub route : q.route ≡ p.route
  pub requested : q.requested ≡ p.requested
  pub last : q.last ≡ p.last
  pub claims : q.claims ≡ p.claims
  pub looks : q.looks ≡ p.looks + 1

-- by the word looked at the number is in this mailbox, and its abort was asked already
pub record IsAskedThere (q : RouteView) (number mailbox : ℕ) : Type 0 where
  pub small : mailbox < 3
  pub here : is_in q.last q.route q.seen number mailbox ≡ true
  pub asked : (mark_of q.seen mailbox ≡ 31) ⊎ (mark_of q.seen mailbox ≡ 23)

-- Asked: this call asked, or the abort was asked already
abbrev pub AsksOrWas : RouteView → RouteView → ℕ → Type 0
AsksOrWas p q number = (q.asked ≡ p.asked ++ number ∷ [])
    ⊎ ((q.asked ≡ p.asked) × ((mailbox : ℕ) × IsAskedThere q number mailbox))

pub record IsMissed (p q : RouteView) (word : ℕ) : Type 0 where
  pub aborted : q.aborted ≡ p.aborted
  pub asked : q.asked ≡ p.asked
  pub found : q.found ≡ word
  pub differs : ¬ (word ≡ q.seen)
  pub same : SameFilling p.route q.seen word

-- what an answer to an abort says of the seat before and after
abbrev pub Answered : RouteView → RouteView → ℕ → AbortOutcome → Type 0
Answered p q number Aborted = (q.aborted ≡ p.aborted ++ number ∷ []) × (q.asked ≡ p.asked)
Answered p q number Asked = (q.aborted ≡ p.aborted) × AsksOrWas p q number
Answered p q number Gone = (q.aborted ≡ p.aborted) × (q.asked ≡ p.asked) × Has q.ended number
Answered p q number (Contended word) = IsMissed p q word

-- the exchange of an abort found this word, and not the last one looked at; in both the same mailboxes fill under the
-- route
pub record IsMissedBy (p q : RouteView) (word : ℕ) : Type 0 where
  pub is : q ≡ missed p word
  pub differs : ¬ (word ≡ p.seen)
  pub same : SameFilling p.route p.seen word

-- the same where the request is taken out of its mailbox, and where it is asked to end
abbrev pub TakesOut : RouteView → RouteView → ℕ → AbortOutcome → Type 0
TakesOut p q mailbox Aborted = q ≡ aborted_at p mailbox
TakesOut p q mailbox Asked = ⊥
TakesOut p q mailbox Gone = ⊥
TakesOut p q mailbox (Contended word) = IsMissedBy p q word

abbrev pub AsksNow : RouteView → RouteView → ℕ → AbortOutcome → Type 0
AsksNow p q mailbox Aborted = ⊥
AsksNow p q mailbox Asked = q ≡ asked_at p mailbox
AsksNow p q mailbox Gone = ⊥
AsksNow p q mailbox (Contended word) = IsMissedBy p q word

-- the points that an abort passes: it looks, and where the number is in a mailbox and its abort was not asked, it tries
-- to abort
abbrev pub HearsAbort : {G : Type 0} → (G → List Point → Type 0) → RouteView → RouteView → AbortOutcome → G → G → Type 0
HearsAbort may_have_heard p q Aborted old new = Passes may_have_heard (Look ∷ Abort ∷ []) old new
HearsAbort may_have_heard p q Asked old new = ((q.asked ≡ p.asked) × Passes may_have_heard (Look ∷ []) old new)
    ⊎ Passes may_have_heard (Look ∷ Abort ∷ []) old new
HearsAbort may_have_heard p q Gone old new = Passes may_have_heard (Look ∷ []) old new
HearsAbort may_have_heard p q (Contended word) old new = Passes may_have_heard (Look ∷ Abort ∷ []) old new

-- the bus's seat is at the same mailboxes, with the same places of routes
pub record SameMailboxes (a b : BusPlace) : Type 0 where
  pub table : b.table ≡ a.table
  pub priority : b.txfp ≡ a.txfp
  pub routes : b.routes ≡ a.routes
