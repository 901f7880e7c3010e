-- What the lines of a record tell of a node is what its port was brought: the bus side its starts, its
-- completions and what was reaped, the sink the frames that were taken.
use Rattle.std.specs.Prelude.{◌≡◌, ℕ, ◌≤◌, ◌==◌, Bool, Option, List, []}
use Rattle.std.specs.Prelude.{◌∷◌, ◌++◌, length, option_to_list, if◌then◌else◌}
use Rattle.can_frame.specs.Frames.{FrameValue}
use Rattle.bx_core.specs.Lists.{Each}
use Rattle.bx_core.specs.TxBus.{Item, BusPast, BusCall, IsUndone}
use Rattle.can_station.specs.declared.event.Event.{Event}
use Rattle.can_station.specs.declared.event.EventKind.{EventKind}
use Rattle.can_station.specs.declared.event.EventKind.TheVariants as kinds
use Rattle.can_station.specs.Ports.{Asks, item_with}

-- what is reported of a node
abbrev pub kinds_of : ℕ → List Event → List EventKind
kinds_of node [] = []
kinds_of node (event ∷ more) = if event.node == node then event.kind ∷ kinds_of node more else kinds_of node more

-- a line names a request that started, one that was sent, one that was reaped, or a frame that was taken
abbrev pub start_in : EventKind → List Item
start_in (kinds.Started frame label) = option_to_list (item_with frame label)
start_in (kinds.Took start frame) = []
start_in (kinds.Completed start frame label) = []
start_in (kinds.Lost start) = []
start_in (kinds.Error kind) = []
start_in kinds.Off = []
start_in kinds.Back = []
start_in (kinds.Reaped label) = []

abbrev pub sent_in : EventKind → List Item
sent_in (kinds.Started frame label) = []
sent_in (kinds.Took start frame) = []
sent_in (kinds.Completed start frame label) = option_to_list (item_with frame label)
sent_in (kinds.Lost start) = []
sent_in (kinds.Error kind) = []
sent_in kinds.Off = []
sent_in kinds.Back = []
sent_in (kinds.Reaped label) = []

abbrev pub reaped_in : EventKind → List (ℕ × ℕ)
reaped_in (kinds.Started frame label) = []
reaped_in (kinds.Took start frame) = []
reaped_in (kinds.Completed start frame label) = []
reaped_in (kinds.Lost start) = []
reaped_in (kinds.Error kind) = []
reaped_in kinds.Off = []
reaped_in kinds.Back = []
reaped_in (kinds.Reaped label) = (label.route, label.number) ∷ []

abbrev pub taken_in : EventKind → List FrameValue
taken_in (kinds.Started frame label) = []
taken_in (kinds.Took start frame) = frame ∷ []
taken_in (kinds.Completed start frame label) = []
taken_in (kinds.Lost start) = []
taken_in (kinds.Error kind) = []
taken_in kinds.Off = []
taken_in kinds.Back = []
taken_in (kinds.Reaped label) = []

-- what all of them name, in their order
abbrev pub all_in : {X : Type 0} → (EventKind → List X) → List EventKind → List X
all_in names [] = []
all_in names (one ∷ more) = names one ++ all_in names more

-- the past of a bus side which was brought this
abbrev pub grown : BusPast → List EventKind → BusPast
grown past tells = record {
  started = past.started ++ all_in start_in tells;
  done = past.done ++ all_in sent_in tells;
  reaped = past.reaped ++ all_in reaped_in tells;
}

-- what starts at one of these lines is not over: it was neither sent nor reaped, in the past or by an earlier line
abbrev pub StartsUndone : BusPast → List EventKind → Type 0
StartsUndone past [] = Unit {0}
StartsUndone past (one ∷ more) = Each (IsUndone past) (start_in one) × StartsUndone (grown past (one ∷ [])) more

-- A port was brought what is reported of its node, which sends this then; what starts is not over. Its bus side was asked
-- for a request just where the node wanted to start, and what starts is what it gave.
pub record IsBrought {P : Type 0} (after : P → BusPast → Type 0) (asked : P → List BusCall → Type 0)
    (transmitting : P → Option Item) (sink : P → List FrameValue → Type 0) (stays : P → P → Type 0)
    (tells : List EventKind) (wants : Bool) (sends : Option Item) (from to : P) : Type 0 where
  pub bus : (past : BusPast) → after from past → after to (grown past tells)
  pub undone : (past : BusPast) → after from past → StartsUndone past tells
  pub begins : Option Item
  pub begins_is : all_in start_in tells ≡ option_to_list begins
  pub asks : Asks asked wants begins from to
  pub transmits : transmitting to ≡ sends
  pub offers : (past : List FrameValue) → sink from past → sink to (past ++ all_in taken_in tells)
  pub one_at_most : length (all_in taken_in tells) ≤ 1
  pub stays_on : stays from to
