-- What the nodes of a segment bring to their ports.
use Rattle.std.specs.Prelude.{◌≡◌, ℕ, Bool, true, Option, Some, None, IfSome}
use Rattle.std.specs.Prelude.{List, [], ◌∷◌, ◌++◌, false, option_map, if◌then◌else◌}
use Rattle.can_frame.specs.Frames.{FrameValue}
use Rattle.can_node.specs.declared.outcome.Outcome.{Outcome}
use Rattle.can_node.specs.declared.outcome.Outcome.TheVariants.{Nothing, Took, Completed}
use Rattle.can_node.specs.declared.outcome.Outcome.TheVariants.{Lost, Errored, WentOff, CameBack}
use Rattle.bx_core.specs.TxBus.{Item, BusPast, BusCall, asked_ready, asked_start}
use Rattle.bx_core.specs.TxBus.{IsUndone, after_start, after_complete, after_fail}
use Rattle.can_station.specs.declared.event.Label.{Label}
use Rattle.can_station.specs.declared.transmission.Transmission.{Transmission}
use Rattle.can_station.specs.Outcomes.{is_failure}

-- the request on the bus of a node that sends this
abbrev pub item_with : FrameValue → Option Label → Option Item
item_with frame None = None
item_with frame (Some label) = Some (label.route, label.number, frame)

abbrev pub item_of : Option Transmission → Option Item
item_of None = None
item_of (Some sent) = item_with sent.frame sent.label

-- what a station started at a bit, if it began
abbrev pub started_item : Bool → Option Transmission → Option Item
started_item began sending = if began then item_of sending else None

-- this request, if there is one, is not over
abbrev pub Undone : BusPast → Option Item → Type 0
Undone past item = IfSome item (λ x. IsUndone past x)

-- the past of a bus side that started this, or nothing
abbrev pub started : BusPast → Option Item → BusPast
started past None = past
started past (Some item) = after_start past (Some item)

-- how a node asks its bus side at the start of a bit: not at all where it doesn't want to start, else whether a request
-- is ready, and where one is, for that
abbrev pub asked_at : Bool → Bool → Option Item → List BusCall
asked_at false ready given = []
asked_at true false given = asked_ready false ∷ []
asked_at true true given = asked_ready true ∷ asked_start given ∷ []

-- what begins then: just what was given
abbrev pub begun_at : Bool → Bool → Option Item → Option Item
begun_at false ready given = None
begun_at true false given = None
begun_at true true given = given

-- a bus side is asked just so at the start of a bit, and this begins, or nothing
pub record Asks {P : Type 0} (asked : P → List BusCall → Type 0) (wants : Bool) (begins : Option Item)
    (from to : P) : Type 0 where
  pub ready : Bool
  pub given : Option Item
  pub begins_is : begins ≡ begun_at wants ready given
  pub calls : (past : List BusCall) → asked from past → asked to (past ++ asked_at wants ready given)

-- a request as a bus side names it
abbrev pub numbers_of : Option Label → Option (ℕ × ℕ)
numbers_of = option_map (λ label. (label.route, label.number))

-- the past of a bus side behind an outcome of its node: what was on the bus was sent, or failed, and reaped this
abbrev pub failed : BusPast → Option Item → Option Label → BusPast
failed past None reaped = past
failed past (Some item) reaped = after_fail past (numbers_of reaped)

abbrev pub completed : BusPast → Option Item → BusPast
completed past None = past
completed past (Some item) = after_complete past (Some item)

abbrev pub settled : BusPast → Option Item → Outcome → Option Label → BusPast
settled past item Nothing reaped = past
settled past item (Took start frame) reaped = past
settled past item Completed reaped = completed past item
settled past item Lost reaped = failed past item reaped
settled past item (Errored kind) reaped = failed past item reaped
settled past item WentOff reaped = failed past item reaped
settled past item CameBack reaped = past

-- the frames that a sink is offered at an outcome
abbrev pub taken_by : Outcome → List FrameValue
taken_by Nothing = []
taken_by (Took start frame) = frame ∷ []
taken_by Completed = []
taken_by Lost = []
taken_by (Errored kind) = []
taken_by WentOff = []
taken_by CameBack = []

-- a request is reaped only where its transmission failed
pub record Reaps (sending : Option Transmission) (outcome : Outcome) (label : Label) : Type 0 where
  pub sent : Transmission
  pub sends : sending ≡ Some sent
  pub label_is : sent.label ≡ Some label
  pub fails : is_failure outcome ≡ true
