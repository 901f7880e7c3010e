-- What the nodes' actions at a bit tell, one node after another.
use Rattle.std.specs.Prelude.{ℕ, ◌+◌, List, [], ◌∷◌, ◌++◌, length}
use Rattle.can_station.specs.declared.event.Event.{Event}
use Rattle.can_station.specs.declared.event.EventKind.{EventKind}
use Rattle.can_station.specs.declared.action.Action.{Action}
use Rattle.can_station.specs.declared.member.Member.{Member}
use Rattle.can_station.specs.Lines.{start_kinds, outcome_kinds, reaped_kinds, lines}
use Rattle.can_station.specs.Actions.{begun_by}

-- what started, and the rest
abbrev pub start_of : Action → List EventKind
start_of action = start_kinds (begun_by action)

abbrev pub rest_by : Action → List EventKind
rest_by action = outcome_kinds action.sent action.outcome ++ reaped_kinds action.reaped

-- the lines of these nodes, the first of which has this number
unfoldable pub events_by : (Action → List EventKind) → ℕ → ℕ → List Member → List Event
events_by tells bit node [] = []
events_by tells bit node (member ∷ more) = lines bit node (tells member.action) ++ events_by tells bit (node + 1) more

-- all lines of a bit: what starts, and then the rest, each for the talkers and then for the controllers
abbrev pub bit_lines : ℕ → List Member → List Member → List Event
bit_lines bit talkers controllers =
    (events_by start_of bit 0 talkers ++ events_by start_of bit (length talkers) controllers)
    ++ (events_by rest_by bit 0 talkers ++ events_by rest_by bit (length talkers) controllers)
