-- The lines of a record: what is reported of a node at a bit.
use Rattle.std.specs.Prelude.{ℕ, Option, Some, None, List, [], ◌∷◌}
use Rattle.can_node.specs.declared.outcome.Outcome.{Outcome}
use Rattle.can_node.specs.declared.outcome.Outcome.TheVariants.{Nothing, Took, Completed}
use Rattle.can_node.specs.declared.outcome.Outcome.TheVariants.{Lost, Errored, WentOff, CameBack}
use Rattle.can_station.specs.declared.event.Event.{Event}
use Rattle.can_station.specs.declared.event.Label.{Label}
use Rattle.can_station.specs.declared.event.EventKind.{EventKind}
use Rattle.can_station.specs.declared.transmission.Transmission.{Transmission}
use Rattle.can_station.specs.declared.event.EventKind.TheVariants as kinds

-- what is reported of the beginning of a frame
abbrev pub start_kinds : Option Transmission → List EventKind
start_kinds None = []
start_kinds (Some sent) = kinds.Started sent.frame sent.label ∷ []

-- what is reported of an outcome of a node that sends this, or nothing
abbrev pub outcome_kinds : Option Transmission → Outcome → List EventKind
outcome_kinds sending Nothing = []
outcome_kinds sending (Took start frame) = kinds.Took start frame ∷ []
outcome_kinds None Completed = []
outcome_kinds (Some sent) Completed = kinds.Completed sent.start sent.frame sent.label ∷ []
outcome_kinds None Lost = []
outcome_kinds (Some sent) Lost = kinds.Lost sent.start ∷ []
outcome_kinds sending (Errored kind) = kinds.Error kind ∷ []
outcome_kinds sending WentOff = kinds.Off ∷ []
outcome_kinds sending CameBack = kinds.Back ∷ []

-- and of a request that ended by its failure
abbrev pub reaped_kinds : Option Label → List EventKind
reaped_kinds None = []
reaped_kinds (Some label) = kinds.Reaped label ∷ []

-- a node's lines at a bit
abbrev pub lines : ℕ → ℕ → List EventKind → List Event
lines bit node [] = []
lines bit node (one ∷ more) = record { bit = bit; node = node; kind = one } ∷ lines bit node more
