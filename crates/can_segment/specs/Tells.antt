-- The events of a trace, in the order of a report.
use Rattle.std.specs.Prelude.{ℕ, zero, suc, Option, Some, None, List, [], ◌++◌, length}
use Rattle.can_station.specs.declared.event.Event.{Event}
use Rattle.can_station.specs.declared.event.EventKind.{EventKind}
use Rattle.can_station.specs.declared.transmission.Transmission.{Transmission}
use Rattle.can_station.specs.Lines.{start_kinds, outcome_kinds, reaped_kinds, lines}
use Rattle.can_segment.specs.Traces.{Act, Bit, act_of, sending_of, sending_now}

-- the starts that are reported of a node's act
abbrev pub starts_of : Option Act → List EventKind
starts_of None = []
starts_of (Some act) = start_kinds act.begun

-- and the rest, where the node sent this before the act
abbrev pub rest_of : Option Transmission → Option Act → List EventKind
rest_of before None = []
rest_of before (Some act) = outcome_kinds (sending_now before act.begun) act.outcome ++ reaped_kinds act.reaped

-- the lines of all nodes at a bit, from a node on
abbrev pub lines_from : (ℕ → List EventKind) → ℕ → ℕ → ℕ → List Event
lines_from tells bit node zero = []
lines_from tells bit node (suc more) = lines bit node (tells node) ++ lines_from tells bit (suc node) more

-- what is reported of the next bit behind a trace: first what starts, then the rest, each in the order of nodes
abbrev pub events_at : List Bit → Bit → List Event
events_at trace bit =
    lines_from (λ k. starts_of (act_of k bit)) (length trace) 0 (length bit.acts)
    ++ lines_from (λ k. rest_of (sending_of k trace) (act_of k bit)) (length trace) 0 (length bit.acts)
