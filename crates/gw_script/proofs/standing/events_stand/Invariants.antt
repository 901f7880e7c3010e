use Rattle.std.proofs.Common.{take}
use Rattle.bx_core.specs.Lists.{Each}
use Rattle.gw_script.specs.NamedPlaces.{NamesEvent}
use Rattle.gw_script.proofs.standing.events_stand.Given as goal

abbrev pub invariant-loop-event : goal.invariant-loop-event
invariant-loop-event l = Each (NamesEvent l.script l.segment) (take l.event-index l.events)
