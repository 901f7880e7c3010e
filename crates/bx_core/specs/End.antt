-- How a request ends.
use Rattle.bx_core.specs.declared.waiting.Waiting.{Waiting}
use Rattle.bx_core.specs.declared.end.End.{End}
use Rattle.bx_core.specs.declared.end.End.TheVariants.{Done, Aborted, Reaped}
use Rattle.bx_core.specs.States.{RouteLists}
use Rattle.bx_core.specs.Steps.{done_lists, aborted_lists, reaped_lists}

-- the lists of a route after a request of its ended so
abbrev pub ended_lists : RouteLists → Waiting → End → RouteLists
ended_lists l w Done = done_lists l w
ended_lists l w Aborted = aborted_lists l w
ended_lists l w Reaped = reaped_lists l w
