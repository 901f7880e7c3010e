use Rattle.std.proofs.Common.{◌≡◌, map, take}
use Rattle.gw_run.specs.Schedules.{schedule_of}
use Rattle.gw_run.proofs.schedule.schedules_of.Given as goal

abbrev pub invariant-loop-route : goal.invariant-loop-route
invariant-loop-route l = l.schedules.items ≡ map (schedule_of l.turn) (take l.route-index l.routes)
