use Rattle.std.proofs.Common.{◌≡◌, [], take}
use Rattle.gw_opening.specs.Plans.{abort_in}
use Rattle.gw_opening.proofs.Plans.{kept_of}
use Rattle.gw_opening.proofs.route_start.aborts_of.Given as goal

abbrev pub invariant-loop-abort : goal.invariant-loop-abort
invariant-loop-abort l = l.aborts.items ≡ kept_of (abort_in l.route) [] (take l.abort-index l.script.aborts)
