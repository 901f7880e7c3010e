use Rattle.gw_opening.specs.Openings.{SameMails}
use Rattle.gw_opening.proofs.Openings.{OpensBelow}
use Rattle.gw_opening.proofs.route_start.lanes_of.Given as goal

abbrev pub invariant-loop-route : goal.invariant-loop-route
invariant-loop-route g l = OpensBelow l.script l.sites l.lanes.items l.route × SameMails l.initial.sites l.sites
