use Rattle.gw_config.specs.Nodes.{controller_places}
use Rattle.gw_site.proofs.Pairs.{PairsBelow}
use Rattle.gw_run.specs.Ports.{StartsPort}
use Rattle.gw_run.proofs.opening.ports_of.Given as goal

abbrev pub invariant-loop-nth : goal.invariant-loop-nth
invariant-loop-nth l = PairsBelow (λ k. StartsPort l.script) (controller_places l.script l.segment) l.ports.items l.nth
