use Rattle.std.proofs.Common.{sym, subst}
use Rattle.gw_config.specs.Nodes.{controller_places}
use Rattle.gw_site.specs.Pairs.{Pairs}
use Rattle.gw_run.specs.Ports.{StartsPort}
use Rattle.gw_run.proofs.opening.plain_site.Goals as goal

pub returns-in-Ok : goal.returns-in-Ok
returns-in-Ok c = record {
  plan_is = c.in-Ok.ensures.plan;
  opens = c.in-Ok.ensures.opens;
  ports = subst (λ ports. Pairs (λ k. StartsPort c.args.script.now)
      (controller_places c.args.script.now c.args.segment) ports.items)
      (sym c.in-Ok.ensures.ports) c.in_ok-ports.ensures;
}
