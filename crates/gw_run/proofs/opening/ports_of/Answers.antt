use Rattle.std.proofs.Common.{◌+◌, sym, subst}
use Rattle.gw_config.specs.Nodes.{controller_places}
use Rattle.gw_site.proofs.Pairs.{PairsBelow, pairs_step}
use Rattle.gw_run.specs.Ports.{StartsPort}
use Rattle.gw_run.proofs.opening.ports_of.Goals as goal

pub loop-nth-preserved : goal.loop-nth-preserved
loop-nth-preserved c =
    let s = c.args.script.now in
    let places = controller_places s c.args.segment in
    subst (λ ports. PairsBelow (λ k. StartsPort s) places ports (c.loop-nth.nth + 1)) (sym c.in_ok-push_one.ensures)
    (pairs_step (λ k. StartsPort s) places c.loop-nth.ports.items c.loop-nth.nth c.controller_there-controller.result
    c.plain_port.result c.controller_there-controller.ensures.place c.plain_port.ensures c.loop-nth.invariant)
