use Rattle.std.proofs.Common.{arith}
use Rattle.std.proofs.lemmas.List.Elements.{All-push}
use Rattle.gw_script.specs.LineParts.{IsEnd}
use Rattle.gw_script.proofs.repeats.Ends.new.Goals as goal

pub loop-node-preserved : goal.loop-node-preserved
loop-node-preserved c =
    let so_far = c.loop-node.invariant in
    let added = c.in_ok-push.ensures in (
      omega (arith, so_far.0, added.len),
      rw added.items (All-push IsEnd c.loop-node.started.items c.in_ok-new.field-0 so_far.1 c.in_ok-new.ensures),
    )
