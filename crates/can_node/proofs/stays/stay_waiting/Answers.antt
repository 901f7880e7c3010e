use Rattle.can_node.proofs.GoingBy.{stays_more, stays_none}
use Rattle.can_node.proofs.stays.stay_waiting.Goals as goal

pub loop-place-init : goal.loop-place-init
loop-place-init c = stays_none c.args.state.now c.args.levels.now

pub loop-place-preserved : goal.loop-place-preserved
loop-place-preserved c =
    let next = c.stay_on.ensures.stays c.if-not-stay_on.false in
    stays_more c.args.state.now c.loop-place.state c.stay_on.new.state c.args.levels.now c.loop-place.place
    c.loop-place-test.true c.loop-place.invariant next.0 next.1
