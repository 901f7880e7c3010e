use Rattle.std.proofs.Common.{◌+◌, Some, arith, sym, ap, subst, ◌∙◌}
use Rattle.std.proofs.lemmas.Option.{slice_get-get_or}
use Rattle.can_segment.proofs.Fresh.{FreshBelow, fresh_step}
use Rattle.can_segment.proofs.opening.talkers_of.Goals as goal

pub loop-talker-preserved : goal.loop-talker-preserved
loop-talker-preserved c =
    let place = c.loop-talker.talker-index in
    subst (λ ms. FreshBelow (λ talker. talker.on) c.args.talkers.now ms (place + 1)) (sym c.in_ok-push.ensures.items)
    (fresh_step (λ talker. talker.on) c.args.talkers.now c.loop-talker.members.items place c.talker-item.result
    c.new.result
    (slice_get-get_or c.args.talkers.now place c.talker-item.result (omega (arith, c.loop-talker-test.true))
    ∙ ap Some (sym c.talker-item.is)) c.new.ensures c.loop-talker.invariant)
