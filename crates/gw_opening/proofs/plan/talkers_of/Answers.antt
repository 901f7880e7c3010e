use Rattle.std.proofs.Common.{◌+◌, Some, arith, sym, ap, subst, ◌∙◌}
use Rattle.std.proofs.lemmas.Option.{slice_get-get_or}
use Rattle.gw_opening.specs.Plans.{IsTalkerOf}
use Rattle.gw_site.proofs.Pairs.{PairsBelow, pairs_step}
use Rattle.gw_opening.proofs.plan.talkers_of.Goals as goal

pub loop-one-preserved : goal.loop-one-preserved
loop-one-preserved c =
    let place = c.loop-one.one-index in
    subst (λ talkers. PairsBelow (λ k. IsTalkerOf) c.args.said.now talkers (place + 1)) (sym c.in_ok-push.ensures.items)
    (pairs_step (λ k. IsTalkerOf) c.args.said.now c.loop-one.talkers.items place c.one-item.result
    c.in_ok-talker_of.field-0
    (slice_get-get_or c.args.said.now place c.one-item.result (omega (arith, c.loop-one-test.true))
    ∙ ap Some (sym c.one-item.is)) c.in_ok-talker_of.ensures c.loop-one.invariant)
