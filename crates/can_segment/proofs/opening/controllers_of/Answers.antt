use Rattle.std.proofs.Common.{◌+◌, arith, sym, subst}
use Rattle.std.proofs.lemmas.Option.{slice_get-get_or}
use Rattle.can_segment.proofs.Fresh.{FreshBelow, fresh_step}
use Rattle.can_segment.proofs.opening.controllers_of.Goals as goal

pub loop-controller-preserved : goal.loop-controller-preserved
loop-controller-preserved c =
    let place = c.loop-controller.controller-index in
    subst (λ ms. FreshBelow (λ controller. controller.on) c.args.controllers.now ms (place + 1))
    (sym c.in_ok-push.ensures.items)
    (fresh_step (λ controller. controller.on) c.args.controllers.now c.loop-controller.members.items place _
    c.new.result
    (slice_get-get_or c.args.controllers.now place _ (omega (arith, c.loop-controller-test.true))) c.new.ensures
    c.loop-controller.invariant)
