-- The controller at the place that is found is the one that is looked for.
use Rattle.std.proofs.Common.{◌∙◌, sym, ◌==◌, length, refl}
use Rattle.std.proofs.lemmas.Bool.{eq-eqb}
use Rattle.std.proofs.lemmas.Option.{slice_get_read}
use Rattle.gw_config.specs.Controllers.{ControllerValue}
use Rattle.gw_config.proofs.WhereLaws.{filter-first}
use Rattle.gw_config.proofs.script_places.nth_on.Goals as goal

pub returns-then-left-eq0-clause-controller : goal.returns-then-left-eq0-clause-controller
returns-then-left-eq0-clause-controller c =
    let controllers = c.args.controllers.now in
    let controller = c.index-controllers-place.result in
    slice_get_read controllers (length controllers) c.loop-place.place controller refl c.loop-place-test.true
    c.index-controllers-place.is
    ∙ sym (filter-first (λ (one : ControllerValue). one.segment == c.args.segment) controllers c.loop-place.place
    controller c.loop-place.left
    c.loop-place-test.true c.index-controllers-place.is
    (eq-eqb controller.segment c.args.segment (sym c.segment.ensures ∙ c.if-segment.false)) c.if-left-eq0.true)
    ∙ c.loop-place.invariant.controller
