-- One controller more is looked at.
use Rattle.std.proofs.Common.{◌∙◌, ap, sym, arith}
use Rattle.std.specs.Str.{bytes_eq}
use Rattle.gw_config.proofs.NodeLaws.{on_found, on_passed, on_end}
use Rattle.gw_config.proofs.node_place.controller_on.Goals as goal

pub returns-then-eq : goal.returns-then-eq
returns-then-eq c =
    sym (on_found c.args.name.now c.loop-controller.place c.args.segment c.args.controllers.now
    c.loop-controller.controller-index c.controller-item.result
    c.loop-controller-test.true c.controller-item.is (sym c.segment.ensures ∙ c.if-segment.false)
    (ap (bytes_eq c.args.name.now) (sym c.name.ensures) ∙ sym c.if-eq.ensures))
    ∙ c.loop-controller.invariant.rest

pub loop-controller-preserved : goal.loop-controller-preserved
loop-controller-preserved c = record {
  rest =
      sym (on_passed c.args.name.now c.loop-controller.place c.args.segment c.args.controllers.now
      c.loop-controller.controller-index c.controller-item.result
      c.loop-controller-test.true c.controller-item.is (sym c.segment.ensures ∙ c.if-segment.false)
      (ap (bytes_eq c.args.name.now) (sym c.name.ensures) ∙ sym c.if-eq.ensures))
      ∙ c.loop-controller.invariant.rest;
  few = omega (arith, c.loop-controller.invariant.few);
}

pub returns : goal.returns
returns c =
    sym (on_end c.args.name.now c.loop-controller.place c.args.segment c.args.controllers.now
    c.loop-controller.controller-index c.loop-controller-test.false)
    ∙ c.loop-controller.invariant.rest
