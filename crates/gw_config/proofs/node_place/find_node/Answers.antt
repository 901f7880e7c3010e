-- One segment more is looked at.
use Rattle.std.proofs.Common.{◌∙◌, sym}
use Rattle.gw_config.proofs.NodeLaws.{node_here, node_later, node_nowhere}
use Rattle.gw_config.proofs.node_place.find_node.Goals as goal

pub returns-in-Some-clause-value : goal.returns-in-Some-clause-value
returns-in-Some-clause-value c =
    sym (node_here c.args.controllers.now c.args.name.now c.args.segments.now c.loop-place.place c.in-Some.node
    c.index-segments-place.result c.loop-place-test.true
    c.index-segments-place.is (sym c.in-Some.ensures))
    ∙ c.loop-place.invariant

pub loop-place-preserved : goal.loop-place-preserved
loop-place-preserved c =
    sym (node_later c.args.controllers.now c.args.name.now c.args.segments.now c.loop-place.place
    c.index-segments-place.result c.loop-place-test.true
    c.index-segments-place.is (sym c.node_on.ensures ∙ c.in_default.is))
    ∙ c.loop-place.invariant

pub returns-clause-value : goal.returns-clause-value
returns-clause-value c =
    sym (node_nowhere c.args.controllers.now c.args.name.now c.args.segments.now c.loop-place.place
    c.loop-place-test.false) ∙ c.loop-place.invariant
