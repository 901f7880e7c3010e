-- One element more is looked at.
use Rattle.std.proofs.Common.{◌∙◌, ap, sym}
use Rattle.std.specs.Str.{bytes_eq}
use Rattle.gw_fields.proofs.Places.{position_here, position_later, position_nowhere}
use Rattle.gw_fields.proofs.name.place_of.Goals as goal

pub returns-then-eq-clause-value : goal.returns-then-eq-clause-value
returns-then-eq-clause-value g c =
    sym (position_here (bytes_eq c.args.name.now) g.T.Named.name_of c.args.all.now c.loop-place.place
    c.index-all-place.result c.loop-place-test.true c.index-all-place.is
    (ap (bytes_eq c.args.name.now) (sym c.name.ensures) ∙ sym c.if-eq.ensures))
    ∙ c.loop-place.invariant

pub loop-place-preserved : goal.loop-place-preserved
loop-place-preserved g c =
    sym (position_later (bytes_eq c.args.name.now) g.T.Named.name_of c.args.all.now c.loop-place.place
    c.index-all-place.result c.loop-place-test.true c.index-all-place.is
    (ap (bytes_eq c.args.name.now) (sym c.name.ensures) ∙ sym c.if-eq.ensures))
    ∙ c.loop-place.invariant

pub returns-clause-value : goal.returns-clause-value
returns-clause-value g c =
    sym (position_nowhere (bytes_eq c.args.name.now) g.T.Named.name_of c.args.all.now c.loop-place.place
    c.loop-place-test.false) ∙ c.loop-place.invariant
