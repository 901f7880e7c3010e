use Rattle.std.proofs.Common.{arith}
use Rattle.can_station.proofs.PlaceSets.{fewer, first_below, first_is, without_place}
use Rattle.can_station.proofs.place_set.PlaceSet.take_first.Goals as goal

pub returns-clause-some : goal.returns-clause-some
returns-clause-some c =
    let first = first_is c.args.self.now (omega (arith, c.if-self-eq0.false)) (omega arith) in (
      first,
      without_place c.args.self.now _
          (first_below c.args.self.now (omega (arith, c.if-self-eq0.false)) (omega arith)) (omega arith),
    )

pub returns-clause-fewer : goal.returns-clause-fewer
returns-clause-fewer c =
    let first = first_is c.args.self.now (omega (arith, c.if-self-eq0.false)) (omega arith) in
    fewer c.args.self.now _
    (first_below c.args.self.now (omega (arith, c.if-self-eq0.false)) (omega arith)) first.has

pub returns-clause-below : goal.returns-clause-below
returns-clause-below c =
    first_below c.args.self.now (omega (arith, c.if-self-eq0.false)) (omega arith)
