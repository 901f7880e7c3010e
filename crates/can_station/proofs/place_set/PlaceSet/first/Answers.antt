use Rattle.std.proofs.Common.{arith}
use Rattle.can_station.proofs.PlaceSets.{first_is, some_bits}
use Rattle.can_station.proofs.place_set.PlaceSet.first.Goals as goal

pub returns-clause-some : goal.returns-clause-some
returns-clause-some c few = first_is c.args.self (some_bits c.args.self.bits few) (omega arith)
