use Rattle.std.proofs.Common.{arith, ap, nat_eq}
use Rattle.can_station.proofs.PlaceSets.{empty_none}
use Rattle.can_station.proofs.place_set.PlaceSet.is_empty.Goals as goal

pub returns-clause-some : goal.returns-clause-some
returns-clause-some c none = ap (λ n. nat_eq n 0) (empty_none c.args.self none (omega arith))
