use Rattle.can_station.proofs.PlaceSets.{with_place}
use Rattle.can_station.proofs.place_set.PlaceSet.insert.Goals as goal

pub returns : goal.returns
returns c = with_place c.args.self.now c.args.place c.requires
