use Rattle.can_station.proofs.station.sof_of.Goals as goal

pub returns-in-Some : goal.returns-in-Some
returns-in-Some c past h = rw (← c.in-Some.is) (c.sends_from.ensures.sends past h)
