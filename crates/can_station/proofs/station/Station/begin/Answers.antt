use Rattle.std.proofs.Common.{refl}
use Rattle.can_station.proofs.station.Station.begin.Goals as goal

pub returns : goal.returns
returns c = record {
  start = c.sof_of-start.result;
  sending_is = refl;
  completed_is = refl;
  bit_is = c.begin.ensures.bit;
  stands = c.begin.ensures.stands;
  sends = λ past h. c.sof_of-start.ensures _ (c.begin.ensures.stands past h);
}
