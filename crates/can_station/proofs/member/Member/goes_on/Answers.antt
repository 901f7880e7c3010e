use Rattle.std.proofs.Common.{arith}
use Rattle.can_station.proofs.member.Member.goes_on.Goals as goal

pub returns-then-is_uneventful : goal.returns-then-is_uneventful
returns-then-is_uneventful c is = record {
  active = c.if-self.false;
  is_on = omega (arith, c.if-bit-self.false);
  uneventful = c.is_uneventful.ensures.uneventful c.if-is_uneventful.true;
  goes = c.goes_on.ensures.may is;
}
