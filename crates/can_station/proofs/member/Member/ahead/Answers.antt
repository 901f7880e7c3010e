use Rattle.std.proofs.Common.{arith}
use Rattle.can_station.proofs.member.Member.ahead.Goals as goal

pub returns-clause-may : goal.returns-clause-may
returns-clause-may c some = record {
  active = c.if-self.false;
  is_on = omega (arith, c.if-bit-self.false);
  uneventful = c.is_uneventful.ensures.uneventful c.if-not-is_uneventful.false;
  goes = c.ahead.ensures.may some;
}
