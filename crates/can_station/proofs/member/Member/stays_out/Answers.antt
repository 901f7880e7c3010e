use Rattle.std.proofs.Common.{arith}
use Rattle.can_station.proofs.member.Member.stays_out.Goals as goal

pub returns-clause-may : goal.returns-clause-may
returns-clause-may c some active = record {
  active = active;
  is_on = omega (arith, c.if-bit-self.false);
  uneventful = c.is_uneventful.ensures.uneventful c.if-not-is_uneventful.false;
  goes = c.stays_out.ensures.may;
}
