use Rattle.std.proofs.Common.{◌≤◌, arith}
use Rattle.can_segment.proofs.IdleBits.{idles_sooner}
use Rattle.can_segment.proofs.idle_burst.idle_until.Goals as goal

pub returns : goal.returns
returns c later =
    let plan = c.args.plan.now in
    let until = c.faultless_until.result in
    let most = c.faultless_until.ensures.limit in
    let start : until ≤ c.next_start-start.result = omega (arith, most, c.min.ensures, c.min-2.ensures) in
    record {
      idle = idles_sooner c.args.deferred.now until c.next_start-start.result plan.talkers.items c.args.talkers.now
          c.args.controllers.now start (rw c.as_slice.ensures.value at c.next_start-start.ensures (omega (
            arith,
            later,
            start,
          )));
      faultless = c.faultless_until.ensures.uneventful plan;
      within = omega (arith, most, c.min.ensures, c.min-2.ensures);
      room = omega (arith, most, c.min.ensures, c.min-2.ensures, c.capacity-room.ensures);
    }
