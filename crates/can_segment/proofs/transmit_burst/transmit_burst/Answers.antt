use Rattle.std.proofs.Common.{length}
use Rattle.can_segment.proofs.TransmitBursts.{swapped}
use Rattle.can_segment.proofs.transmit_burst.transmit_burst.Goals as goal

pub returns : goal.returns
returns c =
    let made = c.transmit_next-2 in
    let sent = made.ensures in (
      sent.0,
      sent.1,
      sent.2,
      swapped (length c.args.levels.now.items) sent.0 c.args.deferred.now made.new.deferred c.args.controllers.now
          made.new.senders c.args.talkers.now made.new.others sent.3,
    )
