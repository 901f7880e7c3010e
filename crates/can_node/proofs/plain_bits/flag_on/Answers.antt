use Rattle.std.proofs.Common.{refl}
use Rattle.can_confinement.specs.Confinement.{state_of}
use Rattle.can_confinement.specs.Counters.{counts_of}
use Rattle.can_node.proofs.FlagMoves.{flag_on, wait_on}
use Rattle.can_node.proofs.plain_bits.flag_on.Goals as goal

pub returns-then-sent-lt5-clause-counted : goal.returns-then-sent-lt5-clause-counted
returns-then-sent-lt5-clause-counted c reported counters now =
    rw (c.in-DominantFlag.is, c.saturating_sub.ensures)
    (record {
      goes = flag_on c.in-DominantFlag._kind c.in-DominantFlag._role c.in-DominantFlag.sent c.in-DominantFlag.until now
          (state_of (counts_of counters)) c.if-sent-lt5.true;
      reads_none = refl;
    })

pub returns-then-until-ge2-clause-counted : goal.returns-then-until-ge2-clause-counted
returns-then-until-ge2-clause-counted c reported counters now =
    rw (c.in-AwaitingDelimiter.is, c.if-not-first.true)
    (record {
      goes = wait_on c.in-AwaitingDelimiter._kind c.in-AwaitingDelimiter._role c.in-AwaitingDelimiter.until now
          (state_of (counts_of counters))
          c.if-until-ge2.true;
      reads_none = refl;
    })
