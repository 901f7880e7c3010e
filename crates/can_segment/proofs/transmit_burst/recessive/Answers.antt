use Rattle.can_segment.specs.Levels.{recessive_levels}
use Rattle.can_segment.proofs.IdleBursts.{are_recessive}
use Rattle.can_segment.proofs.TransmitBursts.{recessive_taken}
use Rattle.can_segment.proofs.transmit_burst.recessive.Goals as goal

pub returns-clause-recessive : goal.returns-clause-recessive
returns-clause-recessive c = recessive_taken c.min.result (recessive_levels 120) (are_recessive 120)
