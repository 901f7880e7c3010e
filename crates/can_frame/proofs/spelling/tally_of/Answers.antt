use Rattle.can_frame.proofs.Tallies.{tally_none}
use Rattle.can_frame.proofs.spelling.tally_of.Goals as goal

pub loop-level-init : goal.loop-level-init
loop-level-init c = tally_none _ c.new.ensures
