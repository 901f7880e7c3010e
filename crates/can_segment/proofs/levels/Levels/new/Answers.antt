use Rattle.can_segment.proofs.PackedLevels.{no_levels}
use Rattle.can_segment.proofs.levels.Levels.new.Goals as goal

pub returns : goal.returns
returns c = record {
  items = rw c.new.ensures.items (no_levels 0);
}
