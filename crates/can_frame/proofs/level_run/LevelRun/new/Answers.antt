use Rattle.can_frame.proofs.LevelRuns.{ends_none}
use Rattle.can_frame.proofs.level_run.LevelRun.new.Goals as goal

pub returns : goal.returns
returns c = ends_none
