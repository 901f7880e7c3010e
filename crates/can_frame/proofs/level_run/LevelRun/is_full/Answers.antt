use Rattle.can_frame.proofs.LevelRuns.{full_is}
use Rattle.can_frame.proofs.level_run.LevelRun.is_full.Goals as goal

pub returns-clause-five : goal.returns-clause-five
returns-clause-five c text h = full_is text c.args.self.now h
