use Rattle.std.proofs.Common.{arith, not, ap, refl}
use Rattle.can_frame.proofs.LevelRuns.{count_anew, count_longer}
use Rattle.can_frame.proofs.level_run.LevelRun.push.Goals as goal
use Rattle.can_frame.proofs.level_run.LevelRun.push.Goals.{then-level-self, else-level-self}

pub returns-clause-ends : goal.returns-clause-ends
returns-clause-ends c text h =
    let run = c.args.self.now in
    let x = c.args.level in
    record {
      count_is = elim c.if-level-self.branch [
        | then-level-self w ↦
            omega (arith, w.self-is, c.min-longer.ensures, count_longer text run x h (ap not w.if-level-self.true))
        | else-level-self w ↦ omega (arith, w.self-is, count_anew text run x h (ap not w.if-level-self.false))
      ];
      level_is = refl;
    }
