use Rattle.std.proofs.Common.{◌≡◌, ◌-◌, take}
use Rattle.gw_config.specs.Talkers.{talker_instances}
use Rattle.gw_config.proofs.talker.left_after.Given as goal

abbrev pub invariant-loop-talker : goal.invariant-loop-talker
invariant-loop-talker l = l.left ≡ l.fn.left - talker_instances (take l.talker-index l.talkers)
