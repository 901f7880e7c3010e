use Rattle.std.proofs.Common.{sym, take, ◌∙◌}
use Rattle.can_node.proofs.SendRuns.{along_by}
use Rattle.can_node.proofs.shared_receiver.SharedReceiver.reads_along_by.Goals as goal

pub returns-then-is_in_region-clause-along : goal.returns-then-is_in_region-clause-along
returns-then-is_in_region-clause-along c =
    along_by c.args.self.now (take c.reads_on_by.result c.args.levels.now) c.reads_on_by.new.self
    (sym c.is_in_region.ensures ∙ c.if-is_in_region.true) c.reads_on_by.ensures.on
