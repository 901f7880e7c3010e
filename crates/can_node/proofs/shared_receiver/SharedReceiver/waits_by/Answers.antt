use Rattle.std.proofs.Common.{take}
use Rattle.can_node.proofs.SendRuns.{along_waiting}
use Rattle.can_node.proofs.shared_receiver.SharedReceiver.waits_by.Goals as goal

pub returns-clause-along : goal.returns-clause-along
returns-clause-along c =
    let by = c.stay_by.ensures.by in
    rw by.next_is (along_waiting c.args.self.now (take c.stay_by.result c.args.levels.now) by.stays)
