use Rattle.can_node.proofs.Listens.{all_take}
use Rattle.can_node.proofs.shared_receiver.SharedReceiver.takes.Goals as goal

pub returns : goal.returns
returns c =
    let here = c.in-Receiving-default-default-AfterSlot in
    let push = c.in_ok-frame.ensures in
    all_take c.args.self.now here.start here.may_begin here.stage c.args.level c.in_ok-frame.frame push.0 here.is push.1
