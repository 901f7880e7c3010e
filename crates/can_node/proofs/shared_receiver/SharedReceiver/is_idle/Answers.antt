use Rattle.can_node.proofs.Listens.{idles}
use Rattle.can_node.proofs.shared_receiver.SharedReceiver.is_idle.Goals as goal

pub returns : goal.returns
returns c is = idles c.args.self.now.state c.args.self.now.reader (c.is_idle.ensures is)
