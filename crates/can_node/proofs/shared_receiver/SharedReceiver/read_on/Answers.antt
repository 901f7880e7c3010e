use Rattle.std.proofs.Common.{subst}
use Rattle.can_frame.specs.Reading.{IsPush}
use Rattle.can_node.proofs.Listens.{reading_follows}
use Rattle.can_node.proofs.shared_receiver.SharedReceiver.read_on.Goals as goal

pub returns-clause-follows : goal.returns-clause-follows
returns-clause-follows c followed bit may here =
    reading_follows c.args.known c.args.self.now c.args.start may c.args.stage c.push-step.new.self bit c.args.level
    c.push-step.result c.in-Some.transition here
    (subst (λ r. IsPush r c.args.level c.push-step.result c.push-step.new.self) c.copy-reader.ensures
    c.push-step.ensures) c.in-Some.ensures.goes c.in-Some.ensures.unseen
