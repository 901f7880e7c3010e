use Rattle.can_frame.specs.declared.step.Step.TheVariants.{Tail}
use Rattle.can_node.proofs.Listens.{reading_follows}
use Rattle.can_node.proofs.shared_receiver.SharedReceiver.read_tail.Goals as goal

pub returns-clause-follows : goal.returns-clause-follows
returns-clause-follows c followed bit may here =
    reading_follows c.args.known c.args.self.now c.args.start may c.args.stage c.reads_tail.new.self bit c.args.level
    Tail c.in-Some.transition here
    (c.reads_tail.ensures.on c.if-not-reads_tail.false) c.in-Some.ensures.goes c.in-Some.ensures.unseen
