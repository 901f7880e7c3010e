use Rattle.std.proofs.Common.{◌∙◌, sym}
use Rattle.can_node.proofs.Listens.{region_follows, idle_follows}
use Rattle.can_node.proofs.shared_receiver.SharedReceiver.follow.Goals as goal

pub returns-then-is_idle-clause-follows : goal.returns-then-is_idle-clause-follows
returns-then-is_idle-clause-follows c followed =
    idle_follows c.args.known c.args.self.now.state c.args.self.now.reader c.args.bit c.args.level
    (c.is_idle.ensures c.if-is_idle.true) c.if-level.true

pub returns-then-reads_on-clause-follows : goal.returns-then-reads_on-clause-follows
returns-then-reads_on-clause-follows c followed =
    region_follows c.args.known c.args.self.now.state c.args.self.now.reader c.reads_on.new.self c.args.bit c.args.level
    (sym c.is_in_region.ensures ∙ c.if-is_in_region.true) (c.reads_on.ensures.on c.if-reads_on.true)
