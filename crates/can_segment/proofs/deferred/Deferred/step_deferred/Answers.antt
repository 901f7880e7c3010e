use Rattle.can_segment.proofs.Holds.{through_holds}
use Rattle.can_segment.proofs.deferred.Deferred.step_deferred.Goals as goal

pub returns-then-follows-clause-holds : goal.returns-then-follows-clause-holds
returns-then-follows-clause-holds c =
    through_holds c.args.self.now c.follows.new.self c.args.bit c.args.level c.args.plan.now c.args.talkers.now
    c.args.controllers.now (c.follows.ensures.through c.if-follows.true) c.requires.holds

pub returns-clause-holds : goal.returns-clause-holds
returns-clause-holds c = c.resume_all.ensures.holds _
