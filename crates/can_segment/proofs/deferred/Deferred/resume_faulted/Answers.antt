use Rattle.std.proofs.Common.{arith, map, ap, ◌∙◌}
use Rattle.can_station.specs.DeferredNodes.{ResumesFaulted, resumed}
use Rattle.can_segment.proofs.Holds.{resumed_holds}
use Rattle.can_segment.proofs.Resumed.{resumes_left, resumes_same}
use Rattle.can_station.proofs.Resuming.{unfaulted_at}
use Rattle.can_segment.proofs.deferred.Deferred.resume_faulted.Goals as goal

pub returns-clause-talkers : goal.returns-clause-talkers
returns-clause-talkers c =
    ap (λ shared_receiver. map (resumed shared_receiver c.args.bit) c.resume_each_faulted.new.members)
    c.find_active.ensures.same.shared_receiver_is
    ∙ resumes_same (ResumesFaulted c.args.self.now.shared_receiver c.args.bit c.args.faults.now 0)
    c.args.self.now.shared_receiver
    c.args.bit c.args.talkers.now c.resume_each_faulted.new.members (λ k a b h. h.resumes) c.resume_each_faulted.ensures

pub returns-clause-controllers : goal.returns-clause-controllers
returns-clause-controllers c =
    ap (λ shared_receiver. map (resumed shared_receiver c.args.bit) c.resume_each_faulted-2.new.members)
    c.find_active.ensures.same.shared_receiver_is
    ∙ resumes_same _ c.args.self.now.shared_receiver c.args.bit c.args.controllers.now
    c.resume_each_faulted-2.new.members
    (λ k a b h. h.resumes) c.resume_each_faulted-2.ensures

pub returns-clause-left : goal.returns-clause-left
returns-clause-left c = (
  resumes_left (ResumesFaulted c.args.self.now.shared_receiver c.args.bit c.args.faults.now 0)
      c.args.self.now.shared_receiver
      c.args.bit c.args.talkers.now c.resume_each_faulted.new.members (λ k a b h. h.resumes)
      c.resume_each_faulted.ensures,
  resumes_left _ c.args.self.now.shared_receiver c.args.bit c.args.controllers.now c.resume_each_faulted-2.new.members
      (λ k a b h. h.resumes) c.resume_each_faulted-2.ensures,
)

pub returns-clause-holds : goal.returns-clause-holds
returns-clause-holds c =
    let left = returns-clause-left c in
    let everywhere = c.find_active.ensures in
    resumed_holds c.args.self.now c.find_active.new.self c.args.bit c.args.plan.now c.args.talkers.now
    c.resume_each_faulted.new.members c.args.controllers.now c.resume_each_faulted-2.new.members everywhere.same
    everywhere.talkers everywhere.controllers (omega (arith, c.resume_each_faulted.ensures.size))
    (omega (arith, c.resume_each_faulted-2.ensures.size)) left.0 left.1
    c.requires.holds

pub returns-clause-talkers_unfaulted : goal.returns-clause-talkers_unfaulted
returns-clause-talkers_unfaulted c = unfaulted_at c.args.self.now.shared_receiver c.args.bit c.args.faults.now 0
    c.args.talkers.now c.resume_each_faulted.new.members c.resume_each_faulted.ensures

pub returns-clause-unfaulted : goal.returns-clause-unfaulted
returns-clause-unfaulted c = unfaulted_at c.args.self.now.shared_receiver c.args.bit c.args.faults.now _
    c.args.controllers.now c.resume_each_faulted-2.new.members c.resume_each_faulted-2.ensures
