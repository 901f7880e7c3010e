use Rattle.std.proofs.Common.{arith, map, inr, ap, ◌∙◌}
use Rattle.can_station.specs.DeferredNodes.{ResumesDue, resumed}
use Rattle.can_segment.proofs.Holds.{same_deferred}
use Rattle.can_segment.proofs.Resumed.{all_resumed, resumes_left, resumes_same}
use Rattle.can_station.proofs.Resuming.{not_due_at}
use Rattle.can_segment.proofs.deferred.Deferred.resume_starters.Goals as goal

pub returns-clause-talkers : goal.returns-clause-talkers
returns-clause-talkers c =
    ap (λ shared_receiver. map (resumed shared_receiver c.args.bit) c.resume_each_due-self.new.members)
    c.find_active.ensures.same.shared_receiver_is
    ∙ resumes_same (ResumesDue c.args.self.now.shared_receiver c.args.bit c.resume_each_due-self.result c.args.plan.now)
    c.args.self.now.shared_receiver c.args.bit
    c.args.talkers.now c.resume_each_due-self.new.members (λ k a b h. h.resumes) c.resume_each_due-self.ensures.resumes

pub returns-clause-controllers : goal.returns-clause-controllers
returns-clause-controllers c =
    ap (λ shared_receiver. map (resumed shared_receiver c.args.bit) c.resume_each.new.members)
    c.find_active.ensures.same.shared_receiver_is
    ∙ resumes_same _ c.args.self.now.shared_receiver c.args.bit c.args.controllers.now c.resume_each.new.members
    (λ k a b h. inr h) c.resume_each.ensures

pub returns-clause-left : goal.returns-clause-left
returns-clause-left c = (
  resumes_left (ResumesDue c.args.self.now.shared_receiver c.args.bit c.resume_each_due-self.result c.args.plan.now)
      c.args.self.now.shared_receiver c.args.bit
      c.args.talkers.now c.resume_each_due-self.new.members (λ k a b h. h.resumes) c.resume_each_due-self.ensures.resumes,
  resumes_left _ c.args.self.now.shared_receiver c.args.bit c.args.controllers.now c.resume_each.new.members
      (λ k a b h. inr h) c.resume_each.ensures,
)

pub returns-clause-holds : goal.returns-clause-holds
returns-clause-holds c =
    let held = c.requires.holds in
    let left = returns-clause-left c in
    let active = all_resumed c.args.self.now.shared_receiver c.args.bit c.args.controllers.now c.resume_each.new.members
    c.resume_each.ensures in
    let everywhere = c.find_active.ensures in
    record {
      talkers_deferred = same_deferred _ c.find_active.new.self c.args.bit c.resume_each_due-self.new.members
          everywhere.same
          (λ k m e is. let h = held.talkers_deferred k m (left.0 k m e is) is in
          record {
            some_deferred = h.some_deferred;
            is_on = h.is_on;
            uneventful = h.uneventful;
            known = h.known;
            listening =
                h.listening;
          });
      controllers_deferred = λ k m e is. absurd (let not = active k m e in cc (is, not));
      talkers_not_due = λ k m talker e f is at before. not_due_at c.args.self.now.shared_receiver c.args.bit
          c.resume_each_due-self.result c.args.plan.now c.args.talkers.now c.resume_each_due-self.new.members
          c.resume_each_due-self.ensures.resumes k m talker e f is at
          (omega (arith, before, everywhere.same.next_start_is));
      controllers_active = λ s. active;
      talkers_within = everywhere.talkers;
      controllers_within = everywhere.controllers;
      talkers_fit = omega (arith, c.resume_each_due-self.ensures.resumes.size, held.talkers_fit);
      controllers_fit = omega (arith, c.resume_each.ensures.size, held.controllers_fit);
    }
