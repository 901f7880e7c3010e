use Rattle.std.proofs.Common.{arith, rules, map, inr, ap, ◌∙◌}
use Rattle.can_segment.proofs.Holds.{none_deferred, none_deferred_on, not_deferred}
use Rattle.can_station.specs.DeferredNodes.{resumed}
use Rattle.can_segment.proofs.Resumed.{all_resumed, resumes_same}
use Rattle.can_segment.proofs.deferred.Deferred.resume_all.Goals as goal

pub returns-then-not-self-clause-talkers_active : goal.returns-then-not-self-clause-talkers_active
returns-then-not-self-clause-talkers_active c =
    not_deferred c.args.self.now c.args.bit c.args.talkers.now (search rules) c.requires.holds.talkers_deferred

pub returns-then-not-self-clause-controllers_active : goal.returns-then-not-self-clause-controllers_active
returns-then-not-self-clause-controllers_active c =
    not_deferred c.args.self.now c.args.bit c.args.controllers.now (search rules) c.requires.holds.controllers_deferred

pub returns-then-not-self-clause-holds : goal.returns-then-not-self-clause-holds
returns-then-not-self-clause-holds c next =
    none_deferred_on c.args.self.now c.args.bit next c.args.plan.now c.args.talkers.now c.args.controllers.now
    (not_deferred c.args.self.now c.args.bit c.args.talkers.now (search rules) c.requires.holds.talkers_deferred)
    (not_deferred c.args.self.now c.args.bit c.args.controllers.now (search rules)
    c.requires.holds.controllers_deferred)
    c.requires.holds

pub returns-clause-talkers : goal.returns-clause-talkers
returns-clause-talkers c =
    ap (λ shared_receiver. map (resumed shared_receiver c.args.bit) c.resume_each.new.members)
    c.find_active.ensures.same.shared_receiver_is
    ∙ resumes_same _ c.args.self.now.shared_receiver c.args.bit c.args.talkers.now c.resume_each.new.members
    (λ k a b h. inr h) c.resume_each.ensures

pub returns-clause-controllers : goal.returns-clause-controllers
returns-clause-controllers c =
    ap (λ shared_receiver. map (resumed shared_receiver c.args.bit) c.resume_each-2.new.members)
    c.find_active.ensures.same.shared_receiver_is
    ∙ resumes_same _ c.args.self.now.shared_receiver c.args.bit c.args.controllers.now c.resume_each-2.new.members
    (λ k a b h. inr h) c.resume_each-2.ensures

pub returns-clause-talkers_active : goal.returns-clause-talkers_active
returns-clause-talkers_active c =
    all_resumed c.args.self.now.shared_receiver c.args.bit c.args.talkers.now c.resume_each.new.members
    c.resume_each.ensures

pub returns-clause-controllers_active : goal.returns-clause-controllers_active
returns-clause-controllers_active c =
    all_resumed c.args.self.now.shared_receiver c.args.bit c.args.controllers.now c.resume_each-2.new.members
    c.resume_each-2.ensures

pub returns-clause-holds : goal.returns-clause-holds
returns-clause-holds c next = none_deferred c.find_active.new.self next c.args.plan.now c.resume_each.new.members
    c.resume_each-2.new.members c.find_active.ensures.talkers c.find_active.ensures.controllers
    (omega (arith, c.resume_each.ensures.size, c.requires.holds.talkers_fit))
    (omega (arith, c.resume_each-2.ensures.size, c.requires.holds.controllers_fit)) (returns-clause-talkers_active c)
    (returns-clause-controllers_active c)
