use Rattle.std.proofs.Common.{arith, subst, sym, ap, ◌∙◌}
use Rattle.can_station.specs.DeferredNodes.{AreAlike, ActiveWithin}
use Rattle.can_segment.specs.DeferredState.{materialized}
use Rattle.can_segment.proofs.Holds.{sooner_not_due}
use Rattle.can_segment.proofs.Alike.{alike_deferred_or_same, alike_self}
use Rattle.can_segment.proofs.Regroups.{chosen_active, chosen_deferred, chosen_same}
use Rattle.can_segment.proofs.Regroups.{chosen_not_due, lain_within, less_deferred_all}
use Rattle.can_segment.proofs.deferred.Deferred.defer_matching.Goals as goal

pub returns-then-not-self : goal.returns-then-not-self
returns-then-not-self c =
    let old = c.args.self.now in
    let new = c.choose_receiver.new.self in
    let bit = c.args.bit in
    let talkers = c.args.talkers.now in
    let controllers = c.args.controllers.now in
    let held = c.requires.holds in
    let chosen = c.choose_receiver.ensures in
    record {
      talkers = alike_self _ _ (chosen_same old new bit talkers chosen held.talkers_deferred);
      controllers = alike_self _ _ (chosen_same old new bit controllers chosen held.controllers_deferred);
      holds = record {
        talkers_deferred = chosen_deferred old new bit talkers chosen held.talkers_deferred;
        controllers_deferred = chosen_deferred old new bit controllers chosen held.controllers_deferred;
        talkers_not_due = chosen_not_due old new bit c.args.plan.now talkers chosen held.talkers_deferred
            held.talkers_not_due;
        controllers_active = chosen_active old new bit controllers chosen held.controllers_deferred
            held.controllers_active;
        talkers_within = subst (λ set. ActiveWithin set talkers) (sym chosen.talkers_is) held.talkers_within;
        controllers_within =
            subst (λ set. ActiveWithin set controllers) (sym chosen.controllers_is) held.controllers_within;
        talkers_fit = held.talkers_fit;
        controllers_fit = held.controllers_fit;
      };
    }

pub defer_talkers-active-requires-clause-within : goal.defer_talkers-active-requires-clause-within
defer_talkers-active-requires-clause-within c = subst (λ set. ActiveWithin set c.args.talkers.now)
    (sym c.choose_receiver.ensures.talkers_is) c.requires.holds.talkers_within

pub defer_controllers-active_too-requires-clause-within : goal.defer_controllers-active_too-requires-clause-within
defer_controllers-active_too-requires-clause-within c =
    subst (λ set. ActiveWithin set c.args.controllers.now)
    (sym (c.defer_talkers-active.ensures.less.controllers_is ∙ c.choose_receiver.ensures.controllers_is))
    c.requires.holds.controllers_within

pub defer_talkers-active-requires-clause-is_deferred : goal.defer_talkers-active-requires-clause-is_deferred
defer_talkers-active-requires-clause-is_deferred c = chosen_deferred c.args.self.now c.choose_receiver.new.self
    c.args.bit
    c.args.talkers.now
    c.choose_receiver.ensures c.requires.holds.talkers_deferred

pub defer_talkers-active-requires-clause-not_due : goal.defer_talkers-active-requires-clause-not_due
defer_talkers-active-requires-clause-not_due c = chosen_not_due c.args.self.now c.choose_receiver.new.self c.args.bit
    c.args.plan.now
    c.args.talkers.now c.choose_receiver.ensures c.requires.holds.talkers_deferred c.requires.holds.talkers_not_due

pub defer_controllers-active_too-requires-clause-is_deferred :
    goal.defer_controllers-active_too-requires-clause-is_deferred
defer_controllers-active_too-requires-clause-is_deferred c =
    less_deferred_all c.choose_receiver.new.self c.defer_talkers-active.new.self c.args.bit c.args.controllers.now
    c.defer_talkers-active.ensures.less
    (chosen_deferred c.args.self.now c.choose_receiver.new.self c.args.bit c.args.controllers.now
    c.choose_receiver.ensures
    c.requires.holds.controllers_deferred)

pub defer_controllers-active_too-requires-clause-none : goal.defer_controllers-active_too-requires-clause-none
defer_controllers-active_too-requires-clause-none c later =
    chosen_active c.args.self.now c.choose_receiver.new.self c.args.bit c.args.controllers.now c.choose_receiver.ensures
    c.requires.holds.controllers_deferred c.requires.holds.controllers_active
    (omega (arith, later, c.defer_talkers-active.ensures.less.sooner))

pub settle-requires : goal.settle-requires
settle-requires c =
    let talkers_is = c.defer_controllers-active_too.ensures.less.talkers_is ∙
    c.defer_talkers-active.ensures.less.talkers_is
    ∙ c.choose_receiver.ensures.talkers_is in
    let controllers_is = c.defer_controllers-active_too.ensures.less.controllers_is ∙
    c.defer_talkers-active.ensures.less.controllers_is
    ∙ c.choose_receiver.ensures.controllers_is in
    record {
      talkers = c.defer_talkers-active.ensures.active;
      controllers = c.defer_controllers-active_too.ensures.active;
      holds = record {
        talkers_deferred = less_deferred_all c.defer_talkers-active.new.self c.defer_controllers-active_too.new.self
            c.args.bit
            c.defer_talkers-active.new.members c.defer_controllers-active_too.ensures.less
            c.defer_talkers-active.ensures.is_deferred;
        controllers_deferred = c.defer_controllers-active_too.ensures.is_deferred;
        talkers_not_due = sooner_not_due c.defer_talkers-active.new.self c.defer_controllers-active_too.new.self
            c.args.plan.now c.defer_talkers-active.new.members c.defer_controllers-active_too.ensures.less.sooner
            c.defer_talkers-active.ensures.not_due;
        controllers_active = c.defer_controllers-active_too.ensures.none;
        talkers_within = subst (λ set. ActiveWithin set c.defer_talkers-active.new.members) (sym talkers_is)
            (lain_within c.choose_receiver.new.self.shared_receiver c.args.bit c.args.talkers.now
            c.defer_talkers-active.new.members
            c.args.self.now.talkers c.defer_talkers-active.ensures.defer_some c.requires.holds.talkers_within);
        controllers_within = subst (λ set. ActiveWithin set c.defer_controllers-active_too.new.members) (sym
            controllers_is)
            (lain_within c.defer_talkers-active.new.self.shared_receiver c.args.bit c.args.controllers.now
            c.defer_controllers-active_too.new.members c.args.self.now.controllers
            c.defer_controllers-active_too.ensures.defer_some
            c.requires.holds.controllers_within);
        talkers_fit = omega (arith, c.defer_talkers-active.ensures.defer_some.size, c.requires.holds.talkers_fit);
        controllers_fit =
            omega (arith, c.defer_controllers-active_too.ensures.defer_some.size, c.requires.holds.controllers_fit);
      };
    }

pub returns : goal.returns
returns c = record {
  talkers =
      let before = c.defer_controllers-active_too.ensures.less.shared_receiver_is ∙
      c.defer_talkers-active.ensures.less.shared_receiver_is in
      let lain = alike_deferred_or_same c.choose_receiver.new.self.shared_receiver
      c.defer_controllers-active_too.new.self.shared_receiver c.args.bit
      c.args.talkers.now c.defer_talkers-active.new.members before c.defer_talkers-active.ensures.defer_some in
      subst (λ ms. AreAlike ms (materialized c.settle.new.self c.args.bit c.settle.new.talkers))
      (chosen_same c.args.self.now c.choose_receiver.new.self c.args.bit c.args.talkers.now c.choose_receiver.ensures
      c.requires.holds.talkers_deferred)
      (subst (AreAlike (materialized c.choose_receiver.new.self c.args.bit c.args.talkers.now))
      (sym c.settle.ensures.talkers) lain);
  controllers =
      let mid = c.defer_talkers-active.new.self in
      let lain = alike_deferred_or_same mid.shared_receiver c.defer_controllers-active_too.new.self.shared_receiver c.args.bit
      c.args.controllers.now
      c.defer_controllers-active_too.new.members c.defer_controllers-active_too.ensures.less.shared_receiver_is
      c.defer_controllers-active_too.ensures.defer_some in
      let same =
      ap
      (λ shared_receiver. materialized (record {
        shared_receiver = shared_receiver;
        any_deferred = mid.any_deferred;
        known = mid.known;
        next_start = mid.next_start;
        talkers = mid.talkers;
        controllers = mid.controllers;
      }) c.args.bit
      c.args.controllers.now) c.defer_talkers-active.ensures.less.shared_receiver_is
      ∙ chosen_same c.args.self.now c.choose_receiver.new.self c.args.bit c.args.controllers.now
      c.choose_receiver.ensures
      c.requires.holds.controllers_deferred in
      subst (λ ms. AreAlike ms (materialized c.settle.new.self c.args.bit c.settle.new.controllers)) same
      (subst (AreAlike (materialized mid c.args.bit c.args.controllers.now)) (sym c.settle.ensures.controllers) lain);
  holds = c.settle.ensures.holds;
}
