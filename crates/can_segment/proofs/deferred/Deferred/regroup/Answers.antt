use Rattle.std.proofs.Common.{arith}
use Rattle.can_station.specs.DeferredNodes.{ClearsAction}
use Rattle.can_station.proofs.PlaceSets.{within_places}
use Rattle.can_segment.specs.DeferredState.{materialized}
use Rattle.can_segment.proofs.Alike.{all_alike_on, all_cleared}
use Rattle.can_segment.proofs.Holds.{left_holds}
use Rattle.can_segment.proofs.Resumed.{left_places}
use Rattle.can_segment.proofs.deferred.Deferred.regroup.Goals as goal

pub defer_matching-requires-clause-plan : goal.defer_matching-requires-clause-plan
defer_matching-requires-clause-plan c = omega (arith, c.requires.plan, c.clear_actions.ensures.size)

pub defer_matching-requires-clause-holds : goal.defer_matching-requires-clause-holds
defer_matching-requires-clause-holds c =
    let t0 = c.args.talkers.now in
    let t1 = c.clear_actions.new.members in
    let c0 = c.args.controllers.now in
    let c1 = c.clear_actions-2.new.members in
    left_holds c.args.self.now c.args.bit c.args.plan.now t0 t1 c0 c1
    (left_places (λ k. ClearsAction c.args.reported) t0 t1 c.clear_actions.ensures)
    (left_places (λ k. ClearsAction c.args.reported) c0 c1 c.clear_actions-2.ensures)
    (λ set. within_places (λ k. ClearsAction c.args.reported) set t0 t1 c.clear_actions.ensures)
    (λ set. within_places (λ k. ClearsAction c.args.reported) set c0 c1 c.clear_actions-2.ensures)
    (omega (arith, c.clear_actions.ensures.size)) (omega (arith, c.clear_actions-2.ensures.size)) c.requires.holds

pub returns-then-asks_at_each_bit : goal.returns-then-asks_at_each_bit
returns-then-asks_at_each_bit c =
    let deferred = c.args.self.now in
    record {
      talkers = all_cleared c.args.reported deferred.shared_receiver c.args.bit c.args.talkers.now
          c.clear_actions.new.members
          c.clear_actions.ensures;
      controllers = all_cleared c.args.reported deferred.shared_receiver c.args.bit c.args.controllers.now
          c.clear_actions-2.new.members
          c.clear_actions-2.ensures;
      holds = left_holds deferred c.args.bit c.args.plan.now c.args.talkers.now c.clear_actions.new.members
          c.args.controllers.now c.clear_actions-2.new.members
          (left_places (λ k. ClearsAction c.args.reported) c.args.talkers.now c.clear_actions.new.members
          c.clear_actions.ensures)
          (left_places (λ k. ClearsAction c.args.reported) c.args.controllers.now c.clear_actions-2.new.members
          c.clear_actions-2.ensures)
          (λ set. within_places (λ k. ClearsAction c.args.reported) set c.args.talkers.now c.clear_actions.new.members
          c.clear_actions.ensures)
          (λ set. within_places (λ k. ClearsAction c.args.reported) set c.args.controllers.now c.clear_actions-2.new.members
          c.clear_actions-2.ensures)
          (omega (arith, c.clear_actions.ensures.size)) (omega (arith, c.clear_actions-2.ensures.size))
          c.requires.holds;
    }

pub returns-else-defer_matching : goal.returns-else-defer_matching
returns-else-defer_matching c =
    let deferred = c.args.self.now in
    record {
      talkers =
          all_alike_on (materialized deferred c.args.bit c.args.talkers.now)
          (materialized deferred c.args.bit c.clear_actions.new.members)
          (materialized c.defer_matching.new.self c.args.bit c.defer_matching.new.talkers)
          (all_cleared c.args.reported deferred.shared_receiver c.args.bit c.args.talkers.now c.clear_actions.new.members
          c.clear_actions.ensures)
          c.defer_matching.ensures.talkers;
      controllers =
          all_alike_on (materialized deferred c.args.bit c.args.controllers.now)
          (materialized deferred c.args.bit c.clear_actions-2.new.members)
          (materialized c.defer_matching.new.self c.args.bit c.defer_matching.new.controllers)
          (all_cleared c.args.reported deferred.shared_receiver c.args.bit c.args.controllers.now
          c.clear_actions-2.new.members
          c.clear_actions-2.ensures) c.defer_matching.ensures.controllers;
      holds = c.defer_matching.ensures.holds;
    }

pub defer_matching-requires-then-defer_matching : goal.defer_matching-requires-then-defer_matching
defer_matching-requires-then-defer_matching c = record {
  plan = omega (arith, c.requires.plan, c.clear_actions.ensures.size, c.defer_matching.ensures.talkers.size);
  holds = c.defer_matching.ensures.holds;
}

pub returns-then-defer_matching : goal.returns-then-defer_matching
returns-then-defer_matching c =
    let bit = c.args.bit in
    let deferred = c.args.self.now in
    let mid = c.defer_matching.new.self in
    let last = c.defer_matching-then-defer_matching.new.self in
    record {
      talkers =
          all_alike_on (materialized deferred bit c.args.talkers.now) (materialized mid bit
          c.defer_matching.new.talkers)
          (materialized last bit c.defer_matching-then-defer_matching.new.talkers)
          (all_alike_on (materialized deferred bit c.args.talkers.now) (materialized deferred bit
          c.clear_actions.new.members)
          (materialized mid bit c.defer_matching.new.talkers)
          (all_cleared c.args.reported deferred.shared_receiver bit c.args.talkers.now c.clear_actions.new.members
          c.clear_actions.ensures)
          c.defer_matching.ensures.talkers) c.defer_matching-then-defer_matching.ensures.talkers;
      controllers =
          all_alike_on (materialized deferred bit c.args.controllers.now) (materialized mid bit
          c.defer_matching.new.controllers)
          (materialized last bit c.defer_matching-then-defer_matching.new.controllers)
          (all_alike_on (materialized deferred bit c.args.controllers.now) (materialized deferred bit
          c.clear_actions-2.new.members)
          (materialized mid bit c.defer_matching.new.controllers)
          (all_cleared c.args.reported deferred.shared_receiver bit c.args.controllers.now c.clear_actions-2.new.members
          c.clear_actions-2.ensures)
          c.defer_matching.ensures.controllers) c.defer_matching-then-defer_matching.ensures.controllers;
      holds = c.defer_matching-then-defer_matching.ensures.holds;
    }
