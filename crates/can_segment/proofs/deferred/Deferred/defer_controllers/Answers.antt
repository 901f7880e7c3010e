use Rattle.std.proofs.Common.{◌<◌, arith, length, set}
use Rattle.std.proofs.lemmas.List.{length-set}
use Rattle.std.proofs.lemmas.Option.{slice_get-get_or}
use Rattle.can_segment.proofs.Regroups.{active_step, counted_end, counted_start, counted_step, deferring_end}
use Rattle.can_segment.proofs.Regroups.{deferring_start}
use Rattle.can_segment.proofs.Regroups.{deferring_step}
use Rattle.can_segment.proofs.deferred.Deferred.defer_controllers.Goals as goal

pub loop-place-init : goal.loop-place-init
loop-place-init c = record {
  deferring = deferring_start c.args.self.now c.args.bit c.args.members.now c.args.self.now.controllers
      c.requires.within
      c.requires.is_deferred;
  active = c.requires.none;
  counted = counted_start c.none-active.result.places c.args.self.now.controllers c.args.members.now
      c.none-active.ensures c.requires.within;
}

pub bounds-members-place : goal.bounds-members-place
bounds-members-place c =
    let defer_some = c.loop-place.invariant.deferring.defer_some in
    let less = defer_some.within c.in-Some.place c.in-Some.ensures.some.0.has in
    omega (arith, less, defer_some.size)

pub loop-place-preserved : goal.loop-place-preserved
loop-place-preserved c =
    let members = c.loop-place.members in
    let place = c.in-Some.place in
    let has = c.in-Some.ensures.some.0.has in
    let so_far = c.loop-place.invariant in
    let before = so_far.deferring.defer_some.within place has in
    let room : place < length members = omega (arith, before, so_far.deferring.defer_some.size) in
    let here = slice_get-get_or members place c.index-members-place.result room in
    record {
      deferring = deferring_step 0 c.args.self.now c.loop-place.self c.defer_matching_node-listens.new.self
          c.args.bit
          c.args.members.now members c.loop-place.left c.take_first.new.self place _
          c.defer_matching_node-listens.new.member has
          c.in-Some.ensures.some.1 here c.defer_matching_node-listens.ensures so_far.deferring;
      active = active_step c.loop-place.self c.defer_matching_node-listens.new.self c.args.bit members place _
          c.defer_matching_node-listens.new.member
          room here c.defer_matching_node-listens.ensures so_far.active;
      counted = counted_step c.loop-place.active.places c.count.new.self.places c.loop-place.left c.take_first.new.self
          members place c.defer_matching_node-listens.new.member _ room c.in-Some.ensures.some.1
          (slice_get-get_or (set members place c.defer_matching_node-listens.new.member) place
          c.index-members-place-in-Some.result
          (omega (arith, room, length-set members place c.defer_matching_node-listens.new.member)))
          c.count.ensures.is_deferred c.count.ensures.active so_far.counted;
    }

pub returns-clause-defer_some : goal.returns-clause-defer_some
returns-clause-defer_some c =
    deferring_end c.args.self.now c.loop-place.self c.args.bit c.args.members.now c.loop-place.members c.loop-place.left
    c.in_default.ensures.none.0 c.loop-place.invariant.deferring

pub returns-clause-active : goal.returns-clause-active
returns-clause-active c =
    counted_end c.loop-place.active.places c.loop-place.members c.loop-place.left c.in_default.ensures.none.0
    c.loop-place.invariant.counted
