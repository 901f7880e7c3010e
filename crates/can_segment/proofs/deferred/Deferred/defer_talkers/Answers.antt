use Rattle.std.proofs.Common.{◌<◌, get_or, arith, length, sym, subst, ◌∙◌, set}
use Rattle.std.proofs.lemmas.List.{length-set}
use Rattle.std.proofs.lemmas.Option.{slice_get-get_or}
use Rattle.can_segment.proofs.Regroups.{counted_end, counted_start, counted_step, deferring_end, deferring_start}
use Rattle.can_segment.proofs.Regroups.{deferring_step}
use Rattle.can_segment.proofs.Regroups.{not_due_step}
use Rattle.can_station.proofs.Places.{same_some}
use Rattle.can_station.specs.Queues.{IsNotDueBefore}
use Rattle.can_segment.proofs.deferred.Deferred.defer_talkers.Goals as goal

pub loop-place-init : goal.loop-place-init
loop-place-init c = record {
  deferring = deferring_start c.args.self.now c.args.bit c.args.members.now c.args.self.now.talkers c.requires.within
      c.requires.is_deferred;
  not_due = c.requires.not_due;
  counted = counted_start c.none-active.result.places c.args.self.now.talkers c.args.members.now
      c.none-active.ensures c.requires.within;
}

pub bounds-members-place : goal.bounds-members-place
bounds-members-place c =
    let defer_some = c.loop-place.invariant.deferring.defer_some in
    let less = defer_some.within c.in-Some.place c.in-Some.ensures.some.0.has in
    omega (arith, less, defer_some.size)

pub loop-place-preserved : goal.loop-place-preserved
loop-place-preserved c =
    let members = c.loop-place.members in
    let place = c.in-Some.place in
    let has = c.in-Some.ensures.some.0.has in
    let so_far = c.loop-place.invariant in
    let defer_some = so_far.deferring.defer_some in
    let before = defer_some.within place has in
    let room : place < length members = omega (arith, before, defer_some.size) in
    let asked = get_or members place c.index-members-place.result in
    let old = get_or members place c.index-members-place-in-Some.result in
    let here = slice_get-get_or members place c.index-members-place-in-Some.result room in
    let same = same_some asked old (sym (slice_get-get_or members place c.index-members-place.result room) ∙ here) in
    let talker = get_or c.args.plan.now place c.index-plan-place.result in
    let there = slice_get-get_or c.args.plan.now place c.index-plan-place.result
    (omega (arith, before, c.requires.plan)) in
    record {
      deferring = deferring_step c.next_due-next_due.result c.args.self.now c.loop-place.self
          c.defer_matching_node-listens.new.self c.args.bit
          c.args.members.now members c.loop-place.left c.take_first.new.self place old
          c.defer_matching_node-listens.new.member has
          c.in-Some.ensures.some.1 here c.defer_matching_node-listens.ensures so_far.deferring;
      not_due = not_due_step c.next_due-next_due.result c.loop-place.self c.defer_matching_node-listens.new.self
          c.args.bit c.args.plan.now
          members place old c.defer_matching_node-listens.new.member talker room here there
          c.defer_matching_node-listens.ensures
          (subst (λ m. IsNotDueBefore talker.queue.items m.station.completed c.next_due-next_due.result) same
          (rw c.as_slice.ensures.value at c.next_due-next_due.ensures)) so_far.not_due;
      counted = counted_step c.loop-place.active.places c.count.new.self.places c.loop-place.left c.take_first.new.self
          members place c.defer_matching_node-listens.new.member _ room c.in-Some.ensures.some.1
          (slice_get-get_or (set members place c.defer_matching_node-listens.new.member) place
          c.index-members-place-in-Some-2.result
          (omega (arith, room, length-set members place c.defer_matching_node-listens.new.member)))
          c.count.ensures.is_deferred c.count.ensures.active so_far.counted;
    }

pub returns-clause-defer_some : goal.returns-clause-defer_some
returns-clause-defer_some c =
    deferring_end c.args.self.now c.loop-place.self c.args.bit c.args.members.now c.loop-place.members c.loop-place.left
    c.in_default.ensures.none.0 c.loop-place.invariant.deferring

pub returns-clause-active : goal.returns-clause-active
returns-clause-active c =
    counted_end c.loop-place.active.places c.loop-place.members c.loop-place.left c.in_default.ensures.none.0
    c.loop-place.invariant.counted
