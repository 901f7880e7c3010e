use Rattle.std.proofs.Common.{get_or, arith, sym, ◌∙◌, subst}
use Rattle.std.proofs.lemmas.Option.{slice_get-get_or}
use Rattle.can_station.proofs.Places.{but_end, but_step, same_some}
use Rattle.can_station.proofs.PlaceSets.{but_start}
use Rattle.can_station.specs.Members.{TalkerStarts, StartsTalking}
use Rattle.can_station.specs.DeferredNodes.{IfActive}
use Rattle.can_station.proofs.members.start_talkers.Goals as goal

pub loop-place-init : goal.loop-place-init
loop-place-init c =
    but_start (TalkerStarts c.args.bit c.args.talkers.now) c.args.members.now c.args.active c.requires.active

pub bounds-members-place : goal.bounds-members-place
bounds-members-place c =
    let less = c.loop-place.invariant.within c.in-Some.place c.in-Some.ensures.some.0.has in
    omega (arith, less, c.loop-place.invariant.size)

pub bounds-talkers-place : goal.bounds-talkers-place
bounds-talkers-place c =
    let less = c.loop-place.invariant.within c.in-Some.place c.in-Some.ensures.some.0.has in
    omega (arith, less, c.requires.talkers)

pub loop-place-preserved : goal.loop-place-preserved
loop-place-preserved c =
    let members = c.loop-place.members in
    let place = c.in-Some.place in
    let has = c.in-Some.ensures.some.0.has in
    let less = c.loop-place.invariant.within place has in
    let found = slice_get-get_or members place c.index-members-place.result
    (omega (arith, less, c.loop-place.invariant.size)) in
    let old = get_or members place c.index-members-place.result in
    let talker = get_or c.args.talkers.now place c.index-talkers-place.result in
    but_step (λ k. IfActive (TalkerStarts c.args.bit c.args.talkers.now k)) c.args.members.now members c.loop-place.left
    c.take_first.new.self place old c.start_talking.new.self has c.in-Some.ensures.some.1 found
    (record {
      stays_deferred = c.start_talking.ensures.is_deferred;
      stays_active = λ e. c.start_talking.ensures.active ∙ e;
      steps = λ e t is.
          let same = same_some talker t
          (sym (slice_get-get_or c.args.talkers.now place c.index-talkers-place.result
          (omega (arith, less, c.requires.talkers))) ∙ is) in
          let starts = c.start_talking.ensures.starts e in
          subst (λ x. StartsTalking c.args.bit old c.start_talking.new.self x.queue.items) same
          (rw c.as_slice.ensures.value at starts);
    })
    c.loop-place.invariant

pub returns : goal.returns
returns c =
    but_end (λ k. IfActive (TalkerStarts c.args.bit c.args.talkers.now k)) c.args.members.now c.loop-place.members
    c.loop-place.left c.in_default.ensures.none.0 c.loop-place.invariant
