use Rattle.std.proofs.Common.{arith, sym, ◌∙◌}
use Rattle.std.proofs.lemmas.Option.{slice_get-get_or}
use Rattle.can_station.specs.DeferredNodes.{GoesAsItMay, IfActive}
use Rattle.can_station.proofs.Places.{but_end, but_step}
use Rattle.can_station.proofs.PlaceSets.{but_start}
use Rattle.can_station.proofs.going.go_on_by.Goals as goal

pub loop-place-init : goal.loop-place-init
loop-place-init c =
    but_start (λ k. GoesAsItMay c.args.levels.now) c.args.members.now c.args.active c.requires.active

pub bounds-members-place : goal.bounds-members-place
bounds-members-place c =
    let less = c.loop-place.invariant.within c.in-Some.place c.in-Some.ensures.some.0.has in
    omega (arith, less, c.loop-place.invariant.size)

pub go_on_by-requires-clause-goes : goal.go_on_by-requires-clause-goes
go_on_by-requires-clause-goes c active =
    let members = c.loop-place.members in
    let place = c.in-Some.place in
    let has = c.in-Some.ensures.some.0.has in
    let less = c.loop-place.invariant.within place has in
    let found = slice_get-get_or members place c.index-members-place.result
    (omega (arith, less, c.loop-place.invariant.size)) in
    c.requires.goes place _ (sym (c.loop-place.invariant.same place has) ∙ found) active

pub go_on_by-requires-clause-room : goal.go_on_by-requires-clause-room
go_on_by-requires-clause-room c active =
    let members = c.loop-place.members in
    let place = c.in-Some.place in
    let has = c.in-Some.ensures.some.0.has in
    let less = c.loop-place.invariant.within place has in
    let found = slice_get-get_or members place c.index-members-place.result
    (omega (arith, less, c.loop-place.invariant.size)) in
    c.requires.room place _ (sym (c.loop-place.invariant.same place has) ∙ found) active

pub loop-place-preserved : goal.loop-place-preserved
loop-place-preserved c =
    let members = c.loop-place.members in
    let place = c.in-Some.place in
    let has = c.in-Some.ensures.some.0.has in
    let less = c.loop-place.invariant.within place has in
    let found = slice_get-get_or members place c.index-members-place.result
    (omega (arith, less, c.loop-place.invariant.size)) in
    but_step (λ k. IfActive (GoesAsItMay c.args.levels.now)) c.args.members.now members c.loop-place.left
    c.take_first.new.self place _ c.go_on_by.new.self has c.in-Some.ensures.some.1 found
    (record {
      stays_deferred = c.go_on_by.ensures.is_deferred;
      stays_active = λ e. c.go_on_by.ensures.active ∙ e;
      steps = c.go_on_by.ensures.goes;
    })
    c.loop-place.invariant

pub returns : goal.returns
returns c =
    but_end (λ k. IfActive (GoesAsItMay c.args.levels.now)) c.args.members.now c.loop-place.members
    c.loop-place.left c.in_default.ensures.none.0 c.loop-place.invariant
