use Rattle.std.proofs.Common.{◌≡◌, ◌≤◌, Some, take, slice_get, ap, arith, sym, subst, ◌∙◌}
use Rattle.std.proofs.lemmas.List.{length-take, take-take}
use Rattle.std.proofs.lemmas.Option.{slice_get-get_or}
use Rattle.can_station.proofs.GoingBy.{StaysBeside, fewer_beside}
use Rattle.can_station.proofs.Places.{some_there}
use Rattle.can_station.proofs.PlaceSets.{EachBut, each_end, each_start, each_step}
use Rattle.can_station.proofs.going.all_stay_out.Goals.{then-place-but, else-place-but}
use Rattle.can_station.proofs.going.all_stay_out.Goals as goal

pub loop-place-init : goal.loop-place-init
loop-place-init c = record {
  few = omega arith;
  within = c.requires.within;
  out = λ some. each_start (StaysBeside c.args.but c.args.bit _) c.args.members.now c.args.active c.requires
      (λ k m is not active. absurd (cc (is, active)));
}

pub bounds-members-place : goal.bounds-members-place
bounds-members-place c = c.loop-place.invariant.within c.in-Some.place c.in-Some.ensures.some.0.has

pub loop-place-preserved : goal.loop-place-preserved
loop-place-preserved c = elim c.if-place-but.branch [
  | then-place-but w ↦ (let levels = c.args.levels.now in
      let members = c.args.members.now in
      let place = c.in-Some.place in
      let member = w.index-members-place.result in
      let n = w.stays_out-count.result in
      let before = c.loop-place.invariant in
      let less = before.within place c.in-Some.ensures.some.0.has in
      let fewer : n ≤ c.loop-place.count =
      omega (arith, w.stays_out-count.ensures.few, length-take c.loop-place.count levels) in
      let here : slice_get members place ≡ Some member = slice_get-get_or members place member less
      ∙ ap (λ m. Some m) (sym w.index-members-place.is) in
      let same : take n (take c.loop-place.count levels) ≡ take n levels =
      take-take n c.loop-place.count levels fewer in
      rw w.count-is (record {
        few = omega (arith, fewer, before.few);
        within = λ k still. before.within k (c.in-Some.ensures.some.1.no_others k still);
        out = λ some. subst (λ ls. EachBut (StaysBeside c.args.but c.args.bit ls) members c.take_first.new.self) same
            (each_step (StaysBeside c.args.but c.args.bit (take n (take c.loop-place.count levels))) members
            c.loop-place.left c.take_first.new.self place member c.in-Some.ensures.some.1 here
            (λ not. w.stays_out-count.ensures.may some)
            (fewer_beside c.args.but c.args.bit n (take c.loop-place.count levels) members c.loop-place.left
            (before.out (omega (arith, some, fewer)))));
      }))
  | else-place-but w ↦ (let members = c.args.members.now in
      let place = c.in-Some.place in
      let before = c.loop-place.invariant in
      let there = some_there members place (before.within place c.in-Some.ensures.some.0.has) in
      rw w.count-is (record {
        few = before.few;
        within = λ k still. before.within k (c.in-Some.ensures.some.1.no_others k still);
        out = λ some. each_step (StaysBeside c.args.but c.args.bit (take c.loop-place.count c.args.levels.now)) members
            c.loop-place.left c.take_first.new.self place there.0 c.in-Some.ensures.some.1 there.1
            (λ not. absurd (not (omega (arith, w.if-place-but.false)))) (before.out some);
      }))
]

pub returns-clause-off : goal.returns-clause-off
returns-clause-off c some =
    each_end (StaysBeside c.args.but c.args.bit (take c.loop-place.count c.args.levels.now)) c.args.members.now
    c.loop-place.left c.in_default.ensures.none.0 (c.loop-place.invariant.out some)
