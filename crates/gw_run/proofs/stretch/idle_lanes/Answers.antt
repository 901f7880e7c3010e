use Rattle.std.proofs.Common.{◌≡◌, ◌/◌, ◌-◌, get_or, arith, refl, sym, ap, ◌∙◌}
use Rattle.std.proofs.lemmas.Option.{slice_get-get_or}
use Rattle.can_station.proofs.Places.{places_step, places_end}
use Rattle.gw_route.specs.RouteHand.{hand_value}
use Rattle.gw_route.specs.Turn.{idled}
use Rattle.gw_run.specs.Schedules.{idle_bursts}
use Rattle.gw_run.specs.Worlds.{LaneIdles, idle_turns}
use Rattle.gw_run.specs.declared.schedule.Schedule.{Schedule}
use Rattle.gw_run.proofs.stretch.idle_lanes.Goals as goal

pub loop-place-preserved : goal.loop-place-preserved
loop-place-preserved c =
    let schedules = c.args.schedules.now in
    let place = c.loop-place.place in
    let none : Schedule = record { every = 0; burst = 0 } in
    let there = slice_get-get_or schedules place none
    (omega (arith, c.loop-place-test.true, c.requires.all, c.loop-place.invariant.size)) in
    let every = (get_or schedules place none).every in
    let more : idle_turns schedules c.args.made c.args.next place ≡ c.args.next / every - c.args.made / every =
    ap (λ o. idle_bursts o c.args.made c.args.next) there in
    let counted = ap (λ n. c.args.next / n - c.args.made / n) c.from-every.ensures ∙ sym more in
    places_step (λ k. LaneIdles (idle_turns schedules c.args.made c.args.next k)) c.args.lanes.now c.loop-place.lanes
    place _ _
    (omega (arith, c.loop-place-test.true, c.loop-place.invariant.size))
    (slice_get-get_or c.loop-place.lanes c.loop-place.place c.index-lanes-place.result
    (omega (arith, c.loop-place-test.true)))
    (record {
      hand_is = c.idle.ensures.value
          ∙ ap (λ n. idled n (hand_value (get_or c.loop-place.lanes place c.index-lanes-place.result).hand)) counted;
      source_is = refl;
      fifo_is = refl;
      target_is = refl;
      number_is = refl;
      tied = c.idle.ensures.tied;
    }) c.loop-place.invariant

pub returns : goal.returns
returns c = places_end (λ k. LaneIdles (idle_turns c.args.schedules.now c.args.made c.args.next k))
    c.args.lanes.now c.loop-place.lanes c.loop-place.place
    (omega (arith, c.loop-place-test.false, c.loop-place.invariant.size)) c.loop-place.invariant
