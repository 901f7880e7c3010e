use Rattle.std.proofs.Common.{arith, refl, sym, ◌∙◌}
use Rattle.std.proofs.lemmas.Option.{slice_get-get_or}
use Rattle.can_station.proofs.Places.{places_step, places_end}
use Rattle.gw_run.specs.Worlds.{LaneFills}
use Rattle.gw_run.proofs.world.fill_all.Goals as goal

pub fill-requires : goal.fill-requires
fill-requires g c =
    let place = c.loop-place.place in
    let found =
    slice_get-get_or c.loop-place.lanes place c.index-lanes-place.result (omega (arith, c.loop-place-test.true)) in
    record { linked = c.requires place _ (sym (c.loop-place.invariant.above place (omega arith)) ∙ found) }

pub loop-place-preserved : goal.loop-place-preserved
loop-place-preserved g c =
    places_step (λ k. LaneFills) c.args.lanes.now c.loop-place.lanes c.loop-place.place _ _
    (omega (arith, c.loop-place-test.true, c.loop-place.invariant.size))
    (slice_get-get_or c.loop-place.lanes c.loop-place.place c.index-lanes-place.result
    (omega (arith, c.loop-place-test.true)))
    (record {
      filled = c.in_ok-fill.ensures.filled;
      keeps = c.fill.ensures.keeps;
      source_is = refl;
      fifo_is = refl;
      target_is = refl;
      number_is = refl;
      tied = c.fill.ensures.tied;
    }) c.loop-place.invariant

pub returns : goal.returns
returns g c = places_end (λ k. LaneFills) c.args.lanes.now c.loop-place.lanes c.loop-place.place
    (omega (arith, c.loop-place-test.false, c.loop-place.invariant.size)) c.loop-place.invariant
