use Rattle.std.proofs.Common.{inl, inr, get_or, sym, subst, arith, ◌∙◌}
use Rattle.std.proofs.lemmas.Bool.{cases_lt}
use Rattle.std.proofs.lemmas.Option.{slice_get-get_or, slice_get_within}
use Rattle.can_station.proofs.Places.{places_start, places_step, places_end, same_some}
use Rattle.gw_opening.specs.declared.lane.Lane.{Lane}
use Rattle.gw_run.specs.Lanes.{AskedInVain}
use Rattle.gw_run.specs.Worlds.{CountsByIts, CountsTurns}
use Rattle.gw_run.specs.declared.schedule.Schedule.{Schedule}
use Rattle.gw_run.proofs.Stretches.{both_true}
use Rattle.gw_run.proofs.WorldTurns.{lane_cases, world_turn}
use Rattle.gw_run.proofs.Passes.{segments_start, segments_turn, lanes_start, lanes_turn}
use Rattle.gw_run.proofs.Keeps.{sites-self, sites-on, sites_of_first, sites_turn}
use Rattle.gw_run.proofs.world.serve_all.Goals as goal

pub loop-place-init : goal.loop-place-init
loop-place-init g c = (
  c.requires.world,
  segments_start c.args.sites.now,
  lanes_start c.args.lanes.now,
  sites-self c.args.lanes.now c.args.sites.now,
  places_start (CountsByIts c.args.schedules.now c.args.tick) c.args.lanes.now,
  (λ h. h),
  λ idle k lane none e. absurd (omega (arith, none)),
)

pub serve-requires-clause-schedule : goal.serve-requires-clause-schedule
serve-requires-clause-schedule g c =
    c.requires.schedules c.loop-place.place _
    (slice_get-get_or c.args.schedules.now c.loop-place.place (record { every = 0; burst = 0 })
    (omega (arith, c.loop-place-test.true, c.requires.all, c.loop-place.invariant.2.size)))

pub loop-place-preserved : goal.loop-place-preserved
loop-place-preserved g c =
    let place = c.loop-place.place in
    let lanes = c.loop-place.lanes in
    let sites = c.loop-place.sites in
    let held = c.loop-place.invariant in
    let served = c.serve.ensures.turns in
    let found =
    slice_get-get_or lanes place c.index-lanes-place.result (omega (arith, c.loop-place-test.true)) in
    let schedule = slice_get-get_or c.args.schedules.now place (record { every = 0; burst = 0 })
    (omega (arith, c.loop-place-test.true, c.requires.all, held.2.size)) in (
      world_turn sites c.serve.new.sites lanes place _ c.serve.new.lane found served held.0,
      segments_turn c.args.sites.now sites c.serve.new.sites _ c.serve.new.lane served held.1,
      lanes_turn c.args.lanes.now lanes place _ c.serve.new.lane found served.keeps held.2,
      sites-on c.args.lanes.now c.args.sites.now sites c.serve.new.sites held.3
          (sites_of_first c.args.lanes.now lanes sites c.serve.new.sites held.2
          (sites_turn lanes place _ c.serve.new.lane sites c.serve.new.sites found served)),
      places_step (CountsByIts c.args.schedules.now c.args.tick) c.args.lanes.now lanes place _ c.serve.new.lane
          (omega (arith, c.loop-place-test.true, held.4.size)) found
          (λ s is. subst (λ (x : Schedule). CountsTurns x c.args.tick (get_or lanes place c.index-lanes-place.result)
          c.serve.new.lane) (same_some _ s (sym schedule ∙ is))
          c.in_ok-idle.ensures.counted) held.4,
      (λ h. c.in_ok-idle.ensures.short (held.5 h)),
      λ is k lane less e.
          let both = both_true c.loop-place.idle c.in_ok-idle.field-0 is in
          elim (lane_cases lanes place _ c.serve.new.lane found k lane e) [
            | inl here ↦ subst (λ (l : Lane). AskedInVain l.hand) (sym here.1) (c.in_ok-idle.ensures.idle both.1)
            | inr there ↦ held.6 both.0 k lane
                (elim (cases_lt k place) [
                  | inl below ↦ below
                  | inr above ↦ absurd (there.0 (omega (arith, above, less)))
                ]) there.1
          ],
    )

pub returns-clause-counted : goal.returns-clause-counted
returns-clause-counted g c = places_end (CountsByIts c.args.schedules.now c.args.tick) c.args.lanes.now
    c.loop-place.lanes c.loop-place.place
    (omega (arith, c.loop-place-test.false, c.loop-place.invariant.4.size)) c.loop-place.invariant.4

pub returns-clause-idle : goal.returns-clause-idle
returns-clause-idle g c is k lane e = c.loop-place.invariant.6 is k lane
    (let within = slice_get_within c.loop-place.lanes k lane e in
    let end = c.loop-place-test.false in omega (arith, within, end)) e
