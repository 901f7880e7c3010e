use Rattle.std.proofs.Common.{◌<◌, length, sym, arith, ◌∙◌}
use Rattle.std.proofs.lemmas.Option.{slice_get-get_or, slice_get_within}
use Rattle.can_station.proofs.Places.{places_end, places_start, places_step}
use Rattle.gw_run.specs.Sites.{SiteIdles}
use Rattle.gw_run.proofs.Stretches.{both_true, far_put}
use Rattle.gw_run.proofs.stretch.all_idle_on.Goals as goal

pub loop-place-init : goal.loop-place-init
loop-place-init c = (
  places_start (λ i. SiteIdles c.args.until) c.args.sites.now,
  λ all i site none e. absurd (omega (arith, none)),
  λ reach i site none e. absurd (omega (arith, none)),
)

pub loop-place-preserved : goal.loop-place-preserved
loop-place-preserved c =
    let until = c.args.until in
    let sites = c.loop-place.sites in
    let place = c.loop-place.place in
    let new = c.idle_on-all.new.site in
    let so_far = c.loop-place.invariant in
    let within : place < length sites = omega (arith, c.loop-place-test.true) in
    let there = slice_get-get_or sites place c.index-sites-place.result within in (
      places_step (λ i. SiteIdles until) c.args.sites.now sites place _ new
          (omega (arith, within, so_far.0.size)) there c.idle_on-all.ensures.idles so_far.0,
      λ is.
          let both = both_true c.loop-place.all c.idle_on-all.result is in
          far_put until sites place new within (so_far.1 both.0) (c.idle_on-all.ensures.far both.1),
      λ reach. far_put until sites place new within (so_far.2 reach) (c.idle_on-all.ensures.reaches
          (reach place _ (sym (so_far.0.above place (omega arith)) ∙ there))),
    )

pub returns-clause-idle : goal.returns-clause-idle
returns-clause-idle c = places_end (λ i. SiteIdles c.args.until) c.args.sites.now c.loop-place.sites c.loop-place.place
    (omega (arith, c.loop-place-test.false, c.loop-place.invariant.0.size)) c.loop-place.invariant.0

pub returns-clause-far : goal.returns-clause-far
returns-clause-far c is i site e = c.loop-place.invariant.1 is i site
    (let within = slice_get_within c.loop-place.sites i site e in
    let end = c.loop-place-test.false in omega (arith, within, end)) e

pub returns-clause-reach : goal.returns-clause-reach
returns-clause-reach c reach i site e = c.loop-place.invariant.2 reach i site
    (let within = slice_get_within c.loop-place.sites i site e in
    let end = c.loop-place-test.false in omega (arith, within, end)) e
