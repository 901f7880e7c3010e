use Rattle.std.proofs.Common.{rules, ◌≡◌, Some, inl, inr, sym, ap, slice_get, subst, arith, ◌∙◌}
use Rattle.std.proofs.lemmas.Bool.{cases_lt}
use Rattle.std.proofs.lemmas.Option.{slice_get-get_or, slice_get_within}
use Rattle.can_station.proofs.Places.{same_some}
use Rattle.gw_run.specs.Sites.{Reaches}
use Rattle.gw_run.proofs.Stretches.{reaches_sooner}
use Rattle.gw_run.proofs.stretch.all_idle_until.Goals as goal

pub loop-site-init : goal.loop-site-init
loop-site-init c = (λ i site none e. absurd (omega (arith, none)), omega arith, λ made most far. most)

pub loop-site-preserved : goal.loop-site-preserved
loop-site-preserved c =
    let sites = c.args.sites.now in
    let index = c.loop-site.site-index in
    let found = c.site-item.result in
    let reached = c.idles_until.ensures in
    let there : slice_get sites index ≡ Some found =
    slice_get-get_or sites index found (search rules) ∙ ap Some (sym c.site-item.is) in (
      λ i site less e. elim (cases_lt i index) [
        | inl before ↦ reaches_sooner _ c.loop-site.until site (omega (arith, c.min-until.ensures))
            (c.loop-site.invariant.0 i site before e)
        | inr here ↦
            let same : i ≡ index = omega (arith, here, less) in
            let is : site ≡ found = same_some site found (sym e ∙ ap (slice_get sites) same ∙ there) in
            subst (Reaches _) (sym is)
            (reaches_sooner _ c.idles_until.result found (omega (arith, c.min-until.ensures)) reached.reaches)
      ],
      omega (arith, c.loop-site.invariant.1, c.min-until.ensures),
      λ made most far.
          omega (arith, c.min-until.ensures, c.loop-site.invariant.2 made most far, far index found there, reached.least),
    )

pub returns-clause-reach : goal.returns-clause-reach
returns-clause-reach c i site e = c.loop-site.invariant.0 i site
    (let within = slice_get_within c.args.sites.now i site e in
    let end = c.loop-site-test.false in omega (arith, within, end)) e

pub returns-clause-most : goal.returns-clause-most
returns-clause-most c = c.loop-site.invariant.1

pub returns-clause-least : goal.returns-clause-least
returns-clause-least c = c.loop-site.invariant.2
