use Rattle.std.proofs.Common.{ℕ, ◌+◌, length, ap, arith, subst, sym}
use Rattle.can_station.proofs.Places.{some_there}
use Rattle.gw_config.specs.Segments.{SegmentValue}
use Rattle.gw_site.proofs.Pairs.{PairsBelow, pairs_step}
use Rattle.gw_run.specs.Ports.{Site}
use Rattle.gw_run.specs.Sites.{StartsSite}
use Rattle.gw_run.proofs.NewSites.{new_sites, have_mails}
use Rattle.gw_run.proofs.opening.sites_of.Goals as goal

pub loop-segment-preserved : goal.loop-segment-preserved
loop-segment-preserved c =
    let said = c.args.script.now.segments in
    let i = c.loop-segment.segment in
    let New : ℕ → SegmentValue → Site → Type 0 = λ place segment. StartsSite c.args.script.now place in
    let there = some_there said i (omega (arith, c.loop-segment-test.true, ap length c.segments-segment-end.ensures)) in
    subst (λ sites. PairsBelow New said sites (i + 1)) (sym c.in_ok-push_one.ensures)
    (pairs_step New said c.loop-segment.sites.items i there.0 _ there.1 c.in_ok-site.ensures c.loop-segment.invariant)

pub returns-clause-new : goal.returns-clause-new
returns-clause-new c =
    new_sites c.args.script.now c.loop-segment.sites.items c.loop-segment.segment
    (omega (
      arith,
      c.loop-segment-test.false,
      ap length c.segments-segment-end.ensures,
      c.loop-segment.invariant.size,
    )) c.loop-segment.invariant

pub returns-clause-mails : goal.returns-clause-mails
returns-clause-mails c =
    have_mails c.args.script.now c.loop-segment.sites.items c.loop-segment.segment
    (omega (arith, c.loop-segment-test.false, ap length c.segments-segment-end.ensures)) c.loop-segment.invariant
