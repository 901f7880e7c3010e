use Rattle.std.proofs.Common.{sym, subst, arith, ◌∙◌}
use Rattle.can_segment.proofs.Shown.{put_back}
use Rattle.gw_site.specs.Pairs.{Pairs}
use Rattle.gw_ending.specs.Finals.{IsRecordAt, WaitAtMost}
use Rattle.gw_ending.specs.Reports.{IsRouteRun}
use Rattle.gw_ending.proofs.Named.{all_named}
use Rattle.gw_ending.proofs.Reports.{runs_segments, lines_reported}
use Rattle.gw_ending.proofs.ending.end_run.Goals as goal

pub returns-clause-segments : goal.returns-clause-segments
returns-clause-segments g c =
    let done = c.in_ok-routes.ensures.sites in
    let back = put_back c.args.sites.len c.end_lanes.new.sites c.args.sites.items
    (omega (arith, c.as_mut_slice.ensures.len, done.size, c.requires.over.each_site.size))
    (omega (arith, done.size, c.requires.over.each_site.size)) in
    runs_segments c.args.script.now c.end_lanes.new.sites c.in_ok-segments.segments.items done
    (subst (λ sites. Pairs (λ i. IsRecordAt) sites c.in_ok-segments.segments.items) back c.in_ok-segments.ensures)

pub returns-clause-routes : goal.returns-clause-routes
returns-clause-routes g c room few =
    let done = c.in_ok-routes.ensures.sites in
    let back = put_back c.args.sites.len c.end_lanes.new.sites c.args.sites.items
    (omega (arith, c.as_mut_slice.ensures.len, done.size, c.requires.over.each_site.size))
    (omega (arith, done.size, c.requires.over.each_site.size)) in
    let reported = lines_reported c.end_lanes.new.sites c.in_ok-segments.segments.items
    (subst (λ sites. Pairs (λ i. IsRecordAt) sites c.in_ok-segments.segments.items) back
    c.in_ok-segments.ensures) in
    subst (λ lines. Pairs (λ place route. IsRouteRun room c.args.script.now lines place route) c.args.script.now.routes
    c.in_ok-routes.routes.items) (sym (reported ∙ c.in_ok-routes.ensures.lines))
    (c.in_ok-routes.ensures.routes room (subst (WaitAtMost room) (sym c.as_mut_slice.ensures.value) few))

pub returns-clause-names : goal.returns-clause-names
returns-clause-names g c =
    let done = c.in_ok-routes.ensures.sites in
    let back = put_back c.args.sites.len c.end_lanes.new.sites c.args.sites.items
    (omega (arith, c.as_mut_slice.ensures.len, done.size, c.requires.over.each_site.size))
    (omega (arith, done.size, c.requires.over.each_site.size)) in
    all_named c.args.script.now c.end_lanes.new.sites
    (record { segments = c.in_ok-segments.segments; routes = c.in_ok-routes.routes }) done
    (subst (λ sites. Pairs (λ i. IsRecordAt) sites c.in_ok-segments.segments.items) back c.in_ok-segments.ensures)
    c.in_ok-routes.ensures.size

pub end_lanes-requires-clause-room : goal.end_lanes-requires-clause-room
end_lanes-requires-clause-room g c = subst (WaitAtMost 12) (sym c.as_mut_slice.ensures.value) c.requires.few
