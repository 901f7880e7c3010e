use Rattle.std.proofs.Common.{◌≡◌, ◌++◌, [], refl, sym, subst, arith}
use Rattle.std.specs.Vec.Iter.{into_iter_items}
use Rattle.gw_ending.proofs.Closes.{ClosesBelow, closes_start, first_of, closes_step}
use Rattle.gw_ending.specs.Finals.{HasTalkers, turns_made, turns_reported}
use Rattle.gw_opening.proofs.Openings.{segment_there}
use Rattle.gw_ending.proofs.RouteRuns.{was_offered, has_talkers}
use Rattle.gw_ending.proofs.Named.{few_nodes}
use Rattle.gw_ending.proofs.Turns.{reported_more}
use Rattle.gw_ending.proofs.closing.end_lanes.Goals as goal

pub loop-lane-init : goal.loop-lane-init
loop-lane-init g c =
    let s = c.args.script.now in
    let sites = c.args.sites.now in
    let given = sym c.into_iter-lane-iterator.ensures.into_iter_gives.0 in
    let none = sym c.in_ok-reports.ensures.items in
    record {
      closes = subst (λ reports. ClosesBelow s sites sites (into_iter_items c.into_iter-lane-iterator.result) reports)
          none (subst (λ lanes. ClosesBelow s sites sites lanes []) given
          (closes_start s sites c.args.lanes.items c.requires.over));
      turns = subst (λ reports. turns_reported reports ++ turns_made (into_iter_items c.into_iter-lane-iterator.result)
          ≡ turns_made c.args.lanes.items) none
          (subst (λ lanes. turns_made lanes ≡ turns_made c.args.lanes.items) given refl);
    }

pub talkers_at-talkers-requires : goal.talkers_at-talkers-requires
talkers_at-talkers-requires g c =
    let rest = into_iter_items c.next.new.self in
    let left = subst (λ lanes. ClosesBelow c.args.script.now c.args.sites.now c.loop-lane.sites lanes
    c.loop-lane.reports.items) c.in-Some.ensures.steps.0 c.loop-lane.invariant.closes in
    let here = first_of c.args.script.now c.args.sites.now c.loop-lane.sites c.in-Some.lane rest
    c.loop-lane.reports.items left in
    segment_there c.args.script.now here.0.target c.in-Some.lane.target c.requires.sound here.2.lane_is.target_is

pub end_lane-requires-clause-takes : goal.end_lane-requires-clause-takes
end_lane-requires-clause-takes g c =
    let rest = into_iter_items c.next.new.self in
    let left = subst (λ lanes. ClosesBelow c.args.script.now c.args.sites.now c.loop-lane.sites lanes
    c.loop-lane.reports.items) c.in-Some.ensures.steps.0 c.loop-lane.invariant.closes in
    (first_of c.args.script.now c.args.sites.now c.loop-lane.sites c.in-Some.lane rest c.loop-lane.reports.items
    left).2.takes

pub end_lane-requires-clause-log : goal.end_lane-requires-clause-log
end_lane-requires-clause-log g c =
    let rest = into_iter_items c.next.new.self in
    let left = subst (λ lanes. ClosesBelow c.args.script.now c.args.sites.now c.loop-lane.sites lanes
    c.loop-lane.reports.items) c.in-Some.ensures.steps.0 c.loop-lane.invariant.closes in
    (first_of c.args.script.now c.args.sites.now c.loop-lane.sites c.in-Some.lane rest c.loop-lane.reports.items
    left).2.log

pub end_lane-requires-clause-there : goal.end_lane-requires-clause-there
end_lane-requires-clause-there g c =
    let rest = into_iter_items c.next.new.self in
    let left = subst (λ lanes. ClosesBelow c.args.script.now c.args.sites.now c.loop-lane.sites lanes
    c.loop-lane.reports.items) c.in-Some.ensures.steps.0 c.loop-lane.invariant.closes in
    let closes = (first_of c.args.script.now c.args.sites.now c.loop-lane.sites c.in-Some.lane rest
    c.loop-lane.reports.items left).2.closes in
    (closes.to, closes.to_is)

pub end_lane-requires-clause-talkers : goal.end_lane-requires-clause-talkers
end_lane-requires-clause-talkers g c =
    let rest = into_iter_items c.next.new.self in
    let left = subst (λ lanes. ClosesBelow c.args.script.now c.args.sites.now c.loop-lane.sites lanes
    c.loop-lane.reports.items) c.in-Some.ensures.steps.0 c.loop-lane.invariant.closes in
    subst (HasTalkers c.loop-lane.sites c.in-Some.lane.target) (sym c.talkers_at-talkers.ensures)
    (has_talkers c.args.script.now c.loop-lane.sites c.in-Some.lane.target left.each_site)

pub end_lane-requires-clause-few : goal.end_lane-requires-clause-few
end_lane-requires-clause-few g c =
    let rest = into_iter_items c.next.new.self in
    let left = subst (λ lanes. ClosesBelow c.args.script.now c.args.sites.now c.loop-lane.sites lanes
    c.loop-lane.reports.items) c.in-Some.ensures.steps.0 c.loop-lane.invariant.closes in
    let here = first_of c.args.script.now c.args.sites.now c.loop-lane.sites c.in-Some.lane rest
    c.loop-lane.reports.items left in
    let few = few_nodes c.args.script.now c.loop-lane.sites here.0.target c.in-Some.lane.target here.2.closes.to
    c.requires.sound left.each_site here.2.lane_is.target_is here.2.closes.to_is in
    omega (arith, few, c.talkers_at-talkers.ensures)

pub end_lane-requires-clause-room : goal.end_lane-requires-clause-room
end_lane-requires-clause-room g c =
    let left = subst (λ lanes. ClosesBelow c.args.script.now c.args.sites.now c.loop-lane.sites lanes
    c.loop-lane.reports.items) c.in-Some.ensures.steps.0 c.loop-lane.invariant.closes in
    left.few 12 c.requires.room

pub end_lane-requires-clause-offered : goal.end_lane-requires-clause-offered
end_lane-requires-clause-offered g c =
    let rest = into_iter_items c.next.new.self in
    let left = subst (λ lanes. ClosesBelow c.args.script.now c.args.sites.now c.loop-lane.sites lanes
    c.loop-lane.reports.items) c.in-Some.ensures.steps.0 c.loop-lane.invariant.closes in
    let here = first_of c.args.script.now c.args.sites.now c.loop-lane.sites c.in-Some.lane rest
    c.loop-lane.reports.items left in
    was_offered c.args.script.now c.loop-lane.sites _ here.0 c.in-Some.lane c.requires.sound left.each_site here.1
    here.2.lane_is

pub loop-lane-preserved : goal.loop-lane-preserved
loop-lane-preserved g c =
    let s = c.args.script.now in
    let first = c.args.sites.now in
    let rest = into_iter_items c.next.new.self in
    let left = subst (λ lanes. ClosesBelow s first c.loop-lane.sites lanes c.loop-lane.reports.items)
    c.in-Some.ensures.steps.0 c.loop-lane.invariant.closes in
    let reported = subst (λ lanes. turns_reported c.loop-lane.reports.items ++ turns_made lanes ≡ turns_made c.args.lanes.items)
    c.in-Some.ensures.steps.0 c.loop-lane.invariant.turns in
    let pushed = sym c.in_ok-push_one.ensures in
    record {
      closes = subst (ClosesBelow s first c.end_lane.new.sites rest) pushed
          (closes_step s first c.loop-lane.sites c.end_lane.new.sites c.in-Some.lane rest c.loop-lane.reports.items
          c.in_ok-report.report c.requires.sound left c.in_ok-report.ensures.sets c.in_ok-report.ensures.ends);
      turns = subst (λ reports. turns_reported reports ++ turns_made rest ≡ turns_made c.args.lanes.items) pushed
          (reported_more c.loop-lane.reports.items c.in_ok-report.report c.in-Some.lane rest _ c.in_ok-report.ensures.turns
          reported);
    }
