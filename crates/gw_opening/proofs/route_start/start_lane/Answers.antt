use Rattle.std.proofs.Common.{sym, ◌∙◌}
use Rattle.can_station.proofs.Places.{some_there}
use Rattle.gw_opening.proofs.Openings.{place_there, sites_set, mails_set, slot_set, takes_other}
use Rattle.gw_opening.proofs.route_start.start_lane.Goals as goal

pub put-requires : goal.put-requires
put-requires g c =
    let value = some_there c.args.script.now.routes c.args.route c.requires.there in
    let lane = c.in_ok-lane.ensures.lane value.0 value.1 in
    let there = place_there c.args.script.now c.args.sites.now value.0.source c.in_ok-lane.lane.source c.requires.sound
    c.requires.sites lane.lane_is.source_is in
    (there.port, there.at)

pub returns-clause-sites : goal.returns-clause-sites
returns-clause-sites g c =
    sites_set c.args.script.now c.in_ok-lane.lane.fifo _ c.args.sites.now c.put.new.sites c.in_ok-lane.lane.source
    c.in-Ok.ensures.stands c.put.ensures c.requires.sites

pub returns-clause-takes : goal.returns-clause-takes
returns-clause-takes g c =
    let put = c.put.ensures in record {
      from = put.late;
      from_is = record { site = put.late_site; site_is = put.late_site_is; port_is = put.late_is };
      takes = record {
        intake = _;
        slot_is = slot_set c.in_ok-lane.lane.fifo _ put.port put.late put.changes;
        queue_is = c.in-Ok.ensures.queue ∙ sym c.in_ok-lane.ensures.queue;
      };
    }

pub returns-clause-others : goal.returns-clause-others
returns-clause-others g c = λ other apart takes. takes_other c.in_ok-lane.lane.fifo _ c.args.sites.now c.put.new.sites
    c.in_ok-lane.lane.source other c.put.ensures apart takes

pub returns-clause-mails : goal.returns-clause-mails
returns-clause-mails g c =
    mails_set c.in_ok-lane.lane.fifo _ c.args.sites.now c.put.new.sites c.in_ok-lane.lane.source c.put.ensures
