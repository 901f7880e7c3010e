use Rattle.std.proofs.Common.{◌+◌, length, arith, ap, sym, subst}
use Rattle.gw_opening.proofs.Openings.{OpensBelow, opens_start, opens_step, same_mails-self, same_mails-on}
use Rattle.gw_opening.proofs.route_start.lanes_of.Goals as goal

pub loop-route-init : goal.loop-route-init
loop-route-init g c = (
  subst (λ lanes. OpensBelow c.args.script.now c.args.sites.now lanes 0) (sym c.new-lanes.ensures.items)
      (opens_start c.args.script.now c.args.sites.now c.requires.sites),
  same_mails-self c.args.sites.now,
)

pub loop-route-preserved : goal.loop-route-preserved
loop-route-preserved g c =
    let s = c.args.script.now in
    let k = c.loop-route.route in
    let made = c.in_ok-lane.ensures in (
      subst (λ lanes. OpensBelow s c.start_lane.new.sites lanes (k + 1)) (sym c.in_ok-push_one.ensures)
          (opens_step s c.loop-route.sites c.start_lane.new.sites c.loop-route.lanes.items k c.in_ok-lane.lane
          c.requires.sound
          (omega (arith, c.loop-route-test.true, ap length c.routes-route-end.ensures)) made.sites made.lane made.takes
          made.others c.loop-route.invariant.0),
      same_mails-on c.args.sites.now c.loop-route.sites c.start_lane.new.sites c.loop-route.invariant.1 made.mails,
    )
