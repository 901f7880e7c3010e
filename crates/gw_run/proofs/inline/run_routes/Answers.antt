use Rattle.std.proofs.Common.{sym, subst, map, arith, ◌∙◌}
use Rattle.can_segment.proofs.Shown.{put_back}
use Rattle.gw_opening.specs.Openings.{Opens}
use Rattle.gw_opening.proofs.Openings.{have_mails-on}
use Rattle.gw_run.proofs.Schedules.{are_schedules}
use Rattle.gw_run.specs.Ports.{IsNewMail}
use Rattle.gw_run.specs.Schedules.{AreSchedules, schedule_of}
use Rattle.gw_run.specs.Worlds.{HaveTurned}
use Rattle.gw_run.proofs.inline.run_routes.Goals as goal

pub make_bits_and_turns-requires-clause-opens : goal.make_bits_and_turns-requires-clause-opens
make_bits_and_turns-requires-clause-opens g c = record {
  opens = subst (λ lanes. Opens c.args.script.now c.lanes_of.new.sites lanes)
      (sym c.as_mut_slice.ensures.value) c.in_ok-lanes.ensures.opens;
  mails = have_mails-on IsNewMail c.args.script.now c.args.sites.now c.lanes_of.new.sites c.in_ok-lanes.ensures.mails
      c.requires.mails;
}

pub make_bits_and_turns-requires-clause-schedules : goal.make_bits_and_turns-requires-clause-schedules
make_bits_and_turns-requires-clause-schedules g c =
    subst AreSchedules (sym (c.as_slice.ensures.value ∙ c.in_ok-schedules.ensures))
    (are_schedules c.args.turn c.args.script.now c.requires.turn c.requires.sound)

pub returns-clause-turned : goal.returns-clause-turned
returns-clause-turned g c =
    let schedules = map (schedule_of c.args.turn) c.args.script.now.routes in
    let bits = c.args.script.now.bits in
    let run = c.in_ok-make_bits_and_turns.ensures.run in
    let back = put_back c.in_ok-lanes.lanes.len c.make_bits_and_turns.new.lanes c.in_ok-lanes.lanes.items
    (omega (arith, c.as_mut_slice.ensures.len, run.each_lane.size, c.in_ok-lanes.ensures.opens.each_lane.size))
    (omega (arith, run.each_lane.size, c.in_ok-lanes.ensures.opens.each_lane.size)) in
    subst (HaveTurned schedules bits) (sym back)
    (subst (λ ss. HaveTurned ss bits c.make_bits_and_turns.new.lanes)
    (c.as_slice.ensures.value ∙ c.in_ok-schedules.ensures) c.in_ok-make_bits_and_turns.ensures.turned)
