use Rattle.std.proofs.Common.{◌≡◌, Some, length, map, sym, ap, subst, arith, ◌∙◌}
use Rattle.bx_core.specs.Lists.{Each}
use Rattle.can_segment.proofs.Shown.{put_back}
use Rattle.gw_sides.specs.Sets.{IsNewSet, IsNewSide}
use Rattle.bx_controller.specs.Ports.{SinkStands}
use Rattle.gw_site.specs.Pairs.{Pairs}
use Rattle.gw_site.specs.Sites.{IsNewSite}
use Rattle.gw_threaded.specs.Parts.{AreThere, HaveCome, HaveParted, IsLaneFrom, LeavesBehind}
use Rattle.gw_threaded.specs.Runs.{HasRun}
use Rattle.gw_threaded.proofs.Begins.{sides_there, ready_sites, ready_couriers}
use Rattle.gw_threaded.proofs.Trips.{has_run}
use Rattle.gw_threads.specs.Clocks.{HasPaced, pace_of}
use Rattle.gw_threaded.proofs.running.run_started.Goals as goal

pub part_all-requires-clause-sides : goal.part_all-requires-clause-sides
part_all-requires-clause-sides g c =
    subst (AreThere (length c.args.started.2.items)) (sym c.as_mut_slice.ensures.value)
    (sides_there (IsNewSet g.B.TxBus.bus_after g.B.TxBus.bus_asked g.B.TxBus.transmitting g.M.Mailboxes.routes_of
    g.M.Mailboxes.txfp_of) (IsNewSide g.M.Mailboxes.side_of g.S.RouteTx.route_after)
    c.args.script.now c.args.started.0.items c.args.started.1.items c.args.started.2.items c.requires.sound
    c.requires.starts)

pub part_all-requires-clause-gates : goal.part_all-requires-clause-gates
part_all-requires-clause-gates g c = omega (arith, c.requires.gates, c.requires.starts.opens.each_lane.size)

pub run_in_threads-requires-clause-sites : goal.run_in_threads-requires-clause-sites
run_in_threads-requires-clause-sites g c κs within =
    subst
    (λ bits. Each (IsNewSite (λ p past. g.B.TxBus.bus_after p.mail past)
    (λ p. g.B.TxBus.transmitting p.mail) SinkStands bits) c.args.started.0.items) (sym c.bits.ensures)
    (ready_sites g.B.TxBus.bus_after g.B.TxBus.bus_asked g.B.TxBus.transmitting g.M.Mailboxes.routes_of
    g.M.Mailboxes.txfp_of (IsNewSide g.M.Mailboxes.side_of g.S.RouteTx.route_after)
    c.args.script.now c.args.started.0.items c.args.started.1.items c.args.started.2.items c.requires.starts)

pub run_in_threads-requires-clause-ready : goal.run_in_threads-requires-clause-ready
run_in_threads-requires-clause-ready g c κs within =
    let parted = subst (λ seats. HaveParted seats (map Some c.args.gates.items) c.args.started.2.items
    c.in-Ok.leads.items c.in-Ok.couriers.items) c.as_mut_slice.ensures.value
    c.in-Ok.ensures.parted in
    ready_couriers (IsNewSet g.B.TxBus.bus_after g.B.TxBus.bus_asked g.B.TxBus.transmitting g.M.Mailboxes.routes_of
    g.M.Mailboxes.txfp_of) g.M.Mailboxes.side_of g.S.RouteTx.route_after
    c.args.script.now c.args.started.0.items c.args.started.1.items c.args.started.2.items (map Some c.args.gates.items)
    c.in-Ok.couriers.items c.requires.sound c.requires.starts parted.couriers_are

pub run_in_threads-requires-clause-few_routes : goal.run_in_threads-requires-clause-few_routes
run_in_threads-requires-clause-few_routes g c κs within =
    omega (
      arith,
      c.in-Ok.ensures.parted.couriers_are.size,
      c.requires.starts.opens.each_lane.size,
      c.requires.sound.few_routes,
    )

pub returns-in-Ok-meet-clause-run : goal.returns-in-Ok-meet-clause-run
returns-in-Ok-meet-clause-run g c =
    let s = c.args.script.now in
    let seats = c.args.started.1.items in
    let parted = subst (λ at. HaveParted at (map Some c.args.gates.items) c.args.started.2.items c.in-Ok.leads.items
    c.in-Ok.couriers.items) c.as_mut_slice.ensures.value c.in-Ok.ensures.parted in
    let leaves = subst (λ at. LeavesBehind (length c.args.started.2.items) at c.part_all.new.seats)
    c.as_mut_slice.ensures.value c.in-Ok.ensures.leaves in
    let first = put_back c.args.started.1.len c.part_all.new.seats seats
    (omega (arith, c.as_mut_slice.ensures.len, leaves.size, ap length c.as_mut_slice.ensures.value))
    (omega (arith, leaves.size)) in
    let come = subst (λ at. HaveCome c.in_ok-sites.couriers.items at c.meet.new.seats)
    (c.as_mut_slice-2.ensures.value ∙ first) c.in-Ok-meet.ensures.come in
    let size : length c.meet.new.seats ≡ length c.part_all.new.seats = come.leaves.size in
    let last = put_back c.args.started.1.len c.meet.new.seats _
    (omega (arith, size, leaves.size, c.as_mut_slice.ensures.len, ap length c.as_mut_slice.ensures.value))
    (omega (arith, size, ap length first)) in
    let lanes = subst (λ leads. Pairs (IsLaneFrom leads) c.in_ok-sites.couriers.items c.in-Ok-meet.lanes.items)
    c.as_slice.ensures.value c.in-Ok-meet.ensures.lanes in
    subst (λ at. HasRun g.B.TxBus.bus_after g.B.TxBus.transmitting g.S.RouteTx.route_after g.M.Mailboxes.routes_of
    g.M.Mailboxes.txfp_of g.M.Mailboxes.side_of s c.in_ok-sites.sites.items at c.in-Ok-meet.lanes.items) (sym last)
    (has_run g.B.TxBus.bus_after g.B.TxBus.bus_asked g.B.TxBus.transmitting g.B.TxBus.bus_stays g.S.RouteTx.route_after
    g.S.RouteTx.stays g.M.Mailboxes.routes_of g.M.Mailboxes.txfp_of g.M.Mailboxes.side_of
    g.met.M.Mailboxes.side_stays g.met.M.Mailboxes.side_moves g.met.M.Mailboxes.routes_stay g.met.M.Mailboxes.txfp_stays
    s c.args.started.0.items c.in_ok-sites.sites.items seats c.part_all.new.seats c.meet.new.seats
    (map Some c.args.gates.items) c.args.started.2.items c.in-Ok-meet.lanes.items c.in-Ok.leads.items
    c.in-Ok.couriers.items c.in_ok-sites.couriers.items
    c.requires.starts parted leaves c.in_ok-sites.ensures.sites c.in_ok-sites.ensures.couriers lanes come)

pub returns-in-Ok-meet-clause-paced : goal.returns-in-Ok-meet-clause-paced
returns-in-Ok-meet-clause-paced g c =
    subst (λ segments. HasPaced (pace_of segments c.args.slack c.args.script.now.bits) c.args.workers
    c.in_ok-sites.clock) c.requires.starts.each_site.size
    (subst (λ bits. HasPaced (pace_of (length c.args.started.0.items) c.args.slack bits) c.args.workers
    c.in_ok-sites.clock) c.bits.ensures c.in_ok-sites.ensures.paced)
