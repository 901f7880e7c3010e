use Rattle.std.proofs.Common.{◌++◌, ◌∷◌, [], length, slice_get, append_assoc, length-append}
use Rattle.std.proofs.Common.{refl, sym, ap, subst, arith, ◌∙◌}
use Rattle.std.specs.Vec.Iter.{into_iter_items}
use Rattle.can_station.proofs.Places.{same_some}
use Rattle.gw_config.specs.Nodes.{controller_places}
use Rattle.gw_site.proofs.Pairs.{pairs_more}
use Rattle.gw_site.specs.Pairs.{Pairs}
use Rattle.gw_sides.specs.Sets.{ClosesPort, ClosesNth}
use Rattle.gw_sides.proofs.Closes.{next_there, same_more, may_close_on, closes_on}
use Rattle.gw_sides.proofs.Opens.{below-start, below-more, below-all}
use Rattle.gw_sides.proofs.closing.close_ports.Goals as goal

pub loop-port-init : goal.loop-port-init
loop-port-init g c = (
  refl,
  refl,
  subst (Pairs _ []) (sym c.in_ok-closed.ensures.items) (record { at = λ k port late e f. absurd (cc e); size = refl }),
  below-start c.args.script.now c.args.segment c.args.seats.now,
  λ k controller above e n less. refl,
)

pub controller_there-controller-requires : goal.controller_there-controller-requires
controller_there-controller-requires g c =
    let l = c.loop-port in
    let whole = ap length l.invariant.0 in
    let rest = ap length c.in-Some.ensures.steps.0 in
    omega (
      arith,
      whole,
      rest,
      length-append l.yielded (into_iter_items l.port-iterator),
      l.invariant.1,
      ap length c.into_iter-port-iterator.ensures.into_iter_gives.0,
      c.requires.may_close.size,
    )

pub close_port-requires-clause-may_close : goal.close_port-requires-clause-may_close
close_port-requires-clause-may_close g c =
    let l = c.loop-port in
    let s = c.args.script.now in
    let there = c.controller_there-controller.ensures.place in
    let port = next_there l.yielded c.in-Some.port (into_iter_items c.next.new.self)
    (into_iter_items l.port-iterator) c.args.ports.items (l.invariant.0
    ∙ c.into_iter-port-iterator.ensures.into_iter_gives.0) c.in-Some.ensures.steps.0 in
    may_close_on g.M.Mailboxes.routes_of g.M.Mailboxes.side_of s c.controller_there-controller.result c.in-Some.port
    c.args.seats.now l.seats (l.invariant.4 l.nth c.controller_there-controller.result (omega arith) there)
    (c.requires.may_close.at (length l.yielded) c.controller_there-controller.result c.in-Some.port
    (ap (slice_get (controller_places s c.args.segment)) (sym l.invariant.1) ∙ there) port)

pub loop-port-preserved : goal.loop-port-preserved
loop-port-preserved g c =
    let l = c.loop-port in
    let s = c.args.script.now in
    let i = c.args.segment in
    let d = c.controller_there-controller.result in
    let there = c.controller_there-controller.ensures.place in
    let made = c.in_ok-late.ensures in
    let After = g.B.TxBus.bus_after in
    let RouteAfter = g.S.RouteTx.route_after in
    let Txfp = g.M.Mailboxes.txfp_of in
    let Room = g.M.Mailboxes.room in
    let here = closes_on After RouteAfter Txfp Room s d c.in-Some.port c.in_ok-late.late c.args.seats.now l.seats
    (l.invariant.4 l.nth d (omega arith) there) made.closes in (
      append_assoc l.yielded (c.in-Some.port ∷ []) (into_iter_items c.next.new.self)
          ∙ ap (λ rest. l.yielded ++ rest) (sym c.in-Some.ensures.steps.0) ∙ l.invariant.0,
      omega (arith, l.invariant.1, length-append l.yielded (c.in-Some.port ∷ [])),
      subst (Pairs (ClosesNth After RouteAfter Txfp Room s c.args.seats.now i) (l.yielded ++ c.in-Some.port ∷ []))
          (sym c.in_ok-push_one.ensures)
          (pairs_more (ClosesNth After RouteAfter Txfp Room s c.args.seats.now i) l.yielded l.closed.items
          c.in-Some.port c.in_ok-late.late
          (record {
            at = λ controller e. subst
                (λ x. ClosesPort After RouteAfter Txfp Room s c.args.seats.now x c.in-Some.port c.in_ok-late.late)
                (same_some d controller (sym there ∙ ap (slice_get (controller_places s i)) l.invariant.1 ∙ e)) here;
          })
          l.invariant.2),
      below-more s i l.nth d c.args.seats.now l.seats c.close_port.new.seats there made.leaves l.invariant.3,
      same_more s i l.nth d c.args.seats.now l.seats c.close_port.new.seats there made.leaves l.invariant.4,
    )

pub returns-clause-leaves : goal.returns-clause-leaves
returns-clause-leaves g c = below-all c.args.script.now c.args.segment c.loop-port.nth c.args.seats.now
    c.loop-port.seats c.loop-port.invariant.3
