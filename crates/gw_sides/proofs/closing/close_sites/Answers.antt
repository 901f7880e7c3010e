use Rattle.std.proofs.Common.{◌++◌, ◌∷◌, [], slice_get, append_assoc, length-append}
use Rattle.std.proofs.Common.{refl, sym, ap, subst, arith, ◌∙◌}
use Rattle.std.specs.Vec.Iter.{into_iter_items}
use Rattle.gw_ending.specs.Ports.{Site as ClosedSite}
use Rattle.gw_site.proofs.Pairs.{pairs_more}
use Rattle.gw_site.specs.Pairs.{Pairs}
use Rattle.gw_sides.specs.Sets.{ClosesSite}
use Rattle.gw_sides.proofs.Closes.{next_there, behind_more, may_close_on, site_closes_on}
use Rattle.gw_sides.proofs.closing.close_sites.Goals as goal

pub loop-site-init : goal.loop-site-init
loop-site-init g c = (
  refl,
  refl,
  subst (Pairs _ []) (sym c.in_ok-closed.ensures.items) (record { at = λ k site late e f. absurd (cc e); size = refl }),
  λ i k controller above e n less. refl,
  refl,
)

pub close_ports-requires-clause-may_close : goal.close_ports-requires-clause-may_close
close_ports-requires-clause-may_close g c =
    let l = c.loop-site in
    let s = c.args.script.now in
    let site = next_there l.yielded c.in-Some.site (into_iter_items c.next.new.self)
    (into_iter_items l.site-iterator) c.args.sites.items (l.invariant.0
    ∙ c.into_iter-site-iterator.ensures.into_iter_gives.0) c.in-Some.ensures.steps.0 in
    let first = c.requires.may_close l.place c.in-Some.site (ap (slice_get c.args.sites.items) l.invariant.1 ∙ site) in
    record {
      at = λ k controller port e f. may_close_on g.M.Mailboxes.routes_of g.M.Mailboxes.side_of s controller port
          c.args.seats.now l.seats (l.invariant.3 l.place k controller (omega arith) e)
          (first.at k controller port e f);
      size = first.size;
    }

pub loop-site-preserved : goal.loop-site-preserved
loop-site-preserved g c =
    let l = c.loop-site in
    let s = c.args.script.now in
    let made = c.in_ok-ports.ensures in
    let After = g.B.TxBus.bus_after in
    let RouteAfter = g.S.RouteTx.route_after in
    let Txfp = g.M.Mailboxes.txfp_of in
    let Room = g.M.Mailboxes.room in
    let closed : ClosedSite = record { segment = c.in-Some.site.segment; ports = c.in_ok-ports.ports } in
    let here = site_closes_on After RouteAfter Txfp Room s l.place c.in-Some.site closed c.args.seats.now l.seats
    (λ k controller e. l.invariant.3 l.place k controller (omega arith) e)
    (record { segment_is = refl; ports = made.closes }) in (
      append_assoc l.yielded (c.in-Some.site ∷ []) (into_iter_items c.next.new.self)
          ∙ ap (λ rest. l.yielded ++ rest) (sym c.in-Some.ensures.steps.0) ∙ l.invariant.0,
      omega (arith, l.invariant.1, length-append l.yielded (c.in-Some.site ∷ [])),
      subst (Pairs (ClosesSite After RouteAfter Txfp Room s c.args.seats.now) (l.yielded ++ c.in-Some.site ∷ []))
          (sym c.in_ok-push_one.ensures)
          (pairs_more (ClosesSite After RouteAfter Txfp Room s c.args.seats.now) l.yielded l.closed.items c.in-Some.site
          closed (subst (λ n. ClosesSite After RouteAfter Txfp Room s c.args.seats.now n c.in-Some.site closed)
          l.invariant.1 here) l.invariant.2),
      behind_more s l.place c.args.seats.now l.seats c.close_ports.new.seats made.leaves l.invariant.3,
      made.leaves.size ∙ l.invariant.4,
    )
