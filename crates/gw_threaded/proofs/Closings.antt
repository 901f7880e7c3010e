-- What stands behind the last bit still stands when the mailboxes are closed.
use Rattle.std.proofs.Common.{◌≡◌, ℕ, ◌+◌, ◌≤◌, inl, inr, Bool, Option, Some, List, length}
use Rattle.std.proofs.Common.{slice_get, sym, ap, subst, arith, ◌∙◌}
use Rattle.std.proofs.lemmas.Bool.{cases_lt}
use Rattle.bx_core.specs.RouteTx.{RoutePast, no_route_past}
use Rattle.bx_core.specs.Ties.{RouteTied, NothingOf, left_of}
use Rattle.bx_core.specs.TxBus.{Item, BusPast, no_bus_past}
use Rattle.bx_controller.specs.Ports.{SinkStands, slot_leaves}
use Rattle.bx_controller.specs.declared.port.Port.{Port}
use Rattle.can_frame.specs.Frames.{FrameValue}
use Rattle.can_station.proofs.Places.{some_there}
use Rattle.can_segment.specs.Brought.{kinds_of, grown}
use Rattle.can_segment.specs.Segments.{SegmentValue}
use Rattle.gw_config.specs.Nodes.{controller_places, route_places}
use Rattle.gw_config.specs.Routes.{RouteValue}
use Rattle.gw_config.specs.Scripts.{ScriptValue}
use Rattle.gw_config.specs.SoundScripts.{IsSound}
use Rattle.gw_ending.specs.Finals.{IsDonePort, IsDoneSite, IsDoneLane, IsOver, WaitAtMost}
use Rattle.gw_ending.specs.Ports.{Port as ClosedPort, Site as ClosedSite}
use Rattle.gw_ending.proofs.Ties.{tied_nothing}
use Rattle.gw_opening.proofs.Openings.{segment_there}
use Rattle.gw_opening.specs.Openings.{priority_of, routes_at}
use Rattle.gw_opening.specs.Places.{IsAt, TakesFrom, slot_of}
use Rattle.gw_opening.specs.declared.lane.Lane.{Lane}
use Rattle.gw_opening.specs.declared.place.Place.{Place}
use Rattle.gw_sides.specs.Sets.{MayClose, ClosesPort, ClosesNth, ClosesSite}
use Rattle.gw_site.proofs.Pairs.{pair_at, pair_of}
use Rattle.gw_site.specs.Pairs.{Pairs}
use Rattle.gw_site.specs.Sites.{PortHolds}
use Rattle.gw_site.specs.declared.site.Site.{Site}
use Rattle.gw_threaded.specs.Runs.{HasRunPort, HasRunSite, HasRunLane, HasRun}
use Rattle.gw_threaded.proofs.Begins.{number_below, seat_is}

-- where a port is when its mailboxes are closed
pub record ClosedAt {B S : Type 0} (bus_after : B → BusPast → Type 0) (route_after : S → RoutePast → Type 0)
    (txfp_of : B → Bool) (room : ℕ) (s : ScriptValue) (seats : List (Option S)) (controller : ℕ) (site : Site (Port B))
    (closed : List ClosedSite) (place : Place) (port : Port B) : Type 0 where
  pub late : ClosedPort
  pub there : IsAt closed place late
  pub closes : ClosesPort bus_after route_after txfp_of room s seats controller port late
  pub segment_is : there.site.segment ≡ site.segment

module _ {B S : Type 0} (bus_after : B → BusPast → Type 0) (transmitting : B → Option Item)
    (route_after : S → RoutePast → Type 0) (routes_of : B → ℕ) (txfp_of : B → Bool) (side_of : B → ℕ → S → Type 0) where
  abbrev pub RunPort : ScriptValue → List (Option S) → ℕ → Port B → Type 0
  RunPort s seats controller port = HasRunPort route_after routes_of txfp_of side_of s seats controller port

  abbrev pub RunSites : ScriptValue → List (Option S) → List (Site (Port B)) → Type 0
  RunSites s seats sites =
      Pairs (λ i segment. HasRunSite bus_after transmitting route_after routes_of txfp_of side_of s seats i) s.segments
      sites

  -- all mailboxes may be closed
  pub may_close_all : (s : ScriptValue) (sites : List (Site (Port B))) (seats : List (Option S)) (lanes : List Lane) →
      HasRun bus_after transmitting route_after routes_of txfp_of side_of s sites seats lanes →
      (i : ℕ) (site : Site (Port B)) → slice_get sites i ≡ Some site →
      Pairs (λ k. MayClose routes_of side_of s seats) (controller_places s i) site.ports.items
  may_close_all s sites seats lanes h i site e =
      let made = pair_at (λ j segment. HasRunSite bus_after transmitting route_after routes_of txfp_of side_of s seats
      j) s.segments sites i site h.each_site e in
      record {
        at = λ k controller port f g. (made.2.ports.at k controller port f g).may_close;
        size =
            made.2.ports.size;
      }

  module _ (room : ℕ) where
    sink_closed : (s : ScriptValue) (seats : List (Option S)) (controller : ℕ) (port : Port B) (closed : ClosedPort)
        (taken : List FrameValue) → ClosesPort bus_after route_after txfp_of room s seats controller port closed →
        SinkStands port taken → SinkStands closed taken
    sink_closed s seats controller port closed taken c h few = let both = h few in record {
      first = slot_leaves port.banks closed.banks 0 port.first closed.first taken c.banks_is c.first_is both.first;
      second = slot_leaves port.banks closed.banks 1 port.second closed.second taken c.banks_is c.second_is both.second;
    }

    -- nothing was done for a number that no route has, and nothing is left of it
    nothing_beyond : (s : ScriptValue) (seats : List (Option S)) (controller : ℕ) (port : Port B) (closed : ClosedPort)
        (did : BusPast) (n : ℕ) → ClosesPort bus_after route_after txfp_of room s seats controller port closed →
        RunPort s seats controller port →
        bus_after port.mail did → length (route_places s controller) ≤ n → NothingOf n did closed.mail.left.items
    nothing_beyond s seats controller port closed did n c p bus above = elim (cases_lt n (routes_at s controller)) [
      | inl less ↦ (let zero_is : n ≡ 0 = omega (arith, less, above) in
          let none : length (route_places s controller) ≡ 0 = omega (arith, less, above) in
          let side = p.may_close.seated 0 (omega (arith, none)) in
          subst (λ m. NothingOf m did closed.mail.left.items) (sym zero_is)
          (tied_nothing (txfp_of port.mail) 0 did closed.mail.left.items
          (c.tied 0 side.0 did no_route_past (omega (arith, none)) side.1 bus (p.unasked side.0 none side.1))))
      | inr beyond ↦ c.beyond did bus n beyond
    ]

    port_closed : (s : ScriptValue) (seats : List (Option S)) (controller node : ℕ) (segment : SegmentValue)
        (port : Port B) (closed : ClosedPort) →
        ClosesPort bus_after route_after txfp_of room s seats controller port closed → RunPort s seats controller port →
        PortHolds (λ (p : Port B) past. bus_after p.mail past) SinkStands node segment port →
        IsDonePort s controller (kinds_of node segment.events) (length segment.levels) closed
    port_closed s seats controller node segment port closed c p h = record {
      value = p.value;
      value_is = p.value_is;
      banks_is = c.banks_is ∙ p.banks_is;
      taken = sink_closed s seats controller port closed _ c h.taken;
      once = h.once;
      few = h.few;
      unasked = λ n beyond. nothing_beyond s seats controller port closed
          (grown no_bus_past (kinds_of node segment.events)) n c p h.bus beyond;
    }

    site_closed : (s : ScriptValue) (seats : List (Option S)) (i : ℕ) (site : Site (Port B)) (closed : ClosedSite) →
        ClosesSite bus_after route_after txfp_of room s seats i site closed →
        HasRunSite bus_after transmitting route_after routes_of txfp_of side_of s seats i site → IsDoneSite s i closed
    site_closed s seats i site closed c d =
        subst (λ (v : SegmentValue). IsDoneSite s i (record { segment = v; ports = closed.ports })) (sym c.segment_is)
        (record {
          plan_is = d.plan_is;
          made = d.made;
          ports = record {
            at = λ k controller late e f.
                let port = pair_at (ClosesNth bus_after route_after txfp_of room s seats i) site.ports.items
                closed.ports.items k late c.ports f in
                port_closed s seats controller (length site.segment.plan.talkers.items + k) site.segment port.0 late
                (port.2.at controller e) (d.ports.at k controller port.0 e port.1) (d.holds.each k port.0 port.1);
            size = c.ports.size ∙ d.ports.size;
          };
        })

    abbrev pub ClosedSites : ScriptValue → List (Option S) → List (Site (Port B)) → List ClosedSite → Type 0
    ClosedSites s seats sites closed = Pairs (ClosesSite bus_after route_after txfp_of room s seats) sites closed

    closed_at : (s : ScriptValue) (seats : List (Option S)) (sites : List (Site (Port B))) (closed : List ClosedSite)
        (controller : ℕ) (place : Place) (port : Port B) → ClosedSites s seats sites closed →
        (at : IsAt sites place port) → slice_get (controller_places s place.site) place.port ≡ Some controller →
        ClosedAt bus_after route_after txfp_of room s seats controller at.site closed place port
    closed_at s seats sites closed controller place port c at is =
        let site = pair_of (ClosesSite bus_after route_after txfp_of room s seats) sites closed place.site at.site c
        at.site_is in
        let late = pair_of (ClosesNth bus_after route_after txfp_of room s seats place.site) at.site.ports.items
        site.0.ports.items place.port port site.2.ports at.port_is in
        record {
          late = late.0;
          there = record { site = site.0; site_is = site.1; port_is = late.1 };
          closes =
              late.2.at controller is;
          segment_is = site.2.segment_is;
        }

    takes_closed : (s : ScriptValue) (seats : List (Option S)) (controller : ℕ) (lane : Lane) (port : Port B)
        (closed : ClosedPort) → ClosesPort bus_after route_after txfp_of room s seats controller port closed →
        TakesFrom lane port → TakesFrom lane closed
    takes_closed s seats controller lane port closed c t = record {
      intake = t.intake;
      slot_is = slots c.first_is c.second_is t.slot_is;
      queue_is = t.queue_is;
    }
      where
        slots : closed.first ≡ port.first → closed.second ≡ port.second → slot_of port lane.fifo ≡ Some t.intake →
            slot_of closed lane.fifo ≡ Some t.intake
        slots first second is = cc

    lane_closed : (s : ScriptValue) (seats : List (Option S)) (sites : List (Site (Port B))) (closed : List ClosedSite)
        (k : ℕ) (route : RouteValue) (lane : Lane) → IsSound s → ClosedSites s seats sites closed →
        RunSites s seats sites → HasRunLane route_after s sites seats k route lane → IsDoneLane s closed k route lane
    lane_closed s seats sites closed k route lane sound c d l =
        let segment = some_there s.segments lane.target.site
        (segment_there s route.target lane.target sound l.lane_is.target_is) in
        let found = pair_of (λ i segment. HasRunSite bus_after transmitting route_after routes_of txfp_of side_of s
        seats i) s.segments sites lane.target.site segment.0 d segment.1 in
        let site = found.0 in
        let into = pair_of (λ j. RunPort s seats) (controller_places s lane.target.site) site.ports.items
        lane.target.port route.target found.2.ports l.lane_is.target_is in
        let own = into.2 in
        let at : IsAt sites lane.target into.0 = record { site = site; site_is = found.1; port_is = into.1 } in
        let to = closed_at s seats sites closed route.target lane.target into.0 c at l.lane_is.target_is in
        let from = closed_at s seats sites closed route.source lane.source l.takes.from c l.takes.from_is
        l.lane_is.source_is in
        let holds = found.2.holds.each lane.target.port into.0 into.1 in
        let did = grown no_bus_past
        (kinds_of (length site.segment.plan.talkers.items + lane.target.port) site.segment.events) in
        let past = l.linked.0 in
        let seat = seat_is s route.target lane.number k l.lane_is.number_is in
        record {
          lane_is = l.lane_is;
          log = l.log;
          takes = record {
            from = from.late;
            from_is = from.there;
            takes = takes_closed s seats route.source lane l.takes.from from.late from.closes l.takes.takes;
          };
          closes = record {
            to = to.late;
            to_is = to.there;
            value = own.value;
            value_is = own.value_is;
            past = past;
            matches = l.linked.2;
            tied = subst (λ (v : SegmentValue). RouteTied (priority_of own.value) lane.number
                (grown no_bus_past (kinds_of (length v.plan.talkers.items + lane.target.port) v.events)) past
                (left_of lane.number to.late.mail.left.items)) (sym to.segment_is)
                (subst (λ txfp. RouteTied txfp lane.number did past (left_of lane.number to.late.mail.left.items))
                own.priority_is
                (to.closes.tied lane.number l.side did past
                (number_below s route.target lane.number k l.lane_is.number_is)
                (ap (slice_get seats) seat ∙ l.side_there) holds.bus l.linked.1));
          };
        }

    pub has_closed : (s : ScriptValue) (seats : List (Option S)) (sites : List (Site (Port B))) (lanes : List Lane)
        (closed : List ClosedSite) → IsSound s → ClosedSites s seats sites closed →
        HasRun bus_after transmitting route_after routes_of txfp_of side_of s sites seats lanes → IsOver s closed lanes
    has_closed s seats sites lanes closed sound c h = record {
      each_site = record {
        at = λ i segment late e f.
            let site = pair_at (ClosesSite bus_after route_after txfp_of room s seats) sites closed i late c f in
            site_closed s seats i site.0 late site.2 (h.each_site.at i segment site.0 e site.1);
        size = c.size ∙ h.each_site.size;
      };
      each_lane = record {
        at = λ k route lane e f. lane_closed s seats sites closed k route lane sound c h.each_site
            (h.each_lane.at k route lane e f);
        size = h.each_lane.size;
      };
    }

    -- no more wait than there is room for
    pub few_closed : (s : ScriptValue) (seats : List (Option S)) (sites : List (Site (Port B))) (lanes : List Lane)
        (closed : List ClosedSite) → ClosedSites s seats sites closed →
        HasRun bus_after transmitting route_after routes_of txfp_of side_of s sites seats lanes → WaitAtMost room closed
    few_closed s seats sites lanes closed c h place late at =
        let site = pair_at (ClosesSite bus_after route_after txfp_of room s seats) sites closed place.site at.site c
        at.site_is in
        let made = pair_at (λ j segment. HasRunSite bus_after transmitting route_after routes_of txfp_of side_of s seats
        j) s.segments sites place.site site.0 h.each_site site.1 in
        let port = pair_at (ClosesNth bus_after route_after txfp_of room s seats place.site) site.0.ports.items
        at.site.ports.items place.port late site.2.ports at.port_is in
        let controller = pair_at (λ j. RunPort s seats) (controller_places s place.site) site.0.ports.items place.port
        port.0 made.2.ports port.1 in
        (port.2.at controller.0 controller.1).few
