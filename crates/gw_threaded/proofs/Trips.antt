-- What stood before the first bit stands behind the last one, once all threads are joined.
use Rattle.std.proofs.Common.{◌≡◌, ℕ, ◌+◌, ◌<◌, ◌≤◌, ◌==◌, Bool, true, false, cond, Option, None, Some, List, [], ◌∷◌}
use Rattle.std.proofs.Common.{length, slice_get, refl, sym, ap, subst, arith, ◌∙◌}
use Rattle.std.proofs.lemmas.Option.{slice_get_within}
use Rattle.bx_core.specs.RouteTx.{RoutePast, no_route_past}
use Rattle.bx_core.specs.TxBus.{Item, BusPast, BusCall}
use Rattle.bx_controller.specs.Ports.{SinkStands, PortLeaves}
use Rattle.bx_controller.specs.Slots.{SameFifo}
use Rattle.bx_controller.specs.declared.intake.Intake.{Intake}
use Rattle.bx_controller.specs.declared.port.Port.{Port}
use Rattle.can_station.proofs.Places.{some_there, same_some}
use Rattle.gw_config.specs.Nodes.{route_places, route_at}
use Rattle.gw_config.specs.Routes.{RouteValue}
use Rattle.gw_config.specs.Scripts.{ScriptValue}
use Rattle.gw_opening.proofs.PlacesWhere.{place-passes}
use Rattle.gw_opening.specs.Openings.{IsPlaceOf, IsNewLane, IsLaneOf, Takes}
use Rattle.gw_opening.specs.Places.{IsAt, TakesFrom, slot_of}
use Rattle.gw_opening.specs.Plans.{IsPlanOf, aborts_of}
use Rattle.gw_opening.specs.declared.lane.Lane.{Lane}
use Rattle.gw_opening.specs.declared.place.Place.{Place}
use Rattle.gw_route.specs.Plans.{FromPlan}
use Rattle.gw_route.specs.RouteHand.{hand_value, IsLinked, LogsReleased}
use Rattle.gw_route.specs.declared.route_hand.RouteHand.{RouteHand}
use Rattle.gw_sides.specs.Seats.{Seated, seat_of, seat_from}
use Rattle.gw_sides.specs.Sets.{IsNewSet, IsNewSide, OpensPort, OpensSite}
use Rattle.gw_site.proofs.Pairs.{pair_at, pair_of}
use Rattle.gw_site.specs.Pairs.{Pairs}
use Rattle.gw_site.specs.Sites.{SiteRuns}
use Rattle.gw_site.specs.declared.site.Site.{Site}
use Rattle.gw_pool.specs.Couriers.{CourierRuns}
use Rattle.gw_pool.specs.declared.courier.Courier.{Courier}
use Rattle.gw_threaded.specs.declared.lead.Lead.{Lead}
use Rattle.gw_threaded.specs.Parts.{lead_of, HaveParted, IsCourierOf, IsLaneFrom, LeavesBehind, HaveCome}
use Rattle.gw_threaded.specs.Runs.{Starts, HasRunPort, HasRunSite, HasRunLane, HasRun}
use Rattle.gw_threaded.proofs.Begins.{same_place, seat_is}

-- the FIFO of a slot is what it was
same_slot : (old new : Option Intake) (intake : Intake) → SameFifo old new → old ≡ Some intake → (late : Intake)
    × (new ≡ Some late) × (late.rxin.queue ≡ intake.rxin.queue)
same_slot None new intake same is = absurd (cc is)
same_slot (Some old) None intake same is = absurd same
same_slot (Some old) (Some new) intake same is =
    (new, refl, same ∙ ap (λ (x : Intake). x.rxin.queue) (same_some old intake is))

slot_on : {B : Type 0} (stays : B → B → Type 0) (b : Bool) (old new : Port B) (intake : Intake) →
    PortLeaves stays old new → cond b old.first old.second ≡ Some intake →
    (late : Intake) × (cond b new.first new.second ≡ Some late) × (late.rxin.queue ≡ intake.rxin.queue)
slot_on stays true old new intake l is = same_slot old.first new.first intake l.first is
slot_on stays false old new intake l is = same_slot old.second new.second intake l.second is

-- a route takes from the FIFO that it took from
takes_on : {B : Type 0} (stays : B → B → Type 0) (old new : Port B) (lane after : Lane) → PortLeaves stays old new →
    after.fifo ≡ lane.fifo → after.hand.out.queue ≡ lane.hand.out.queue → TakesFrom lane old → TakesFrom after new
takes_on stays old new lane after l fifo queue t =
    let late = slot_on stays (lane.fifo == 0) old new t.intake l t.slot_is in record {
      intake = late.0;
      slot_is = ap (slot_of new) fifo ∙ late.1;
      queue_is = late.2 ∙ t.queue_is ∙ sym queue;
    }

-- a route is that of the script still
lane_on : (s : ScriptValue) (k : ℕ) (route : RouteValue) (old new : Lane) → lead_of new ≡ lead_of old →
    new.hand.rewrites ≡ old.hand.rewrites → new.hand.queue ≡ old.hand.queue →
    FromPlan (aborts_of s k) (hand_value new.hand) → IsLaneOf s k route old → IsLaneOf s k route new
lane_on s k route old new lead rewrites size plan p = record {
  source_is = subst (IsPlaceOf s route.source) (sym (ap (λ (x : Lead). x.source) lead)) p.source_is;
  fifo_is = ap (λ (x : Lead). x.fifo) lead ∙ p.fifo_is;
  target_is = subst (IsPlaceOf s route.target) (sym (ap (λ (x : Lead). x.target) lead)) p.target_is;
  number_is = ap (route_at s route.target) (ap (λ (x : Lead). x.number) lead) ∙ p.number_is;
  rewrites_is = ap (λ v. v.items) rewrites ∙ p.rewrites_is;
  queue_is = size ∙ p.queue_is;
  plan = plan;
}

-- what became of the route at a place: it is the one that parted there, after turns, and its side stands at its place
pub record Returned (G : Type 0) {S : Type 0} (after : S → RoutePast → Type 0) (stays : S → S → Type 0)
    (seats late : List (Option S)) (k : ℕ) (old new : Lane) : Type 0 where
  pub from : Courier S G
  pub to : Courier S G
  pub hand_was : from.hand ≡ old.hand
  pub side_was : slice_get seats k ≡ Some (Some from.side)
  pub runs : CourierRuns after stays from to
  pub hand_is : new.hand ≡ to.hand
  pub side_is : slice_get late k ≡ Some (Some to.side)
  pub lead_is : lead_of new ≡ lead_of old

module _ {S G : Type 0} (after : S → RoutePast → Type 0) (stays : S → S → Type 0) where
  pub returned : (seats behind late : List (Option S)) (gates : List (Option G)) (lanes made : List Lane)
      (leads : List Lead) (couriers back : List (Courier S G)) → HaveParted seats gates lanes leads couriers →
      Pairs (λ k. CourierRuns after stays) couriers back →
      Pairs (IsLaneFrom leads) back made → HaveCome back behind late → (k : ℕ) (new : Lane) →
      slice_get made k ≡ Some new → (old : Lane) × (slice_get lanes k ≡ Some old)
      × Returned G after stays seats late k old new
  returned seats behind late gates lanes made leads couriers back p r m h k new e =
      let to = pair_at (IsLaneFrom leads) back made k new m e in
      let from = pair_at (λ j. CourierRuns after stays) couriers back k to.0 r to.1 in
      let old = pair_at (IsCourierOf seats gates) lanes couriers k from.0 p.couriers_are from.1 in
      let lead = pair_of (λ j lane lead. lead ≡ lead_of lane) lanes leads k old.0 p.leads_are old.1 in (
        old.0,
        old.1,
        record {
          from = from.0;
          to = to.0;
          hand_was = old.2.hand_is;
          side_was = old.2.side_there;
          runs = from.2;
          hand_is = to.2.hand_is;
          side_is = h.at k to.0 to.1;
          lead_is = same_some (lead_of new) (lead_of old.0) (sym to.2.lead_is ∙ lead.1 ∙ ap Some lead.2);
        },
      )

-- a route that has a number at a controller is one of the script
pub route_within : (s : ScriptValue) (controller number route : ℕ) → route_at s controller number ≡ Some route →
    route < length s.routes
route_within s controller number route is =
    let p = place-passes (λ (r : RouteValue). r.target == controller) 0 s.routes number route is in
    let within = slice_get_within s.routes p.nth p.element p.there in
    omega (arith, within, p.place_is)

-- where no route leads into a controller none has the first number there
pub no_route : (s : ScriptValue) (controller : ℕ) → length (route_places s controller) ≡ 0 →
    route_at s controller 0 ≡ None
no_route s controller none = first_none (route_places s controller) none
  where
    first_none : (xs : List ℕ) → length xs ≡ 0 → slice_get xs 0 ≡ None
    first_none [] e = refl
    first_none (x ∷ xs) e = absurd (omega (arith, e))

-- a side of each route stands where its side stood, and is one of the same mailboxes; the other places are as they were
pub record SeatsKept {S : Type 0} (stays : S → S → Type 0) (routes : ℕ) (seats late : List (Option S)) : Type 0 where
  pub at : (k : ℕ) → k < routes → (from to : S) × (slice_get seats k ≡ Some (Some from))
      × (slice_get late k ≡ Some (Some to)) × stays from to
  pub spare : (place : ℕ) → routes ≤ place → slice_get late place ≡ slice_get seats place
  pub size : length late ≡ length seats

module _ {S G : Type 0} (after : S → RoutePast → Type 0) (stays : S → S → Type 0) where
  pub seats_kept : (seats behind late : List (Option S)) (gates : List (Option G)) (lanes made : List Lane)
      (leads : List Lead) (couriers back : List (Courier S G)) → HaveParted seats gates lanes leads couriers →
      Pairs (λ k. CourierRuns after stays) couriers back →
      Pairs (IsLaneFrom leads) back made → LeavesBehind (length lanes) seats behind → HaveCome back behind late →
      SeatsKept stays (length lanes) seats late
  seats_kept seats behind late gates lanes made leads couriers back p r m l h = record {
    at = λ k less.
        let new = some_there made k (omega (arith, less, m.size, r.size, p.couriers_are.size)) in
        let back_at =
        returned after stays seats behind late gates lanes made leads couriers back p r m h k new.0 new.1 in
        (back_at.2.from.side, back_at.2.to.side, back_at.2.side_was, back_at.2.side_is, back_at.2.runs.stays_on);
    spare =
        λ place above. h.leaves.others place (omega (arith, above, r.size, p.couriers_are.size)) ∙ l.others place above;
    size = h.leaves.size ∙ l.size;
  }

-- where a port is behind the run
pub record LateAt {B : Type 0} (stays : B → B → Type 0) (sites : List (Site (Port B))) (place : Place)
    (old : Port B) : Type 0 where
  pub late : Port B
  pub there : IsAt sites place late
  pub leaves : PortLeaves stays old late

module _ {B S : Type 0} (bus_after : B → BusPast → Type 0) (asked : B → List BusCall → Type 0)
    (transmitting : B → Option Item) (bus_stays : B → B → Type 0) (route_after : S → RoutePast → Type 0)
    (stays : S → S → Type 0)
    (routes_of : B → ℕ) (txfp_of : B → Bool) (side_of : B → ℕ → S → Type 0) where
  abbrev pub SitesRun : List (Site (Port B)) → List (Site (Port B)) → Type 0
  SitesRun sites late = Pairs (λ i. SiteRuns (λ (p : Port B) past. bus_after p.mail past)
      (λ (p : Port B). transmitting p.mail) SinkStands (PortLeaves bus_stays)) sites late

  abbrev pub OpensAt : ScriptValue → List (Site (Port B)) → List (Option S) → List Lane → Type 0
  OpensAt s sites seats lanes = Starts (IsNewSet bus_after asked transmitting routes_of txfp_of)
      (IsNewSide side_of route_after) s sites seats lanes

  abbrev pub OpenedPort : ScriptValue → List (Option S) → ℕ → Port B → Type 0
  OpenedPort s seats controller port = OpensPort (IsNewSet bus_after asked transmitting routes_of txfp_of)
      (IsNewSide side_of route_after) s seats controller port

  abbrev pub OpenedSite : ScriptValue → List (Option S) → ℕ → Site (Port B) → Type 0
  OpenedSite s seats i site =
      OpensSite (IsNewSet bus_after asked transmitting routes_of txfp_of) (IsNewSide side_of route_after) s seats i site

  late_at : (sites late : List (Site (Port B))) (place : Place) (old : Port B) → SitesRun sites late →
      IsAt sites place old → LateAt bus_stays late place old
  late_at sites late place old r at =
      let site = pair_of (λ i. SiteRuns (λ (p : Port B) past. bus_after p.mail past)
      (λ (p : Port B). transmitting p.mail) SinkStands (PortLeaves bus_stays)) sites late place.site at.site r
      at.site_is in
      let within = slice_get_within at.site.ports.items place.port old at.port_is in
      let port = some_there site.0.ports.items place.port (omega (arith, within, site.2.ports.size)) in
      record {
        late = port.0;
        there = record { site = site.0; site_is = site.1; port_is = port.1 };
        leaves =
            site.2.ports.at place.port old port.0 at.port_is port.1;
      }

  module _ (side_stays : (a b : B) (route : ℕ) (x : S) → bus_stays a b → side_of a route x → side_of b route x)
      (side_moves : (a : B) (route : ℕ) (x y : S) → stays x y → side_of a route x → side_of a route y)
      (routes_stay : (a b : B) → bus_stays a b → routes_of b ≡ routes_of a)
      (txfp_stays : (a b : B) → bus_stays a b → txfp_of b ≡ txfp_of a) where
    -- a side of the mailboxes stands at the place of each number
    seated_on : (s : ScriptValue) (seats late : List (Option S)) (controller : ℕ) (old new : Port B) →
        SeatsKept stays (length s.routes) seats late → PortLeaves bus_stays old new →
        OpenedPort s seats controller old → Seated side_of s controller new.mail late
    seated_on s seats late controller old new k l o n less = by_route (route_at s controller n) refl
      where
        was : (x : S) × (slice_get seats (seat_of s controller n) ≡ Some (Some x))
            × IsNewSide side_of route_after old.mail n x
        was = o.seated n less

        by_route : (found : Option ℕ) → route_at s controller n ≡ found → (x : S)
            × (slice_get late (seat_of s controller n) ≡ Some (Some x)) × side_of new.mail n x
        by_route None e =
            let spare : length s.routes ≤ seat_of s controller n =
            omega (arith, ap (seat_from (length s.routes + controller)) e) in
            (was.0, k.spare (seat_of s controller n) spare ∙ was.1, side_stays old.mail new.mail n was.0 l.mail was.2.0)
        by_route (Some route) e =
            let at = seat_is s controller n route e in
            let moved = k.at route (route_within s controller n route e) in
            let same : was.0 ≡ moved.0 =
            same_place seats route was.0 moved.0 (ap (slice_get seats) (sym at) ∙ was.1) moved.2 in (
              moved.1,
              ap (slice_get late) at ∙ moved.3,
              side_moves new.mail n moved.0 moved.1 moved.4
                  (side_stays old.mail new.mail n moved.0 l.mail (subst (side_of old.mail n) same was.2.0)),
            )

    port_run : (s : ScriptValue) (seats late : List (Option S)) (controller : ℕ) (old new : Port B) →
        SeatsKept stays (length s.routes) seats late → PortLeaves bus_stays old new →
        OpenedPort s seats controller old →
        HasRunPort route_after routes_of txfp_of side_of s late controller new
    port_run s seats late controller old new k l o = let mail = o.mail o.is_new.value o.is_new.value_is in record {
      value = o.is_new.value;
      value_is = o.is_new.value_is;
      banks_is = l.banks ∙ o.is_new.banks_is;
      priority_is = txfp_stays old.mail new.mail l.mail ∙ mail.priority_is;
      may_close = record {
        routes_is = routes_stay old.mail new.mail l.mail ∙ mail.routes_is;
        seated = seated_on s seats late controller old new k l o;
      };
      unasked = λ side none there.
          let first = o.seated 0 (omega (arith, none)) in
          let nobody = no_route s controller none in
          let spare : length s.routes ≤ seat_of s controller 0 =
          omega (arith, ap (seat_from (length s.routes + controller)) nobody) in
          let same : first.0 ≡ side = same_place seats (seat_of s controller 0) first.0 side first.1
          (sym (k.spare (seat_of s controller 0) spare) ∙ there) in
          subst (λ x. route_after x no_route_past) same first.2.1;
    }

    site_run : (s : ScriptValue) (seats late : List (Option S)) (i : ℕ) (old new : Site (Port B)) →
        SeatsKept stays (length s.routes) seats late → OpenedSite s seats i old →
        SiteRuns (λ (p : Port B) past. bus_after p.mail past) (λ (p : Port B). transmitting p.mail) SinkStands
        (PortLeaves bus_stays) old new → HasRunSite bus_after transmitting route_after routes_of txfp_of side_of s late
        i new
    site_run s seats late i old new k o r = record {
      plan_is = subst (IsPlanOf s i) (sym r.plan_is) o.plan_is;
      made = r.made ∙ o.plan_is.bits_is;
      holds = r.holds;
      ports = record {
        at = λ j controller port e f.
            let within = slice_get_within new.ports.items j port f in
            let before = some_there old.ports.items j (omega (arith, within, r.ports.size)) in
            port_run s seats late controller before.0 port k (r.ports.at j before.0 port before.1 f)
            (o.ports.at j controller before.0 e before.1);
        size = r.ports.size ∙ o.ports.size;
      };
    }

    lane_run : {G : Type 0} (s : ScriptValue) (sites last : List (Site (Port B))) (seats late : List (Option S)) (k : ℕ)
        (route : RouteValue) (old new : Lane) → SitesRun sites last →
        Returned G route_after stays seats late k old new → IsNewLane s k route old → Takes sites old →
        HasRunLane route_after s last late k route new
    lane_run s sites last seats late k route old new r back n t =
        let port = late_at sites last old.source t.from r t.from_is in
        let queue : new.hand.out.queue ≡ old.hand.out.queue = ap (λ (x : RouteHand). x.out.queue) back.hand_is
        ∙ back.runs.queue_is ∙ ap (λ (x : RouteHand). x.out.queue) back.hand_was in
        let rewrites : new.hand.rewrites ≡ old.hand.rewrites = ap (λ (x : RouteHand). x.rewrites) back.hand_is
        ∙ back.runs.rewrites_are ∙ ap (λ (x : RouteHand). x.rewrites) back.hand_was in
        let size : new.hand.queue ≡ old.hand.queue = ap (λ (x : RouteHand). x.queue) back.hand_is
        ∙ back.runs.size_is ∙ ap (λ (x : RouteHand). x.queue) back.hand_was in
        let plan = back.runs.plan (aborts_of s k)
        (subst (λ hand. FromPlan (aborts_of s k) (hand_value hand)) (sym back.hand_was) n.lane_is.plan) in
        record {
          lane_is = lane_on s k route old new back.lead_is rewrites size
              (subst (λ hand. FromPlan (aborts_of s k) (hand_value hand)) (sym back.hand_is) plan) n.lane_is;
          takes = record {
            from = port.late;
            from_is =
                subst (λ place. IsAt last place port.late) (sym (ap (λ (x : Lead). x.source) back.lead_is)) port.there;
            takes = takes_on bus_stays t.from port.late old new port.leaves
                (ap (λ (x : Lead). x.fifo) back.lead_is) queue t.takes;
          };
          log = subst (λ hand. LogsReleased (hand_value hand)) (sym back.hand_is) back.runs.holds.log;
          side = back.to.side;
          side_there = back.side_is;
          linked = subst (λ hand. IsLinked (route_after back.to.side) (hand_value hand))
              (sym back.hand_is) back.runs.holds.linked;
        }

    pub has_run : {G : Type 0} (s : ScriptValue) (sites last : List (Site (Port B)))
        (seats behind late : List (Option S)) (gates : List (Option G)) (lanes made : List Lane) (leads : List Lead)
        (couriers back : List (Courier S G)) → OpensAt s sites seats lanes →
        HaveParted seats gates lanes leads couriers → LeavesBehind (length lanes) seats behind → SitesRun sites last →
        Pairs (λ k. CourierRuns route_after stays) couriers back → Pairs (IsLaneFrom leads) back made →
        HaveCome back behind late →
        HasRun bus_after transmitting route_after routes_of txfp_of side_of s last late made
    has_run s sites last seats behind late gates lanes made leads couriers back o p l r w m h =
        let count = o.opens.each_lane.size in
        let kept = subst (λ n. SeatsKept stays n seats late) count
        (seats_kept route_after stays seats behind late gates lanes made leads couriers back p w m l h) in
        record {
          each_site = record {
            at = λ i segment site e f.
                let within = slice_get_within last i site f in
                let old = some_there sites i (omega (arith, within, r.size)) in
                site_run s seats late i old.0 site kept (o.each_site.at i segment old.0 e old.1)
                (r.at i old.0 site old.1 f);
            size = r.size ∙ o.each_site.size;
          };
          each_lane = record {
            at = λ k route lane e f.
                let old = returned route_after stays seats behind late gates lanes made leads couriers back p w m h k
                lane f in
                lane_run s sites last seats late k route old.0 lane r old.2 (o.opens.each_lane.at k route old.0 e old.1)
                (o.opens.takes k old.0 old.1);
            size = omega (arith, m.size, w.size, p.couriers_are.size, count);
          };
          size = kept.size ∙ o.size;
        }
