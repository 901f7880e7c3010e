-- Before the first bit: FIFOs come into the controllers, and leave their mailboxes.
use Rattle.std.proofs.Common.{◌≡◌, ℕ, suc, ◌+◌, ◌<◌, Bool, Option, Some, List, [], ◌∷◌, length, max}
use Rattle.std.proofs.Common.{slice_get, refl, sym, ap, subst, arith, ◌∙◌}
use Rattle.std.proofs.lemmas.Option.{slice_get_within}
use Rattle.bx_core.specs.Lists.{Each}
use Rattle.bx_core.specs.RouteTx.{RoutePast, no_route_past}
use Rattle.bx_core.specs.TxBus.{Item, BusPast, BusCall}
use Rattle.bx_controller.specs.Ports.{SinkStands}
use Rattle.bx_controller.specs.declared.port.Port.{Port}
use Rattle.can_station.proofs.Places.{some_there, same_some}
use Rattle.gw_config.specs.Nodes.{controller_places, route_places, route_at}
use Rattle.gw_config.specs.Scripts.{ScriptValue}
use Rattle.gw_config.specs.Segments.{SegmentValue}
use Rattle.gw_opening.specs.Openings.{AreNewSites, IsNewPort, IsNewSite, IsNewLane, IsPlaceOf, Opens}
use Rattle.gw_opening.specs.Openings.{SameMails, routes_at}
use Rattle.gw_opening.proofs.Openings.{place_there}
use Rattle.gw_config.specs.SoundScripts.{IsSound}
use Rattle.gw_route.specs.RouteHand.{hand_value, LogMatches, LogsReleased}
use Rattle.gw_opening.specs.Places.{IsAt}
use Rattle.gw_opening.specs.declared.lane.Lane.{Lane}
use Rattle.gw_opening.specs.declared.place.Place.{Place}
use Rattle.gw_opening.proofs.Starts.{site_starts}
use Rattle.gw_sides.specs.Seats.{HasSeats, Seated, seat_of, seat_from}
use Rattle.gw_sides.specs.Sets.{IsNewSet, IsNewSide, OpensPort, OpensSite}
use Rattle.gw_site.proofs.Pairs.{pair_at}
use Rattle.gw_site.specs.Pairs.{Pairs}
use Rattle.gw_site.specs.Sites.{IsNewSite as IsReadySite}
use Rattle.gw_site.specs.declared.site.Site.{Site}
use Rattle.gw_pool.specs.Couriers.{IsReadyCourier}
use Rattle.gw_pool.specs.declared.courier.Courier.{Courier}
use Rattle.gw_threaded.specs.Parts.{AreThere, IsCourierOf}
use Rattle.gw_threaded.specs.Runs.{Starts}

-- what holds of the element at each place holds of each
pub each_of : {X : Type 0} (P : X → Type 0) (xs : List X) → ((k : ℕ) (x : X) → slice_get xs k ≡ Some x → P x) →
    Each P xs
each_of P [] all = tt
each_of P (x ∷ xs) all = (all 0 x refl, each_of P xs (λ k y e. all (suc k) y e))

-- the seat of a route is its place in the script
pub seat_is : (s : ScriptValue) (controller number route : ℕ) → route_at s controller number ≡ Some route →
    seat_of s controller number ≡ route
seat_is s controller number route is = ap (seat_from (length s.routes + controller)) is

-- a number that a route has is below the count of the sides
pub number_below : (s : ScriptValue) (controller number route : ℕ) → route_at s controller number ≡ Some route →
    number < routes_at s controller
number_below s controller number route is =
    let within = slice_get_within (route_places s controller) number route is in
    below (length (route_places s controller)) within
  where
    below : (n : ℕ) → number < n → number < max 1 n
    below n less = omega (arith, less)

module _ {B S : Type 0} (NewSet : Bool → ℕ → B → Type 0) (Rel : B → ℕ → S → Type 0) where
  port_kept : (s : ScriptValue) (seats : List (Option S)) (controller : ℕ) (old new : Port B) → new.mail ≡ old.mail →
      IsNewPort s controller new → OpensPort NewSet Rel s seats controller old →
      OpensPort NewSet Rel s seats controller new
  port_kept s seats controller old new same is o = record {
    is_new = is;
    mail = λ value e. subst (NewSet _ (routes_at s controller)) (sym same) (o.mail value e);
    seated = subst (λ mail. Seated Rel s controller mail seats) (sym same) o.seated;
  }

  site_kept : (s : ScriptValue) (seats : List (Option S)) (first sites : List (Site (Port B))) (i : ℕ)
      (said : SegmentValue) (site : Site (Port B)) → SameMails first sites →
      Pairs (λ i said. OpensSite NewSet Rel s seats i) s.segments first → slice_get s.segments i ≡ Some said →
      slice_get sites i ≡ Some site →
      IsNewSite s i site → OpensSite NewSet Rel s seats i site
  site_kept s seats first sites i said site same o e f n = record {
    plan_is = n.plan_is;
    opens = n.opens;
    ports = record {
      at = λ k controller port g h.
          let before = same (record { site = i; port = k }) port (record { site = site; site_is = f; port_is = h }) in
          let opened = o.at i said before.1.site e before.1.site_is in
          port_kept s seats controller before.0 port before.2 (n.ports.at k controller port g h)
          (opened.ports.at k controller before.0 g before.1.port_is);
      size = n.ports.size;
    };
  }

  pub starts : (s : ScriptValue) (seats : List (Option S)) (first sites : List (Site (Port B))) (lanes : List Lane) →
      HasSeats s seats → Pairs (λ i said. OpensSite NewSet Rel s seats i) s.segments first → SameMails first sites →
      Opens s sites lanes → Starts NewSet Rel s sites seats lanes
  starts s seats first sites lanes size o same opens = record {
    opens = opens;
    each_site = record {
      at = λ i said site e f. site_kept s seats first sites i said site same o e f
          (opens.each_site.at i said site e f);
      size = opens.each_site.size;
    };
    size = size;
  }

-- a new site is one of which nothing was asked, and so it stands as each bit keeps it
module _ {B S : Type 0} (after : B → BusPast → Type 0) (asked : B → List BusCall → Type 0)
    (transmitting : B → Option Item) (routes_of : B → ℕ) (txfp_of : B → Bool) (Rel : B → ℕ → S → Type 0) where
  opened_new : (s : ScriptValue) (seats : List (Option S)) (i : ℕ) (site : Site (Port B)) →
      OpensSite (IsNewSet after asked transmitting routes_of txfp_of) Rel s seats i site → IsNewSite s i site
  opened_new s seats i site o = record {
    plan_is = o.plan_is;
    opens = o.opens;
    ports = record { at = λ k controller port e f. (o.ports.at k controller port e f).is_new; size = o.ports.size };
  }

  ready_site : (s : ScriptValue) (seats : List (Option S)) (i : ℕ) (site : Site (Port B)) →
      OpensSite (IsNewSet after asked transmitting routes_of txfp_of) Rel s seats i site →
      IsReadySite (λ (p : Port B) past. after p.mail past) (λ (p : Port B). transmitting p.mail) SinkStands s.bits site
  ready_site s seats i site o = record {
    holds = site_starts after transmitting s i site (opened_new s seats i site o)
        (λ k port e. let made =
        pair_at (λ j. OpensPort (IsNewSet after asked transmitting routes_of txfp_of) Rel s seats)
        (controller_places s i) site.ports.items k port o.ports e in
        (made.2.mail made.2.is_new.value made.2.is_new.value_is).bus)
        (λ k port e. let made =
        pair_at (λ j. OpensPort (IsNewSet after asked transmitting routes_of txfp_of) Rel s seats)
        (controller_places s i) site.ports.items k port o.ports e in
        (made.2.mail made.2.is_new.value made.2.is_new.value_is).idle);
    no_levels = o.opens.no_levels;
    bits_is = o.plan_is.bits_is;
  }

  pub ready_sites : (s : ScriptValue) (sites : List (Site (Port B))) (seats : List (Option S)) (lanes : List Lane) →
      Starts (IsNewSet after asked transmitting routes_of txfp_of) Rel s sites seats lanes →
      Each (IsReadySite (λ (p : Port B) past. after p.mail past) (λ (p : Port B). transmitting p.mail) SinkStands
      s.bits) sites
  ready_sites s sites seats lanes o =
      each_of _ sites
      (λ i site e. let made =
      pair_at (λ j said. OpensSite (IsNewSet after asked transmitting routes_of txfp_of) Rel s seats j) s.segments sites
      i site o.each_site e in ready_site s seats i site made.2)

-- the side of a route stands at its place, and is one of the mailboxes that it leads into
pub record SideAt {B S : Type 0} (Rel : B → ℕ → S → Type 0) (sites : List (Site (Port B))) (seats : List (Option S))
    (k : ℕ) (lane : Lane) : Type 0 where
  pub to : Port B
  pub to_is : IsAt sites lane.target to
  pub side : S
  pub side_there : slice_get seats k ≡ Some (Some side)
  pub is_side : Rel to.mail lane.number side

module _ {B S : Type 0} (NewSet : Bool → ℕ → B → Type 0) (Rel : B → ℕ → S → Type 0) where
  -- the port of a controller before the first bit
  pub port_opened : (s : ScriptValue) (sites : List (Site (Port B))) (seats : List (Option S)) (lanes : List Lane)
      (controller : ℕ) (place : Place) (port : Port B) → Starts NewSet Rel s sites seats lanes →
      IsPlaceOf s controller place → IsAt sites place port → OpensPort NewSet Rel s seats controller port
  port_opened s sites seats lanes controller place port o is at =
      let site = pair_at (λ i said. OpensSite NewSet Rel s seats i) s.segments sites place.site at.site o.each_site
      at.site_is in
      site.2.ports.at place.port controller port is at.port_is

  pub side_at : (s : ScriptValue) (sites : List (Site (Port B))) (seats : List (Option S)) (lanes : List Lane) (k : ℕ)
      (lane : Lane) → IsSound s → Starts NewSet Rel s sites seats lanes → slice_get lanes k ≡ Some lane →
      SideAt Rel sites seats k lane
  side_at s sites seats lanes k lane sound o e =
      let made = pair_at (λ j route. IsNewLane s j route) s.routes lanes k lane o.opens.each_lane e in
      let own = made.2.lane_is in
      let to = place_there s sites made.0.target lane.target sound o.opens.each_site own.target_is in
      let opened = port_opened s sites seats lanes made.0.target lane.target to.port o own.target_is to.at in
      let side = opened.seated lane.number (number_below s made.0.target lane.number k own.number_is) in
      record {
        to = to.port;
        to_is = to.at;
        side = side.0;
        side_there =
            ap (slice_get seats) (sym (seat_is s made.0.target lane.number k own.number_is)) ∙ side.1;
        is_side = side.2;
      }

  pub sides_there : (s : ScriptValue) (sites : List (Site (Port B))) (seats : List (Option S)) (lanes : List Lane) →
      IsSound s → Starts NewSet Rel s sites seats lanes → AreThere (length lanes) seats
  sides_there s sites seats lanes sound o k less =
      let lane = some_there lanes k less in
      let at = side_at s sites seats lanes k lane.0 sound o lane.1 in
      (at.side, at.side_there)

-- two names of what stands at one place
pub same_place : {X : Type 0} (slots : List (Option X)) (k : ℕ) (a b : X) → slice_get slots k ≡ Some (Some a) →
    slice_get slots k ≡ Some (Some b) → a ≡ b
same_place slots k a b e f = let same : Some a ≡ Some b = same_some (Some a) (Some b) (sym e ∙ f) in same_some a b same

module _ {B S G : Type 0} (NewSet : Bool → ℕ → B → Type 0) (side_of : B → ℕ → S → Type 0)
    (after : S → RoutePast → Type 0) where
  -- each route's hand matches what its side did, which is nothing yet
  pub ready_couriers : (s : ScriptValue) (sites : List (Site (Port B))) (seats : List (Option S)) (lanes : List Lane)
      (gates : List (Option G)) (couriers : List (Courier S G)) → IsSound s →
      Starts NewSet (IsNewSide side_of after) s sites seats lanes →
      Pairs (IsCourierOf seats gates) lanes couriers → Each (IsReadyCourier after) couriers
  ready_couriers s sites seats lanes gates couriers sound o p = each_of (IsReadyCourier after) couriers (λ k courier e.
      let lane = pair_at (IsCourierOf seats gates) lanes couriers k courier p e in
      let at = side_at NewSet (IsNewSide side_of after) s sites seats lanes k lane.0 sound o lane.1 in
      let made = pair_at (λ j route. IsNewLane s j route) s.routes lanes k lane.0 o.opens.each_lane lane.1 in
      let side : at.side ≡ courier.side = same_place seats k at.side courier.side at.side_there lane.2.side_there in
      record {
        linked = (
          no_route_past,
          subst (λ x. after x no_route_past) side at.is_side.1,
          subst (λ hand. LogMatches (hand_value hand) no_route_past) (sym lane.2.hand_is) made.2.linked,
        );
        log = subst (λ hand. LogsReleased (hand_value hand)) (sym lane.2.hand_is) made.2.log;
      })

module _ {B S : Type 0} (NewSet : Bool → ℕ → B → Type 0) (Rel : B → ℕ → S → Type 0) where
  -- the segments are those of the script before their first bit
  pub opened_sites : (s : ScriptValue) (sites : List (Site (Port B))) (seats : List (Option S)) →
      Pairs (λ i said. OpensSite NewSet Rel s seats i) s.segments sites → AreNewSites s sites
  opened_sites s sites seats o = record {
    at = λ i said site e f. (let opened = o.at i said site e f in record {
      plan_is = opened.plan_is;
      opens = opened.opens;
      ports = record {
        at = λ k controller port g h. (opened.ports.at k controller port g h).is_new;
        size = opened.ports.size;
      };
    });
    size = o.size;
  }
