-- Segments, controllers and routes of a script before the first bit.
use Rattle.std.proofs.Common.{◌≡◌, ◌≢◌, ℕ, ◌+◌, ◌<◌, ◌≤◌, ◌==◌, inl, inr, Bool, true, false, cond, Option, Some, List}
use Rattle.std.proofs.Common.{[], ◌∷◌, ◌++◌, length, get_or, slice_get, AllPairs, refl, sym, ap, subst, arith, ◌∙◌}
use Rattle.std.proofs.lemmas.Bool.{eqb-true}
use Rattle.std.proofs.lemmas.Bool.Decides.{eqb_tells}
use Rattle.std.proofs.lemmas.Option.{slice_get_within, get_or_from_slice_get}
use Rattle.can_station.proofs.Places.{some_there, same_some}
use Rattle.can_segment.specs.Segments.{SegmentValue, IsOpening}
use Rattle.gw_config.specs.Controllers.{ControllerValue}
use Rattle.gw_config.specs.Routes.{RouteValue}
use Rattle.gw_config.specs.Scripts.{ScriptValue}
use Rattle.gw_config.specs.SoundScripts.{IsSound, IsControllerIn, IsRouteIn, TakesElsewhere}
use Rattle.gw_config.specs.Nodes.{controller_places}
use Rattle.bx_controller.specs.declared.intake.Intake.{Intake}
use Rattle.gw_opening.specs.declared.lane.Lane.{Lane}
use Rattle.gw_opening.specs.declared.place.Place.{Place}
use Rattle.bx_controller.specs.declared.port.Port.{Port}
use Rattle.gw_site.specs.declared.site.Site.{Site}
use Rattle.gw_opening.specs.Openings.{priority_of, IsEmptySlot, routes_at, HaveMails, SameMails, IsNewPort, IsNewSite}
use Rattle.gw_opening.specs.Openings.{AreNewSites, IsPlaceOf, IsLaneOf, IsNewLane, Takes, TakesApart}
use Rattle.gw_opening.specs.Plans.{IsPlanOf}
use Rattle.gw_opening.specs.Slots.{SetsSlot}
use Rattle.gw_opening.specs.Places.{IsAt, TakesFrom, PortChanges, slot_of}
use Rattle.gw_opening.proofs.Changes.{PortWas, SiteWas, site_was, Late, late_of}
use Rattle.gw_opening.proofs.Changes.Late.{same_port as late_same, changed_to}
use Rattle.gw_opening.proofs.Changes.PortWas.{same_port, changed_port}
use Rattle.gw_site.proofs.Pairs.{pushed, PairsBelow, pairs_step, pair_at, pair_of, each_at}
use Rattle.gw_opening.proofs.PlacesWhere.{place-passes}

-- a controller is on the segment where its place is, which is one of the script
pub segment_there : (s : ScriptValue) (controller : ℕ) (place : Place) → IsSound s → IsPlaceOf s controller place →
    place.site < length s.segments
segment_there s controller place sound is =
    let p = place-passes (λ (c : ControllerValue). c.segment == place.site) 0 s.controllers place.port controller is in
    let on : p.element.segment ≡ place.site = eqb-true p.element.segment place.site p.passes in
    let range = each_at (IsControllerIn s.bits s.segments) s.controllers p.nth p.element p.there sound.controllers in
    omega (arith, range.1, on)

pub record NewPortAt {B : Type 0} (s : ScriptValue) (sites : List (Site (Port B))) (controller : ℕ)
    (place : Place) : Type 0 where
  pub port : Port B
  pub at : IsAt sites place port
  pub is_new : IsNewPort s controller port

module _ {B : Type 0} where
  -- its port is there
  pub place_there : (s : ScriptValue) (sites : List (Site (Port B))) (controller : ℕ) (place : Place) → IsSound s →
      AreNewSites s sites → IsPlaceOf s controller place → NewPortAt s sites controller place
  place_there s sites controller place sound new is =
      let site = some_there sites place.site (let within = segment_there s controller place sound is in
      omega (arith, within, new.size)) in
      let made = pair_at (λ i segment. IsNewSite s i) s.segments sites place.site site.0 new site.1 in
      let port = pair_of (λ k. IsNewPort s) (controller_places s place.site) site.0.ports.items place.port controller
      made.2.ports is in
      record { port = port.0; at = record { site = site.0; site_is = site.1; port_is = port.1 }; is_new = port.2 }

-- an empty FIFO in a slot
empty_slot : (b : Bool) (one other : Option Intake) → IsEmptySlot one → IsEmptySlot other →
    IsEmptySlot (cond b one other)
empty_slot true one other p q = p
empty_slot false one other p q = q

module _ {B : Type 0} where
  new_port_set : (s : ScriptValue) (controller fifo : ℕ) (slot : Option Intake) (old new : Port B) → IsEmptySlot slot →
      SetsSlot fifo slot old new → IsNewPort s controller old → IsNewPort s controller new
  new_port_set s controller fifo slot old new empty set p = record {
    value = p.value;
    value_is = p.value_is;
    banks_is = set.banks_is ∙ p.banks_is;
    first = subst IsEmptySlot (sym set.first_is) (empty_slot (fifo == 0) slot old.first empty p.first);
    second = subst IsEmptySlot (sym set.second_is) (empty_slot (fifo == 0) old.second slot p.second empty);
  }

  new_site_set : (s : ScriptValue) (fifo : ℕ) (slot : Option Intake) (old : List (Site (Port B))) (there : Place)
      (i : ℕ) (site : Site (Port B)) → IsEmptySlot slot → (w : SiteWas (SetsSlot fifo slot) old there i site) →
      IsNewSite s i w.site → IsNewSite s i site
  new_site_set s fifo slot old there i site empty w n = record {
    plan_is = subst (λ (v : SegmentValue). IsPlanOf s i v.plan) (sym w.segment_is) n.plan_is;
    opens = subst (λ (v : SegmentValue). IsOpening v.plan v) (sym w.segment_is) n.opens;
    ports = record {
      at = λ k controller port e f. by_port k controller port e (w.ports k port f);
      size = w.size ∙ n.ports.size;
    };
  }
    where
      by_port : (k controller : ℕ) (port : Port B) → slice_get (controller_places s i) k ≡ Some controller →
          PortWas (SetsSlot fifo slot) w.site there i k port → IsNewPort s controller port
      by_port k controller port e (same_port is) = n.ports.at k controller port e is
      by_port k controller port e (changed_port was is change here) =
          new_port_set s controller fifo slot was port empty change (n.ports.at k controller was e is)

  -- a FIFO that was offered nothing is put somewhere
  pub sites_set : (s : ScriptValue) (fifo : ℕ) (slot : Option Intake) (old new : List (Site (Port B))) (there : Place) →
      IsEmptySlot slot → PortChanges (SetsSlot fifo slot) old new there → AreNewSites s old → AreNewSites s new
  sites_set s fifo slot old new there empty t n = record {
    at = λ i segment site e f. (let w = site_was (SetsSlot fifo slot) old new there t i site f in
        new_site_set s fifo slot old there i site empty w (n.at i segment w.site e w.site_is));
    size = t.sites_size ∙ n.size;
  }

  set_first : (fifo : ℕ) (slot : Option Intake) (old new : Port B) (b : Bool) → fifo == 0 ≡ b →
      SetsSlot fifo slot old new → cond b new.first new.second ≡ slot
  set_first fifo slot old new true is set = set.first_is ∙ ap (λ b. cond b slot old.first) is
  set_first fifo slot old new false is set = set.second_is ∙ ap (λ b. cond b old.second slot) is

  -- the FIFO of this number is what was put there
  pub slot_set : (fifo : ℕ) (slot : Option Intake) (old new : Port B) → SetsSlot fifo slot old new →
      slot_of new fifo ≡ slot
  slot_set fifo slot old new set = set_first fifo slot old new (fifo == 0) refl set

  set_other : (fifo : ℕ) (slot : Option Intake) (old new : Port B) (a b : Bool) → fifo == 0 ≡ a → b ≢ a →
      SetsSlot fifo slot old new → cond b new.first new.second ≡ cond b old.first old.second
  set_other fifo slot old new true true is ne set = absurd (ne refl)
  set_other fifo slot old new true false is ne set = set.second_is ∙ ap (λ b. cond b old.second slot) is
  set_other fifo slot old new false true is ne set = set.first_is ∙ ap (λ b. cond b slot old.first) is
  set_other fifo slot old new false false is ne set = absurd (ne refl)

  -- the other one is what it was
  pub slot_other : (fifo other : ℕ) (slot : Option Intake) (old new : Port B) → (other == 0) ≢ (fifo == 0) →
      SetsSlot fifo slot old new → slot_of new other ≡ slot_of old other
  slot_other fifo other slot old new ne set = set_other fifo slot old new (fifo == 0) (other == 0) refl ne set

  takes_set : (fifo : ℕ) (slot : Option Intake) (lane : Lane) (old new : Port B) → (lane.fifo == 0) ≢ (fifo == 0) →
      SetsSlot fifo slot old new → TakesFrom lane old → TakesFrom lane new
  takes_set fifo slot lane old new ne set t = record {
    intake = t.intake;
    slot_is = slot_other fifo lane.fifo slot old new ne set ∙ t.slot_is;
    queue_is = t.queue_is;
  }

  -- another route takes from where it took before
  pub takes_other : (fifo : ℕ) (slot : Option Intake) (old new : List (Site (Port B))) (there : Place) (lane : Lane) →
      PortChanges (SetsSlot fifo slot) old new there → (lane.source ≡ there → (lane.fifo == 0) ≢ (fifo == 0)) →
      Takes old lane → Takes new lane
  takes_other fifo slot old new there lane t apart k =
      by_late (late_of (SetsSlot fifo slot) old new there t lane.source k.from k.from_is)
    where
      by_late : Late (SetsSlot fifo slot) old new there t lane.source k.from → Takes new lane
      by_late (late_same at elsewhere) = record { from = k.from; from_is = at; takes = k.takes }
      by_late (changed_to at here is) = record {
        from = t.late;
        from_is = at;
        takes = takes_set fifo slot lane t.port t.late (apart here) t.changes (subst (TakesFrom lane) is k.takes);
      }

module _ {B : Type 0} where
  -- a FIFO that is put somewhere leaves all mailboxes
  pub mails_set : (fifo : ℕ) (slot : Option Intake) (old new : List (Site (Port B))) (there : Place) →
      PortChanges (SetsSlot fifo slot) old new there → SameMails old new
  mails_set fifo slot old new there t place late at =
      (let w = site_was (SetsSlot fifo slot) old new there t place.site at.site at.site_is in
      by_port w (w.ports place.port late at.port_is))
    where
      by_port : (w : SiteWas (SetsSlot fifo slot) old there place.site at.site) →
          PortWas (SetsSlot fifo slot) w.site there place.site place.port late → (port : Port B) × IsAt old place port
          × (late.mail ≡ port.mail)
      by_port w (same_port is) = (late, record { site = w.site; site_is = w.site_is; port_is = is }, refl)
      by_port w (changed_port was is change here) =
          (was, record { site = w.site; site_is = w.site_is; port_is = is }, change.mail_is)

  pub same_mails-self : (sites : List (Site (Port B))) → SameMails sites sites
  same_mails-self sites place late at = (late, at, refl)

  pub same_mails-on : (a b c : List (Site (Port B))) → SameMails a b → SameMails b c → SameMails a c
  same_mails-on a b c p q place late at =
      let middle = q place late at in
      let first = p place middle.0 middle.1 in
      (first.0, first.1, middle.2 ∙ first.2)

  -- so what holds of the mailboxes at the place of each controller still does
  pub have_mails-on : (NewMail : Bool → ℕ → B → Type 0) (s : ScriptValue) (old new : List (Site (Port B))) →
      SameMails old new → HaveMails NewMail s old → HaveMails NewMail s new
  have_mails-on NewMail s old new same all place late controller value at is e =
      let before = same place late at in
      subst (NewMail (priority_of value) (routes_at s controller)) (sym before.2)
      (all place before.0 controller value before.1 is e)

-- routes so far
pub record OpensBelow {B : Type 0} (s : ScriptValue) (sites : List (Site (Port B))) (lanes : List Lane)
    (k : ℕ) : Type 0 where
  pub each_site : AreNewSites s sites
  pub each_lane : PairsBelow (λ j route. IsNewLane s j route) s.routes lanes k
  pub takes : (j : ℕ) (lane : Lane) → slice_get lanes j ≡ Some lane → Takes sites lane

module _ {B : Type 0} where
  pub opens_start : (s : ScriptValue) (sites : List (Site (Port B))) → AreNewSites s sites → OpensBelow s sites [] 0
  opens_start s sites new = record {
    each_site = new;
    each_lane = record { at = λ k route lane e f. absurd (cc f); size = refl };
    takes = λ j lane e. absurd (cc e);
  }

apart_at : {X : Type 0} (R : X → X → Type 0) (xs : List X) (i j : ℕ) (x y : X) → i < j → slice_get xs i ≡ Some x →
    slice_get xs j ≡ Some y → AllPairs R xs → R x y
apart_at R xs i j x y less e f all =
    let within = slice_get_within xs j y f in
    subst (λ a. R a y) (get_or_from_slice_get xs i x x e)
    (subst (λ b. R (get_or xs i x) b) (get_or_from_slice_get xs j y x f) (all i j x less within))

-- both are 0 or both are 1
same_fifo_number : (a b : ℕ) → a ≤ 1 → b ≤ 1 → a == 0 ≡ b == 0 → a ≡ b
same_fifo_number a b p q e = elim (eqb_tells a 0) [
  | inl zero_a ↦ (let is : b ≡ 0 = eqb-true b 0 (sym e ∙ zero_a.0) in omega (arith, is, zero_a.1))
  | inr more_a ↦ elim (eqb_tells b 0) [
    | inl zero_b ↦ (let is : a ≡ 0 = eqb-true a 0 (e ∙ zero_b.0) in omega (arith, is, zero_b.1))
    | inr more_b ↦ omega (arith, p, q, more_a.1, more_b.1)
  ]
]

-- two routes of a script don't take from the same FIFO
pub lanes_apart : (s : ScriptValue) (j k : ℕ) (r q : RouteValue) (a b : Lane) → IsSound s → j < k →
    slice_get s.routes j ≡ Some r → slice_get s.routes k ≡ Some q → IsLaneOf s j r a → IsLaneOf s k q b → TakesApart a b
lanes_apart s j k r q a b sound less e f p o = λ same is.
    let here : Some r.source ≡ Some q.source =
    sym p.source_is ∙ ap (λ (x : Place). slice_get (controller_places s x.site) x.port) same ∙ o.source_is in
    let range_r = each_at (IsRouteIn s.controllers) s.routes j r e sound.routes in
    let range_q = each_at (IsRouteIn s.controllers) s.routes k q f sound.routes in
    let fifos : r.fifo ≡ q.fifo = same_fifo_number r.fifo q.fifo range_r.1 range_q.1
    (ap (λ n. n == 0) (sym p.fifo_is) ∙ is ∙ ap (λ n. n == 0) o.fifo_is) in
    apart_at TakesElsewhere s.routes j k r q less e f sound.own_fifos (same_some r.source q.source here, fifos)

module _ {B : Type 0} where
  pub opens_step : (s : ScriptValue) (old new : List (Site (Port B))) (lanes : List Lane) (k : ℕ) (lane : Lane) →
      IsSound s → k < length s.routes → AreNewSites s new →
      ((value : RouteValue) → slice_get s.routes k ≡ Some value → IsNewLane s k value lane) →
      Takes new lane → ((other : Lane) → TakesApart other lane → Takes old other → Takes new other) →
      OpensBelow s old lanes k → OpensBelow s new (lanes ++ lane ∷ []) (k + 1)
  opens_step s old new lanes k lane sound less n is takes others b =
      let value = some_there s.routes k less in record {
        each_site = n;
        each_lane = pairs_step (λ j route. IsNewLane s j route) s.routes lanes k value.0 lane value.1
            (is value.0 value.1) b.each_lane;
        takes = λ j other e. elim (pushed lanes lane j other e) [
          | inl front ↦ (let inside = slice_get_within lanes j other front in
              let before : j < k = omega (arith, inside, b.each_lane.size) in
              let route = some_there s.routes j (omega (arith, before, less)) in
              others other (lanes_apart s j k route.0 value.0 other lane sound before route.1 value.1
              (b.each_lane.at j route.0 other route.1 front).lane_is (is value.0 value.1).lane_is)
              (b.takes j other front))
          | inr last ↦ subst (Takes new) last.1 takes
        ];
      }
