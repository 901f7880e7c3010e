-- What a report says of a route, by what the lines of the segments tell.
use Rattle.std.proofs.Common.{◌≡◌, ℕ, ◌+◌, ◌-◌, ◌≤◌, ◌==◌, inl, inr, nat_lt, cond, ◌≢◌, AllPairs, Some, None, List}
use Rattle.std.proofs.Common.{◌++◌, length, slice_get, refl, sym, ap, subst, arith, ◌∙◌}
use Rattle.std.proofs.lemmas.Bool.{le-ltb, eqb-true}
use Rattle.std.proofs.lemmas.Bool.Decides.{eqb_tells}
use Rattle.std.proofs.lemmas.List.{map-append}
use Rattle.bx_core.specs.Lists.{Each, Has}
use Rattle.bx_core.specs.States.{numbers}
use Rattle.bx_core.specs.Ties.{left_of}
use Rattle.bx_core.specs.Stands.{entries_of}
use Rattle.bx_core.specs.TxBus.{no_bus_past}
use Rattle.can_frame.specs.Frames.{FrameValue}
use Rattle.can_segment.specs.Brought.{kinds_of, all_in, start_in, taken_in, grown}
use Rattle.can_station.proofs.Places.{same_some}
use Rattle.can_segment.proofs.Shown.{map_there}
use Rattle.gw_route.specs.RouteHand.{HandValue, hand_value, room_in}
use Rattle.gw_route.specs.declared.route_abort.RouteAbort.{RouteAbort}
use Rattle.gw_script.specs.declared.route_report.RouteReport.{RouteReport}
use Rattle.gw_config.specs.Controllers.{ControllerValue}
use Rattle.gw_config.specs.Nodes.{controller_places, controller_at, talkers_on}
use Rattle.gw_config.specs.Routes.{RouteValue}
use Rattle.gw_config.specs.Scripts.{ScriptValue}
use Rattle.gw_config.specs.SoundScripts.{IsSound, IsRouteIn}
use Rattle.bx_controller.specs.declared.intake.Intake.{Intake}
use Rattle.gw_opening.specs.declared.lane.Lane.{Lane}
use Rattle.gw_opening.specs.declared.place.Place.{Place}
use Rattle.gw_ending.specs.Ports.{Port}
use Rattle.gw_ending.specs.Ports.{Site}
use Rattle.gw_ending.specs.Finals.{IsDonePort, IsDoneSite, AreDoneSites, ClosesInto, WasOffered, WaitAtMost, HasTalkers}
use Rattle.gw_ending.specs.Finals.{EndsLane, lines_at, reported_at}
use Rattle.bx_controller.specs.Intakes.{GoTo}
use Rattle.gw_ending.specs.Headline.{Headline, released}
use Rattle.gw_route.specs.Plans.{numbers_in, FromPlan}
use Rattle.gw_ending.specs.Links.{settled, RouteLinked}
use Rattle.gw_opening.specs.Openings.{IsPlaceOf, IsLaneOf, priority_of}
use Rattle.gw_opening.specs.Plans.{aborts_of}
use Rattle.bx_controller.specs.Ports.{BothStand}
use Rattle.gw_ending.specs.Reports.{AreReportedOf, IsRouteRun, aborted_in}
use Rattle.bx_controller.specs.Slots.{FifoStands, SlotStands}
use Rattle.gw_route.specs.Sublists.{IsSublist}
use Rattle.gw_opening.specs.Places.{IsAt, slot_of}
use Rattle.gw_ending.proofs.Links.{linked, aborted_released}
use Rattle.gw_ending.proofs.Settles.{settled_apart}
use Rattle.gw_ending.proofs.Tellings.{left-length}
use Rattle.gw_ending.proofs.Sublists.{settled_sublist}
use Rattle.gw_route.proofs.Sublists.{sublist_on, sublist_left}
use Rattle.gw_site.proofs.Pairs.{pair_at, each_at}
use Rattle.gw_opening.proofs.PlacesWhere.{place-passes}

behind : (talkers p : ℕ) (places : List ℕ) → cond (nat_lt (talkers + p) talkers) None
    (slice_get places (talkers + p - talkers)) ≡ slice_get places p
behind talkers p places =
    ap (λ b. cond b None (slice_get places (talkers + p - talkers))) (le-ltb (talkers + p) talkers (omega arith))
    ∙ ap (slice_get places) (let same : talkers + p - talkers ≡ p = omega arith in same)

-- the controllers on a segment are the nodes behind its talkers
pub controller_node : (s : ScriptValue) (segment p controller : ℕ) →
    slice_get (controller_places s segment) p ≡ Some controller →
    controller_at s segment (length (talkers_on (slice_get s.segments segment)) + p) ≡ Some controller
controller_node s segment p controller is =
    behind (length (talkers_on (slice_get s.segments segment))) p (controller_places s segment) ∙ is

-- a controller of the script, after the last bit
pub record DoneAt (s : ScriptValue) (sites : List Site) (controller : ℕ) (place : Place) (port : Port) : Type 0 where
  pub site : Site
  pub site_is : slice_get sites place.site ≡ Some site
  pub done : IsDoneSite s place.site site
  pub port_done : IsDonePort s controller (reported_at site place.port) (length site.segment.levels) port
  pub on : port_done.value.segment ≡ place.site

pub on_segment : (s : ScriptValue) (controller : ℕ) (place : Place) (value : ControllerValue) →
    IsPlaceOf s controller place → slice_get s.controllers controller ≡ Some value → value.segment ≡ place.site
on_segment s controller place value is e =
    let p = place-passes (λ (c : ControllerValue). c.segment == place.site) 0 s.controllers place.port controller is in
    let at : p.nth ≡ controller = omega (arith, p.place_is) in
    let same : p.element ≡ value = same_some p.element value (sym p.there ∙ ap (slice_get s.controllers) at ∙ e) in
    ap (λ (c : ControllerValue). c.segment) (sym same) ∙ eqb-true p.element.segment place.site p.passes

abbrev pub done_at : (s : ScriptValue) (sites : List Site) (controller : ℕ) (place : Place) (port : Port) →
    AreDoneSites s sites → IsPlaceOf s controller place → IsAt sites place port → DoneAt s sites controller place port
done_at s sites controller place port done is at =
    let made = pair_at (λ i segment. IsDoneSite s i) s.segments sites place.site at.site done at.site_is in
    let own = made.2.ports.at place.port controller port is at.port_is in
    record {
      site = at.site;
      site_is = at.site_is;
      done = made.2;
      port_done = own;
      on = on_segment s controller place own.value is own.value_is;
    }

-- what the lines tell of it
abbrev reported : (s : ScriptValue) (sites : List Site) (controller : ℕ) (place : Place) (port : Port) →
    IsPlaceOf s controller place → (d : DoneAt s sites controller place port) →
    AreReportedOf s (lines_at sites) controller
    (kinds_of (length d.site.segment.plan.talkers.items + place.port) d.site.segment.events)
reported s sites controller place port is d = record {
  value = d.port_done.value;
  value_is = d.port_done.value_is;
  node = length d.site.segment.plan.talkers.items + place.port;
  node_is =
      ap (λ n. controller_at s n (length d.site.segment.plan.talkers.items + place.port)) d.on
      ∙ ap (λ n. controller_at s place.site (n + place.port)) d.done.plan_is.talkers.size
      ∙ controller_node s place.site place.port controller is;
  events = d.site.segment.events;
  events_is = ap (slice_get (lines_at sites)) d.on
      ∙ map_there (λ (site : Site). site.segment.events) sites place.site d.site d.site_is;
  tells_is = refl;
}

-- the frames that a FIFO was offered
slot_stands : (port : Port) (taken : List FrameValue) (fifo : ℕ) (intake : Intake) → fifo ≤ 1 → BothStand port taken →
    slot_of port fifo ≡ Some intake → FifoStands port.banks fifo intake taken
slot_stands port taken fifo intake few both is = elim (eqb_tells fifo 0) [
  | inl zero ↦ (let first : port.first ≡ Some intake = ap (λ b. cond b port.first port.second) (sym zero.0) ∙ is in
      subst (λ n. FifoStands port.banks n intake taken) (sym zero.1)
      (subst (λ o. SlotStands port.banks 0 o taken) first both.first))
  | inr more ↦ (let second : port.second ≡ Some intake = ap (λ b. cond b port.first port.second) (sym more.0) ∙ is in
      let one : 1 ≡ fifo = omega (arith, few, more.1) in
      subst (λ n. FifoStands port.banks n intake taken) one
      (subst (λ o. SlotStands port.banks 1 o taken) second both.second))
]

pub offered_at : (s : ScriptValue) (sites : List Site) (controller fifo : ℕ) (place : Place) (port : Port)
    (intake : Intake) → IsSound s → fifo ≤ 1 → (d : DoneAt s sites controller place port) →
    slot_of port fifo ≡ Some intake →
    FifoStands port.banks fifo intake
    (all_in taken_in (kinds_of (length d.site.segment.plan.talkers.items + place.port) d.site.segment.events))
offered_at s sites controller fifo place port intake sound small d is =
    slot_stands port _ fifo intake small
    (d.port_done.taken (omega (arith, d.port_done.few, d.done.made, sound.few_bits))) is

small_fifo : (s : ScriptValue) (k : ℕ) (route : RouteValue) (lane : Lane) → IsSound s →
    slice_get s.routes k ≡ Some route → IsLaneOf s k route lane → lane.fifo ≤ 1
small_fifo s k route lane sound e l =
    (let range = each_at (IsRouteIn s.controllers) s.routes k route e sound.routes in omega (arith, range.1, l.fifo_is))

pub was_offered : (s : ScriptValue) (sites : List Site) (k : ℕ) (route : RouteValue) (lane : Lane) → IsSound s →
    AreDoneSites s sites → slice_get s.routes k ≡ Some route → IsLaneOf s k route lane → WasOffered sites lane
was_offered s sites k route lane sound done e l = λ port intake at is.
    let stands = offered_at s sites route.source lane.fifo lane.source port intake sound
    (small_fifo s k route lane sound e l) (done_at s sites route.source lane.source port done l.source_is at) is in
    (stands.offered, stands.stands)

-- the talkers of the script stand in front of the controllers
pub has_talkers : (s : ScriptValue) (sites : List Site) (place : Place) → AreDoneSites s sites →
    HasTalkers sites place (length (talkers_on (slice_get s.segments place.site)))
has_talkers s sites place done site e =
    (pair_at (λ i segment. IsDoneSite s i) s.segments sites place.site site done e).2.plan_is.talkers.size

-- the log's aborted numbers are of the plan
from_plan : (planned : List RouteAbort) (h : HandValue) → FromPlan planned h → IsSublist h.aborted (numbers_in planned)
from_plan planned h p = subst (λ aborts. IsSublist h.aborted (numbers_in aborts)) (sym p.all)
    (subst (IsSublist h.aborted) (sym (map-append (λ (a : RouteAbort). a.number) p.done h.aborts))
    (sublist_left h.aborted (numbers_in p.done) (numbers_in h.aborts) p.logged))

pub route_run : (room : ℕ) (s : ScriptValue) (sites : List Site) (k : ℕ) (route : RouteValue) (lane : Lane)
    (r : RouteReport) → IsSound s → AreDoneSites s sites → slice_get s.routes k ≡ Some route → IsLaneOf s k route lane →
    ClosesInto s sites route lane → WaitAtMost room sites → EndsLane sites lane r →
    IsRouteRun room s (lines_at sites) k route r
route_run room s sites k route lane r sound done e l closes few ends =
    let from = done_at s sites route.source lane.source ends.from done l.source_is ends.from_is in
    let to = done_at s sites route.target lane.target closes.to done l.target_is closes.to_is in
    let stands = offered_at s sites route.source lane.fifo lane.source ends.from ends.takes.intake sound
    (small_fifo s k route lane sound e l) from ends.takes.slot_is in
    let waiting = left_of lane.number closes.to.mail.left.items in
    let ended = numbers r.completed.items ++ numbers waiting in
    let logged = (hand_value lane.hand).aborted in
    let tells = reported_at closes.to_is.site lane.target.port in
    let value : closes.value ≡ to.port_done.value =
    same_some closes.value to.port_done.value (sym closes.value_is ∙ to.port_done.value_is) in
    let end = ends.end_is closes.to closes.to_is in
    let completed = ends.completed_is closes.to closes.to_is in
    let room_left : length waiting ≤ room = (let all = few lane.target closes.to closes.to_is in
    omega (arith, all, left-length lane.number closes.to.mail.left.items)) in
    let links : RouteLinked room (room_in lane.hand.queue) (priority_of to.port_done.value) lane.hand.rewrites.items r
    (entries_of lane.number (all_in start_in tells)) =
    subst (λ v. RouteLinked room (room_in lane.hand.queue) (priority_of v) lane.hand.rewrites.items r
    (entries_of lane.number (all_in start_in tells))) value
    (end.linked room (priority_of closes.value) lane.number (grown no_bus_past tells) closes.past room_left closes.tied
    closes.matches completed) in
    record {
      from = reported_at from.site lane.source.port;
      from_is = reported s sites route.source lane.source ends.from l.source_is from;
      to = tells;
      to_is = reported s sites route.target lane.target closes.to l.target_is to;
      number = lane.number;
      number_is = l.number_is;
      offered = stands.offered;
      offers = subst (λ banks. GoTo banks route.fifo (all_in taken_in (reported_at from.site lane.source.port))
          stands.offered) from.port_done.banks_is
          (subst (λ n. GoTo ends.from.banks n (all_in taken_in (reported_at from.site lane.source.port)) stands.offered)
          l.fifo_is stands.goes);
      fifo = end.fifo stands.offered stands.stands;
      completed_is = completed;
      claims = subst (λ queue. Headline room (room_in queue) (priority_of to.port_done.value) route.rewrites r
          (entries_of lane.number (all_in start_in tells))) l.queue_is
          (subst (λ rewrites. Headline room (room_in lane.hand.queue) (priority_of to.port_done.value) rewrites r
          (entries_of lane.number (all_in start_in tells))) l.rewrites_is
          (linked (priority_of to.port_done.value) lane.hand.rewrites.items r
          (entries_of lane.number (all_in start_in tells)) links));
      apart = subst (AllPairs (λ number later. number ≢ later)) (sym end.aborted_is) (settled_apart ended logged);
      named = subst (λ ns. IsSublist ns (aborted_in s k)) (sym end.aborted_is)
          (sublist_on (settled ended logged) logged (aborted_in s k) (settled_sublist ended logged)
          (from_plan (aborts_of s k) (hand_value lane.hand) l.plan));
      released_too = subst (λ rewrites. Each (Has (numbers (released rewrites r))) r.aborted.items) l.rewrites_is
          (aborted_released (priority_of to.port_done.value) lane.hand.rewrites.items r
          (entries_of lane.number (all_in start_in tells)) links);
      reaped_too = end.reaped_too (priority_of closes.value) lane.number
          (grown no_bus_past tells) closes.past closes.tied closes.matches completed;
    }
