-- Routes end one after another.
use Rattle.std.proofs.Common.{◌≡◌, ℕ, suc, ◌+◌, ◌<◌, ◌≤◌, ◌==◌, Bool, true, false, cond, Option, Some, None}
use Rattle.std.proofs.Common.{Result, Ok, Err, IfOk, List, [], ◌∷◌, ◌++◌, length, slice_get, refl, sym, ap, subst}
use Rattle.std.proofs.Common.{arith, ◌∙◌, length-append}
use Rattle.std.proofs.lemmas.Option.{slice_get_within}
use Rattle.bx_core.specs.Ties.{RouteTied, NothingOf, left_of}
use Rattle.bx_core.specs.TxBus.{no_bus_past}
use Rattle.bx_rx.specs.Bank.{BankValue}
use Rattle.can_frame.specs.Frames.{FrameValue}
use Rattle.can_segment.specs.Brought.{kinds_of, grown}
use Rattle.can_segment.specs.Segments.{SegmentValue}
use Rattle.can_station.specs.declared.event.EventKind.{EventKind}
use Rattle.can_station.proofs.Places.{some_there, same_some}
use Rattle.gw_script.specs.declared.route_report.RouteReport.{RouteReport}
use Rattle.gw_config.specs.Nodes.{controller_places}
use Rattle.gw_config.specs.Routes.{RouteValue}
use Rattle.gw_config.specs.Scripts.{ScriptValue}
use Rattle.gw_config.specs.SoundScripts.{IsSound}
use Rattle.bx_controller.specs.Ports.{slot_leaves}
use Rattle.bx_controller.specs.Slots.{SlotStands}
use Rattle.bx_controller.specs.declared.intake.Intake.{Intake}
use Rattle.gw_site.proofs.Pairs.{PairsBelow, pairs_step, pairs-map}
use Rattle.gw_opening.specs.declared.lane.Lane.{Lane}
use Rattle.gw_opening.specs.declared.place.Place.{Place}
use Rattle.gw_opening.specs.Openings.{priority_of}
use Rattle.gw_opening.specs.Places.{IsAt, PortChanges}
use Rattle.gw_opening.specs.Plans.{IsPlanOf}
use Rattle.gw_opening.specs.Slots.{SetsSlot}
use Rattle.gw_opening.proofs.Changes.{PortWas, SiteWas, site_was, mail_after}
use Rattle.gw_opening.proofs.Changes.PortWas.{same_port, changed_port}
use Rattle.gw_opening.proofs.Openings.{takes_other, lanes_apart, mails_set}
use Rattle.gw_ending.specs.declared.closed.Closed.{Closed}
use Rattle.gw_ending.specs.Ports.{Port, Site}
use Rattle.gw_ending.specs.Finals.{IsDonePort, IsDoneSite, AreDoneSites, ClosesInto, IsDoneLane, IsOver, WaitAtMost}
use Rattle.gw_ending.specs.Finals.{HasTalkers, EndsLane, lines_at, reported_at}
use Rattle.gw_ending.specs.Reports.{IsRouteRun}
use Rattle.gw_ending.proofs.RouteRuns.{route_run}

-- a FIFO that was taken out
none_or_slot : (banks : List BankValue) (fifo : ℕ) (slot : Option Intake) (taken : List FrameValue) (b : Bool) →
    SlotStands banks fifo slot taken → SlotStands banks fifo (cond b None slot) taken
none_or_slot banks fifo slot taken true stands = tt
none_or_slot banks fifo slot taken false stands = stands

slot_or_none : (banks : List BankValue) (fifo : ℕ) (slot : Option Intake) (taken : List FrameValue) (b : Bool) →
    SlotStands banks fifo slot taken → SlotStands banks fifo (cond b slot None) taken
slot_or_none banks fifo slot taken true stands = stands
slot_or_none banks fifo slot taken false stands = tt

done_port_taken : (s : ScriptValue) (controller fifo bits : ℕ) (tells : List EventKind) (old new : Port) →
    SetsSlot fifo None old new → IsDonePort s controller tells bits old → IsDonePort s controller tells bits new
done_port_taken s controller fifo bits tells old new set p = record {
  value = p.value;
  value_is = p.value_is;
  banks_is = set.banks_is ∙ p.banks_is;
  taken = λ few. (let both = p.taken few in record {
    first = slot_leaves old.banks new.banks 0 (cond (fifo == 0) None old.first) new.first _ set.banks_is set.first_is
        (none_or_slot old.banks 0 old.first _ (fifo == 0) both.first);
    second = slot_leaves old.banks new.banks 1 (cond (fifo == 0) old.second None) new.second _ set.banks_is
        set.second_is (slot_or_none old.banks 1 old.second _ (fifo == 0) both.second);
  });
  once = p.once;
  few = p.few;
  unasked = λ n beyond. subst (λ (m : Closed). NothingOf n (grown no_bus_past tells) m.left.items) (sym set.mail_is)
      (p.unasked n beyond);
}

done_site_taken : (s : ScriptValue) (fifo : ℕ) (old : List Site) (there : Place) (i : ℕ) (late : Site) →
    (w : SiteWas (SetsSlot fifo None) old there i late) → IsDoneSite s i w.site → IsDoneSite s i late
done_site_taken s fifo old there i late w d = record {
  plan_is = subst (λ (v : SegmentValue). IsPlanOf s i v.plan) (sym w.segment_is) d.plan_is;
  made = subst (λ (v : SegmentValue). length v.levels ≡ s.bits) (sym w.segment_is) d.made;
  ports = record {
    at = λ k controller port e f. subst (λ (v : SegmentValue). IsDonePort s controller
        (kinds_of (length v.plan.talkers.items + k) v.events) (length v.levels) port) (sym w.segment_is)
        (by_port k controller port e (w.ports k port f));
    size = w.size ∙ d.ports.size;
  };
}
  where
    by_port : (k controller : ℕ) (port : Port) → slice_get (controller_places s i) k ≡ Some controller →
        PortWas (SetsSlot fifo None) w.site there i k port →
        IsDonePort s controller (reported_at w.site k) (length w.site.segment.levels) port
    by_port k controller port e (same_port is) = d.ports.at k controller port e is
    by_port k controller port e (changed_port was is change here) = done_port_taken s controller fifo
        (length w.site.segment.levels) (reported_at w.site k) was port change (d.ports.at k controller was e is)

sites_taken : (s : ScriptValue) (fifo : ℕ) (old new : List Site) (there : Place) →
    PortChanges (SetsSlot fifo None) old new there → AreDoneSites s old → AreDoneSites s new
sites_taken s fifo old new there t d = record {
  at = λ i segment site e f. (let w = site_was (SetsSlot fifo None) old new there t i site f in
      done_site_taken s fifo old there i site w (d.at i segment w.site e w.site_is));
  size = t.sites_size ∙ d.size;
}

lines_taken : (fifo : ℕ) (old new : List Site) (there : Place) → PortChanges (SetsSlot fifo None) old new there →
    lines_at new ≡ lines_at old
lines_taken fifo old new there t =
    pairs-map (λ (site : Site). site.segment.events) (λ (site : Site). site.segment.events) old new (record {
      at = λ i a b e f. (let w = site_was (SetsSlot fifo None) old new there t i b f in
          let same : w.site ≡ a = same_some w.site a (sym w.site_is ∙ e) in
          ap (λ (v : SegmentValue). v.events) w.segment_is ∙ ap (λ (site : Site). site.segment.events) same);
      size = t.sites_size;
    })

-- a FIFO that was taken out leaves each segment
pub segment_after : (fifo : ℕ) (old new : List Site) (there : Place) → PortChanges (SetsSlot fifo None) old new there →
    (place : Place) (port late : Port) (at : IsAt old place port) (now : IsAt new place late) →
    now.site.segment ≡ at.site.segment
segment_after fifo old new there t place port late at now =
    let w = site_was (SetsSlot fifo None) old new there t place.site now.site now.site_is in
    w.segment_is ∙ ap (λ (x : Site). x.segment) (same_some w.site at.site (sym w.site_is ∙ at.site_is))

closes_taken : (s : ScriptValue) (fifo : ℕ) (old new : List Site) (there : Place) (route : RouteValue) (lane : Lane) →
    PortChanges (SetsSlot fifo None) old new there → ClosesInto s old route lane → ClosesInto s new route lane
closes_taken s fifo old new there route lane t c =
    let to = mail_after fifo None old new there t lane.target c.to c.to_is in
    record {
      to = to.0;
      to_is = to.1;
      value = c.value;
      value_is = c.value_is;
      past = c.past;
      matches = c.matches;
      tied = subst (λ (m : Closed). RouteTied (priority_of c.value) lane.number
          (grown no_bus_past (reported_at to.1.site lane.target.port)) c.past (left_of lane.number m.left.items)) (sym to.2)
          (subst (λ (v : SegmentValue). RouteTied (priority_of c.value) lane.number
          (grown no_bus_past (kinds_of (length v.plan.talkers.items + lane.target.port) v.events)) c.past
          (left_of lane.number c.to.mail.left.items))
          (sym (segment_after fifo old new there t lane.target c.to to.0 c.to_is to.1)) c.tied);
    }

-- no more waits than before
pub few_taken : (room fifo : ℕ) (old new : List Site) (there : Place) → PortChanges (SetsSlot fifo None) old new there →
    WaitAtMost room old → WaitAtMost room new
few_taken room fifo old new there t few place late at =
    let before = mails_set fifo None old new there t place late at in
    subst (λ (m : Closed). length m.left.items ≤ room) (sym before.2) (few place before.0 before.1)

-- the talkers stand where they stood
pub talkers_taken : (fifo : ℕ) (old new : List Site) (there : Place) → PortChanges (SetsSlot fifo None) old new there →
    (place : Place) (talkers : ℕ) → HasTalkers old place talkers → HasTalkers new place talkers
talkers_taken fifo old new there t place talkers has site e =
    let w = site_was (SetsSlot fifo None) old new there t place.site site e in
    ap (λ (v : SegmentValue). length v.plan.talkers.items) w.segment_is ∙ has w.site w.site_is

pub if_ok_both : {A E : Type 0} (r : Result A E) (P Q S : A → Type 0) → ((x : A) → P x → Q x → S x) → IfOk r P →
    IfOk r Q → IfOk r S
if_ok_both (Ok x) P Q S on h k = on x h k
if_ok_both (Err e) P Q S on h k = tt

-- the routes that are left, and the reports of those that ended
pub record ClosesBelow (s : ScriptValue) (first sites : List Site) (rest : List Lane)
    (reports : List RouteReport) : Type 0 where
  pub each_site : AreDoneSites s sites
  pub same : lines_at sites ≡ lines_at first
  pub lanes : (k : ℕ) (lane : Lane) → slice_get rest k ≡ Some lane → (route : RouteValue)
      × (slice_get s.routes (length reports + k) ≡ Some route) × IsDoneLane s sites (length reports + k) route lane
  pub size : length reports + length rest ≡ length s.routes
  pub few : (room : ℕ) → WaitAtMost room first → WaitAtMost room sites
  pub done : (room : ℕ) → WaitAtMost room first →
      PairsBelow (λ k route. IsRouteRun room s (lines_at first) k route) s.routes reports (length reports)

pub closes_start : (s : ScriptValue) (sites : List Site) (lanes : List Lane) → IsOver s sites lanes →
    ClosesBelow s sites sites lanes []
closes_start s sites lanes o = record {
  each_site = o.each_site;
  same = refl;
  lanes = λ k lane e. (let route = some_there s.routes k (let within = slice_get_within lanes k lane e in
      omega (arith, within, o.each_lane.size)) in
      let at : k ≡ 0 + k = omega arith in (
        route.0,
        ap (slice_get s.routes) (sym at) ∙ route.1,
        subst (λ n. IsDoneLane s sites n route.0 lane) at (o.each_lane.at k route.0 lane route.1 e),
      ));
  size = omega (arith, o.each_lane.size);
  few = λ room h. h;
  done = λ room h. record { at = λ k route r e f. absurd (cc f); size = refl };
}

-- the route that ends next
pub first_of : (s : ScriptValue) (first sites : List Site) (lane : Lane) (rest : List Lane)
    (reports : List RouteReport) → ClosesBelow s first sites (lane ∷ rest) reports → (route : RouteValue)
    × (slice_get s.routes (length reports) ≡ Some route) × IsDoneLane s sites (length reports) route lane
first_of s first sites lane rest reports b =
    let here = b.lanes 0 lane refl in
    let at : length reports + 0 ≡ length reports = omega arith in
    (here.0, ap (slice_get s.routes) (sym at) ∙ here.1, subst (λ n. IsDoneLane s sites n here.0 lane) at here.2)

pub closes_step : (s : ScriptValue) (first old new : List Site) (lane : Lane) (rest : List Lane)
    (reports : List RouteReport) (r : RouteReport) → IsSound s → ClosesBelow s first old (lane ∷ rest) reports →
    PortChanges (SetsSlot lane.fifo None) old new lane.source →
    EndsLane old lane r → ClosesBelow s first new rest (reports ++ r ∷ [])
closes_step s first old new lane rest reports r sound b t ends =
    let here = first_of s first old lane rest reports b in
    let one_more : length (reports ++ r ∷ []) ≡ length reports + 1 = length-append reports (r ∷ []) in
    record {
      each_site = sites_taken s lane.fifo old new lane.source t b.each_site;
      same = lines_taken lane.fifo old new lane.source t ∙ b.same;
      lanes = λ k later e. (let there = b.lanes (suc k) later e in
          let at : length reports + suc k ≡ length (reports ++ r ∷ []) + k = omega (arith, one_more) in
          let less : length reports < length reports + suc k = omega arith in
          let apart = lanes_apart s (length reports) (length reports + suc k) here.0 there.0 lane later sound less
          here.1 there.1 here.2.lane_is there.2.lane_is in
          let takes = takes_other lane.fifo None old new lane.source later t
          (λ same fifos. apart (sym same) (sym fifos)) there.2.takes in
          let closes = closes_taken s lane.fifo old new lane.source there.0 later t there.2.closes in (
            there.0,
            ap (slice_get s.routes) (sym at) ∙ there.1,
            subst (λ n. IsDoneLane s new n there.0 later) at
                (record { lane_is = there.2.lane_is; log = there.2.log; takes = takes; closes = closes }),
          ));
      size = omega (arith, b.size, one_more);
      few = λ room h. few_taken room lane.fifo old new lane.source t (b.few room h);
      done = λ room h. subst (λ n. PairsBelow (λ k route. IsRouteRun room s (lines_at first) k route) s.routes
          (reports ++ r ∷ []) n) (sym one_more)
          (pairs_step (λ k route. IsRouteRun room s (lines_at first) k route) s.routes reports
          (length reports) here.0 r here.1
          (subst (λ lines. IsRouteRun room s lines (length reports) here.0 r) b.same
          (route_run room s old (length reports) here.0 lane r sound b.each_site here.1 here.2.lane_is here.2.closes
          (b.few room h) ends)) (b.done room h));
    }
