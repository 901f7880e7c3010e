-- From what stands after the last bit to what the report says.
use Rattle.std.proofs.Common.{◌≡◌, ℕ, suc, ◌-◌, ◌≤◌, ◌==◌, nat_lt, Bool, true, false, cond, Some, None, List, [], ◌∷◌}
use Rattle.std.proofs.Common.{length, map, slice_get, ◌+◌, refl, sym, ap, subst, arith, ◌∙◌}
use Rattle.std.proofs.lemmas.Bool.{ltb-false}
use Rattle.std.proofs.lemmas.List.Sums.{length-filter}
use Rattle.bx_core.specs.declared.entry.Entry.{Entry}
use Rattle.bx_core.specs.Lists.{Each}
use Rattle.bx_core.specs.Stands.{entries_of}
use Rattle.can_station.proofs.Places.{same_some, some_there}
use Rattle.bx_core.specs.TxBus.{no_bus_past}
use Rattle.can_segment.specs.Brought.{kinds_of, all_in, start_in, StartsUndone}
use Rattle.can_station.specs.declared.event.Event.{Event}
use Rattle.can_station.specs.declared.event.EventKind.{EventKind}
use Rattle.can_segment.specs.declared.record.Record.{Record}
use Rattle.gw_script.specs.declared.report.Report.{Report}
use Rattle.gw_script.specs.declared.route_report.RouteReport.{RouteReport}
use Rattle.gw_config.specs.Controllers.{ControllerValue}
use Rattle.gw_config.specs.Nodes.{controller_places, controller_at, route_at, talkers_on}
use Rattle.gw_config.specs.Routes.{RouteValue}
use Rattle.gw_config.specs.Scripts.{ScriptValue}
use Rattle.gw_ending.specs.Ports.{Site}
use Rattle.gw_ending.specs.Finals.{IsDoneSite, AreDoneSites, IsRecordAt, lines_at}
use Rattle.gw_ending.specs.Headline.{NotRefilled, Balances}
use Rattle.gw_site.specs.Pairs.{Pairs}
use Rattle.gw_ending.specs.Reports.{NeverAgain, IsSegmentRun, lines_of, AreReportedOf, IsRouteRun, AreOrdered, RunsRoutes}
use Rattle.gw_ending.specs.Reports.{AreStartsOf}
use Rattle.gw_site.proofs.Pairs.{pair_at, pairs-map}
use Rattle.gw_opening.proofs.PlacesWhere.{place-once, places-length}

-- what each controller of a segment began, by its lines
never_again : (s : ScriptValue) (i : ℕ) (site : Site) (record_of : Record) → IsDoneSite s i site →
    IsRecordAt site record_of → NeverAgain site.segment.plan record_of.events.items
never_again s i site record_of d r k within =
    let test : ControllerValue → Bool = λ (c : ControllerValue). c.segment == i in
    let places : length (controller_places s i) ≡ length site.segment.plan.controllers.items =
    omega (arith, places-length test 0 s.controllers, length-filter test s.controllers, d.plan_is.controllers.size) in
    let controller = some_there (controller_places s i) k (omega (arith, within, places)) in
    let port = some_there site.ports.items k (omega (arith, within, places, d.ports.size)) in
    subst (λ es. StartsUndone no_bus_past (kinds_of (length site.segment.plan.talkers.items + k) es))
    (sym r.value.events_is) (d.ports.at k controller.0 port.0 controller.1 port.1).once

segment_run : (s : ScriptValue) (i : ℕ) (site : Site) (record_of : Record) → IsDoneSite s i site →
    IsRecordAt site record_of → IsSegmentRun s i record_of
segment_run s i site record_of d r = record {
  plan = site.segment.plan;
  plan_is = d.plan_is;
  run = r.run;
  whole = ap length r.value.levels_is ∙ d.made;
  copies = r.copies;
  queues = r.queues;
  once = never_again s i site record_of d r;
  requests = λ trace run k within.
      (r.copies trace run).controllers (length site.segment.plan.talkers.items + k)
      (never_again s i site record_of d r k within);
}

pub runs_segments : (s : ScriptValue) (sites : List Site) (records : List Record) → AreDoneSites s sites →
    Pairs (λ i. IsRecordAt) sites records → Pairs (λ segment said. IsSegmentRun s segment) s.segments records
runs_segments s sites records d p = record {
  at = λ i segment record_of e f. (let site = pair_at (λ j. IsRecordAt) sites records i record_of p f in
      segment_run s i site.0 record_of (d.at i segment site.0 e site.1) site.2);
  size = p.size ∙ d.size;
}

-- the records tell the lines of the segments
pub lines_reported : (sites : List Site) (records : List Record) → Pairs (λ i. IsRecordAt) sites records →
    map (λ (record_of : Record). record_of.events.items) records ≡ lines_at sites
lines_reported sites records p =
    pairs-map (λ (site : Site). site.segment.events) (λ (record_of : Record). record_of.events.items) sites records
    (record { at = λ i site record_of e f. (p.at i site record_of e f).value.events_is; size = p.size })

-- what holds of the element at each place holds of each
pub each_there : {X : Type 0} (P : X → Type 0) (xs : List X) → ((k : ℕ) (x : X) → slice_get xs k ≡ Some x → P x) →
    Each P xs
each_there P [] all = tt
each_there P (x ∷ xs) all = (all 0 x refl, each_there P xs (λ k y e. all (suc k) y e))

pub all_ordered : (room : ℕ) (s : ScriptValue) (report : Report) → RunsRoutes room s report → AreOrdered s report
all_ordered room s report p = record {
  at = λ k route r e f. (let run = p.at k route r e f in
      record { target = run.to_is.value; target_is = run.to_is.value_is; order = run.claims.order });
  size = p.size;
}

pub all_balance : (room : ℕ) (s : ScriptValue) (report : Report) → RunsRoutes room s report →
    Each Balances report.routes.items
all_balance room s report p = each_there Balances report.routes.items
    (λ k r e. (pair_at (λ place route. IsRouteRun room s (lines_of report) place route) s.routes report.routes.items k r
    p e).2.claims.sum)

-- a node that is a controller is behind the talkers
node_place : (talkers node controller : ℕ) (places : List ℕ) (b : Bool) → nat_lt node talkers ≡ b →
    cond b None (slice_get places (node - talkers)) ≡ Some controller → (talkers ≤ node)
    × (slice_get places (node - talkers) ≡ Some controller)
node_place talkers node controller places true is e = absurd (cc e)
node_place talkers node controller places false is e = (ltb-false node talkers is, e)

-- a controller is one node
one_node : (s : ScriptValue) (segment a b controller : ℕ) → controller_at s segment a ≡ Some controller →
    controller_at s segment b ≡ Some controller → a ≡ b
one_node s segment a b controller e f =
    let talkers = length (talkers_on (slice_get s.segments segment)) in
    let p = node_place talkers a controller (controller_places s segment) (nat_lt a talkers) refl e in
    let q = node_place talkers b controller (controller_places s segment) (nat_lt b talkers) refl f in
    let same = place-once (λ (c : ControllerValue). c.segment == segment) 0 s.controllers controller (a - talkers)
    (b - talkers) p.1 q.1 in
    omega (arith, same, p.0, q.0)

-- the lines tell one thing of a controller
reported_once : (s : ScriptValue) (lines : List (List Event)) (controller : ℕ) (a b : List EventKind) →
    AreReportedOf s lines controller a → AreReportedOf s lines controller b → a ≡ b
reported_once s lines controller a b p q =
    let value : p.value ≡ q.value = same_some p.value q.value (sym p.value_is ∙ q.value_is) in
    let segment : p.value.segment ≡ q.value.segment = ap (λ (c : ControllerValue). c.segment) value in
    let node : p.node ≡ q.node = one_node s q.value.segment p.node q.node controller
    (ap (λ n. controller_at s n p.node) (sym segment) ∙ p.node_is) q.node_is in
    let events : p.events ≡ q.events =
    same_some p.events q.events (sym p.events_is ∙ ap (slice_get lines) segment ∙ q.events_is) in
    p.tells_is ∙ ap (λ n. kinds_of n p.events) node ∙ ap (kinds_of q.node) events ∙ sym q.tells_is

-- and a route has one number at its target
one_number : (s : ScriptValue) (target a b place : ℕ) → route_at s target a ≡ Some place →
    route_at s target b ≡ Some place → a ≡ b
one_number s target a b place e f = place-once (λ (r : RouteValue). r.target == target) 0 s.routes place a b e f

pub none_refilled : (room : ℕ) (s : ScriptValue) (report : Report) (place : ℕ) (r : RouteReport)
    (started : List Entry) → RunsRoutes room s report → slice_get report.routes.items place ≡ Some r →
    (is : AreStartsOf s (lines_of report) place started) → NotRefilled is.route.rewrites r started
none_refilled room s report place r started p e starts =
    let run =
    pair_at (λ k route. IsRouteRun room s (lines_of report) k route) s.routes report.routes.items place r p e in
    let route : starts.route ≡ run.0 = same_some starts.route run.0 (sym starts.route_is ∙ run.1) in
    let target : starts.route.target ≡ run.0.target = ap (λ (q : RouteValue). q.target) route in
    let reported : starts.to ≡ run.2.to = reported_once s (lines_of report) run.0.target starts.to run.2.to
    (subst (λ c. AreReportedOf s (lines_of report) c starts.to) target starts.to_is) run.2.to_is in
    let number : starts.number ≡ run.2.number = one_number s run.0.target starts.number run.2.number place
    (ap (λ c. route_at s c starts.number) (sym target) ∙ starts.number_is) run.2.number_is in
    subst (λ (q : RouteValue). NotRefilled q.rewrites r started) (sym route)
    (subst (NotRefilled run.0.rewrites r)
    (sym (starts.started_is ∙ ap (λ n. entries_of n (all_in start_in starts.to)) number
    ∙ ap (λ tells. entries_of run.2.number (all_in start_in tells)) reported)) run.2.claims.no_refill)
