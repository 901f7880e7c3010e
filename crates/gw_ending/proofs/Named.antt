-- What a report names by place stands in the script.
use Rattle.std.proofs.Common.{◌≡◌, ℕ, ◌+◌, ◌-◌, ◌<◌, ◌==◌, inl, inr, Bool, Option, Some, None, List, [], ◌∷◌, length}
use Rattle.std.proofs.Common.{map, slice_get, refl, sym, ap, subst, arith, ◌∙◌, length-append}
use Rattle.std.proofs.lemmas.Bool.{cases_lt}
use Rattle.std.proofs.lemmas.Option.{slice_get_within}
use Rattle.std.proofs.lemmas.Bool.Decides.{eqb_tells}
use Rattle.std.proofs.lemmas.List.{length-map}
use Rattle.std.proofs.lemmas.List.Sums.{length-filter}
use Rattle.std.specs.Prelude.{IfSome, IsSomeAnd}
use Rattle.bx_core.specs.Lists.{Has}
use Rattle.bx_core.specs.declared.left.Left.{Left}
use Rattle.bx_core.specs.Ties.{NothingOf}
use Rattle.bx_core.specs.Stands.{entries_of, numbers_of, entry_on_bus}
use Rattle.bx_core.specs.TxBus.{Item, no_bus_past}
use Rattle.bx_core.proofs.Words.{has-right, each_of, has-left}
use Rattle.can_segment.specs.Brought.{kinds_of, all_in, start_in, sent_in, reaped_in, grown}
use Rattle.can_station.specs.declared.event.Event.{Event}
use Rattle.can_station.specs.declared.event.Label.{Label}
use Rattle.can_station.specs.declared.event.EventKind.{EventKind}
use Rattle.can_station.specs.declared.event.EventKind.TheVariants.{Started, Took, Completed, Lost, Error, Off, Back, Reaped}
use Rattle.can_segment.specs.declared.record.Record.{Record}
use Rattle.can_station.specs.declared.plan.Controller.{Controller}
use Rattle.can_station.specs.declared.plan.Talker.{Talker}
use Rattle.can_station.proofs.Places.{some_there}
use Rattle.gw_script.specs.declared.report.Report.{Report}
use Rattle.gw_config.specs.Controllers.{ControllerValue, controllers_on}
use Rattle.gw_script.specs.NamedPlaces.{label_of, NamesRequest, NamesEvent, NamesNodes, Names}
use Rattle.gw_config.specs.Nodes.{controller_places, controller_at, route_places, talkers_on, names_of_nodes}
use Rattle.gw_config.specs.Scripts.{ScriptValue}
use Rattle.gw_config.specs.SoundScripts.{IsSound}
use Rattle.gw_opening.specs.Openings.{IsPlaceOf}
use Rattle.gw_opening.specs.Places.{IsAt}
use Rattle.gw_opening.specs.declared.place.Place.{Place}
use Rattle.gw_opening.proofs.Openings.{segment_there}
use Rattle.gw_config.specs.Talkers.{TalkerValue}
use Rattle.gw_ending.specs.Ports.{Port, Site}
use Rattle.gw_ending.specs.Finals.{IsDonePort, IsDoneSite, AreDoneSites, IsRecordAt, reported_at}
use Rattle.gw_site.specs.Pairs.{Pairs}
use Rattle.gw_ending.proofs.Labels.{IsFair, fair_run}
use Rattle.gw_site.proofs.Pairs.{pair_at, pair_of}
use Rattle.gw_ending.proofs.Settles.{each_from}
use Rattle.gw_opening.proofs.PlacesWhere.{places-length}
use Rattle.gw_ending.proofs.RouteRuns.{controller_node}

-- what one of them names all of them name
named_by : {X : Type 0} (names : EventKind → List X) (tells : List EventKind) (one : EventKind) (x : X) → Has tells one →
    Has (names one) x → Has (all_in names tells) x
named_by names [] one x has named = absurd has
named_by names (t ∷ tells) one x (inl is) named =
    has-left (names t) (all_in names tells) x (subst (λ o. Has (names o) x) (sym is) named)
named_by names (t ∷ tells) one x (inr has) named =
    has-right (names t) (all_in names tells) x (named_by names tells one x has named)

-- a route's own among what was sent
own_entry : (xs : List Item) (x : Item) → Has xs x → Has (entries_of x.0 xs) (entry_on_bus x)
own_entry [] x has = absurd has
own_entry (y ∷ xs) x has = elim (eqb_tells y.0 x.0) [
  | inl own ↦ rw own.0 (elim has [ inl is ↦ inl (ap entry_on_bus is) | inr more ↦ inr (own_entry xs x more) ])
  | inr other ↦ rw other.0 (elim has [
    | inl is ↦ absurd (other.1 (ap (λ (z : Item). z.0) is))
    | inr more ↦ own_entry xs x more
  ])
]

own_number : (xs : List (ℕ × ℕ)) (x : ℕ × ℕ) → Has xs x → Has (numbers_of x.0 xs) x.1
own_number [] x has = absurd has
own_number (y ∷ xs) x has = elim (eqb_tells y.0 x.0) [
  | inl own ↦ rw own.0 (elim has [ inl is ↦ inl (ap (λ (z : ℕ × ℕ). z.1) is) | inr more ↦ inr (own_number xs x more) ])
  | inr other ↦ rw other.0 (elim has [
    | inl is ↦ absurd (other.1 (ap (λ (z : ℕ × ℕ). z.0) is))
    | inr more ↦ own_number xs x more
  ])
]

-- what is reported of a request is reported of its route
entry_reported : (xs : List Item) (x : Item) → Has xs x → entries_of x.0 xs ≡ [] → ⊥
entry_reported xs x has none = absurd (subst (λ es. Has es (entry_on_bus x)) none (own_entry xs x has))

never_reported : (tells : List EventKind) (left : List Left) (one : EventKind) (label : Label) →
    NothingOf label.route (grown no_bus_past tells) left → label_of one ≡ Some label → Has tells one → ⊥
never_reported tells left (Started frame None) label n is has = absurd (cc is)
never_reported tells left (Started frame (Some own)) label n is has =
    let same : own ≡ label = cc is in
    let item : Item = (label.route, label.number, frame) in
    let started = named_by start_in tells (Started frame (Some own)) item has
    (subst (λ l. Has (start_in (Started frame (Some l))) item) (sym same) (inl refl)) in
    entry_reported (all_in start_in tells) item started n.none_started
never_reported tells left (Completed start frame None) label n is has = absurd (cc is)
never_reported tells left (Completed start frame (Some own)) label n is has =
    let same : own ≡ label = cc is in
    let item : Item = (label.route, label.number, frame) in
    let sent = named_by sent_in tells (Completed start frame (Some own)) item has
    (subst (λ l. Has (sent_in (Completed start frame (Some l))) item) (sym same) (inl refl)) in
    entry_reported (all_in sent_in tells) item sent n.none_done
never_reported tells left (Reaped own) label n is has =
    let same : own ≡ label = cc is in
    let pair : ℕ × ℕ = (label.route, label.number) in
    let reaped = named_by reaped_in tells (Reaped own) pair has
    (subst (λ l. Has (reaped_in (Reaped l)) pair) (sym same) (inl refl)) in
    absurd (subst (λ ns. Has ns label.number) n.none_reaped (own_number (all_in reaped_in tells) pair reaped))
never_reported tells left (Took start frame) label n is has = absurd (cc is)
never_reported tells left (Lost start) label n is has = absurd (cc is)
never_reported tells left (Error kind) label n is has = absurd (cc is)
never_reported tells left Off label n is has = absurd (cc is)
never_reported tells left Back label n is has = absurd (cc is)

-- a line tells of its node
reported_there : (events : List Event) (event : Event) → Has events event → Has (kinds_of event.node events) event.kind
reported_there [] event has = absurd has
reported_there (e ∷ events) event has = elim (eqb_tells e.node event.node) [
  | inl own ↦ rw own.0 (elim has [
    | inl is ↦ inl (ap (λ (x : Event). x.kind) is)
    | inr more ↦ inr (reported_there events event more)
  ])
  | inr other ↦ rw other.0 (elim has [
    | inl is ↦ absurd (other.1 (ap (λ (x : Event). x.node) is))
    | inr more ↦ reported_there events event more
  ])
]

names_count : (s : ScriptValue) (i : ℕ) (site : Site) → IsDoneSite s i site →
    length (names_of_nodes s i) ≡ length site.segment.plan.talkers.items + length site.segment.plan.controllers.items
names_count s i site d =
    let talkers = talkers_on (slice_get s.segments i) in
    omega (
      arith,
      length-append (map (λ (t : TalkerValue). t.name) talkers)
          (map (λ (c : ControllerValue). c.name) (controllers_on i s.controllers)),
      length-map talkers (λ (t : TalkerValue). t.name),
      length-map (controllers_on i s.controllers) (λ (c : ControllerValue). c.name),
      d.plan_is.talkers.size,
      d.plan_is.controllers.size,
    )

ports_count : (s : ScriptValue) (i : ℕ) (site : Site) → IsDoneSite s i site →
    length (controller_places s i) ≡ length site.segment.plan.controllers.items
ports_count s i site d =
    let test : ControllerValue → Bool = λ (c : ControllerValue). c.segment == i in
    omega (arith, places-length test 0 s.controllers, length-filter test s.controllers, d.plan_is.controllers.size)

-- the controller at a place is one of few nodes
pub few_nodes : (s : ScriptValue) (sites : List Site) (controller : ℕ) (place : Place) (port : Port) → IsSound s →
    AreDoneSites s sites → IsPlaceOf s controller place → IsAt sites place port →
    length (talkers_on (slice_get s.segments place.site)) + place.port < 65
few_nodes s sites controller place port sound done is at =
    let made = pair_at (λ i segment. IsDoneSite s i) s.segments sites place.site at.site done at.site_is in
    let within = slice_get_within (controller_places s place.site) place.port controller is in
    let few = sound.few_nodes place.site (segment_there s controller place sound is) in
    omega (
      arith,
      few,
      within,
      names_count s place.site at.site made.2,
      ports_count s place.site at.site made.2,
      made.2.plan_is.talkers.size,
    )

-- a request of a controller's node is one of a route into it
request_named : (s : ScriptValue) (i p : ℕ) (site : Site) (record_of : Record) (event : Event) (label : Label) →
    IsDoneSite s i site → IsRecordAt site record_of → Has record_of.events.items event →
    event.node ≡ length site.segment.plan.talkers.items + p → p < length site.segment.plan.controllers.items →
    label_of event.kind ≡ Some label → NamesRequest s i event.node label
request_named s i p site record_of event label d r has node within is =
    let controller = some_there (controller_places s i) p (omega (arith, within, ports_count s i site d)) in
    let port = pair_of (λ k controller. IsDonePort s controller (reported_at site k) (length site.segment.levels))
    (controller_places s i) site.ports.items p controller.0 d.ports controller.1 in
    let reported : Has (kinds_of (length site.segment.plan.talkers.items + p) site.segment.events) event.kind =
    subst (λ n. Has (kinds_of n site.segment.events) event.kind) node
    (subst (λ es. Has (kinds_of event.node es) event.kind) r.value.events_is
    (reported_there record_of.events.items event has)) in
    let at : controller_at s i event.node ≡ Some controller.0 = ap (controller_at s i)
    (node ∙ ap (λ n. n + p) d.plan_is.talkers.size) ∙ controller_node s i p controller.0 controller.1 in
    let below : label.route < length (route_places s controller.0) =
    elim (cases_lt label.route (length (route_places s controller.0))) [
      | inl less ↦ less
      | inr beyond ↦ absurd (never_reported (reported_at site p) port.0.mail.left.items event.kind label
          (port.2.unasked label.route beyond) is reported)
    ] in
    subst (λ o. IsSomeAnd o (λ c. label.route < length (route_places s c))) (sym at) below

event_named : (s : ScriptValue) (i : ℕ) (site : Site) (record_of : Record) (event : Event) → IsDoneSite s i site →
    IsRecordAt site record_of → Has record_of.events.items event → IsFair site.segment.plan event → NamesEvent s i event
event_named s i site record_of event d r has fair = record {
  node = omega (arith, fair.node, names_count s i site d);
  request = by_label (label_of event.kind) refl;
}
  where
    by_label : (o : Option Label) → label_of event.kind ≡ o → IfSome o (NamesRequest s i event.node)
    by_label None is = tt
    by_label (Some label) is = elim (cases_lt event.node (length site.segment.plan.talkers.items)) [
      | inl talker ↦ (let none = fair.talker talker in absurd (cc (sym none ∙ is)))
      | inr behind ↦ request_named s i (event.node - length site.segment.plan.talkers.items) site record_of event label
          d r has (omega (arith, behind)) (omega (arith, behind, fair.node)) is
    ]

pub nodes_named : (s : ScriptValue) (i : ℕ) (site : Site) (record_of : Record) → IsDoneSite s i site →
    IsRecordAt site record_of → NamesNodes s i record_of
nodes_named s i site record_of d r = record {
  events = each_from (NamesEvent s i) record_of.events.items
      (λ event has. event_named s i site record_of event d r has
      (each_of (IsFair site.segment.plan) record_of.events.items event
      (fair_run site.segment.plan r.run.run).lines has));
  counters = omega (
    arith,
    r.run.size,
    length-append (map (λ (t : Talker). t.on) site.segment.plan.talkers.items)
        (map (λ (c : Controller). c.on) site.segment.plan.controllers.items),
    length-map site.segment.plan.talkers.items (λ (t : Talker). t.on),
    length-map site.segment.plan.controllers.items (λ (c : Controller). c.on),
    names_count s i site d,
  );
}

pub all_named : (s : ScriptValue) (sites : List Site) (report : Report) → AreDoneSites s sites →
    Pairs (λ i. IsRecordAt) sites report.segments.items → length report.routes.items ≡ length s.routes → Names s report
all_named s sites report d p routes = record {
  segments = p.size ∙ d.size;
  records =
      λ place record_of e. (let site = pair_at (λ i. IsRecordAt) sites report.segments.items place record_of p e in
      let said = pair_at (λ i segment. IsDoneSite s i) s.segments sites place site.0 d site.1 in
      nodes_named s place site.0 record_of said.2 site.2);
  routes = routes;
}
