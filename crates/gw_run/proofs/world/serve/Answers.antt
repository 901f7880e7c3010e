use Rattle.std.proofs.Common.{rules, ◌≡◌, ◌<◌, Some, get_or, length, slice_get, refl, sym, ap, subst, arith, ◌∙◌}
use Rattle.std.proofs.lemmas.List.{length-set}
use Rattle.std.proofs.lemmas.Option.{slice_get-get_or, slice_get_within}
use Rattle.can_station.proofs.Places.{same_some, get_set_same, get_set_other}
use Rattle.std.proofs.lemmas.Result.{on_ok_weaker}
use Rattle.gw_run.specs.Ports.{Site}
use Rattle.gw_route.proofs.Idles.{full_if_filled}
use Rattle.gw_route.specs.RouteHand.{hand_value}
use Rattle.gw_run.proofs.Counted.{short_turn}
use Rattle.gw_run.proofs.Fills.{fills_alone}
use Rattle.gw_run.proofs.world.serve.Goals as goal

pub returns-then-not-is_due-clause-turns : goal.returns-then-not-is_due-clause-turns
returns-then-not-is_due-clause-turns g c =
    fills_alone c.args.sites.now c.args.lane.now c.fill.new.self c.fill.ensures.keeps c.fill.ensures.tied
    c.requires.leads

pub returns-in_err-fill-clause-turns : goal.returns-in_err-fill-clause-turns
returns-in_err-fill-clause-turns g c =
    fills_alone c.args.sites.now c.args.lane.now c.fill.new.self c.fill.ensures.keeps c.fill.ensures.tied
    c.requires.leads

pub bounds-sites-place : goal.bounds-sites-place
bounds-sites-place g c = slice_get_within c.args.sites.now c.args.lane.now.target.site c.requires.leads.to_is.site
    c.requires.leads.to_is.site_is

pub offset_bounds-sites-place : goal.offset_bounds-sites-place
offset_bounds-sites-place g c =
    let within = slice_get_within c.args.sites.now c.args.lane.now.target.site c.requires.leads.to_is.site
    c.requires.leads.to_is.site_is in
    search rules

pub index_mut-requires : goal.index_mut-requires
index_mut-requires g c =
    let sites = c.args.sites.now in
    let t = c.args.lane.now.target.site in
    let q = c.args.lane.now.target.port in
    let at = c.requires.leads.to_is in
    let found = slice_get-get_or sites t c.index-sites-place.result (slice_get_within sites t at.site at.site_is) in
    let site : Site = get_or sites t c.index-sites-place.result in
    let inside : q < length site.ports.items =
    subst (λ (s : Site). q < length s.ports.items) (same_some at.site site (sym at.site_is ∙ found))
    (slice_get_within at.site.ports.items q c.requires.leads.to at.port_is) in
    search rules

pub returns-then-not-is_due-clause-counted : goal.returns-then-not-is_due-clause-counted
returns-then-not-is_due-clause-counted g c = record {
  due = λ due. absurd (c.is_due.ensures.no c.if-not-is_due.true due);
  not_due = λ none. (
    c.fill.ensures.keeps.turns_is,
    full_if_filled (hand_value c.args.lane.now.hand) (hand_value c.fill.new.self) c.in_ok-fill.ensures.filled,
  );
}

pub returns-clause-turns : goal.returns-clause-turns
returns-clause-turns g c =
    let sites = c.args.sites.now in
    let t = c.args.lane.now.target.site in
    let q = c.args.lane.now.target.port in
    let leads = c.requires.leads in
    let within : t < length sites = slice_get_within sites t leads.to_is.site leads.to_is.site_is in
    let site : Site = get_or sites t c.index-sites-place.result in
    let found : slice_get sites t ≡ Some site = slice_get-get_or sites t c.index-sites-place.result within in
    let same : leads.to_is.site ≡ site =
    same_some leads.to_is.site site (sym leads.to_is.site_is ∙ found) in
    let inside : q < length site.ports.items = subst (λ (s : Site). q < length s.ports.items) same
    (slice_get_within leads.to_is.site.ports.items q leads.to leads.to_is.port_is) in
    record {
      at = record {
        site = site;
        late_site = _;
        port = c.index_mut.result.now;
        late = c.turns_on.new.port;
        site_is = found;
        late_site_is = get_set_same sites t _ within;
        port_is =
            slice_get-get_or site.ports.items q c.index_mut.result.now inside ∙ ap Some (sym c.index_mut.ensures.value);
        late_is = get_set_same site.ports.items q c.turns_on.new.port inside;
        other_sites = λ i ne. get_set_other sites t i _ ne;
        other_ports = λ j ne. get_set_other site.ports.items q j c.turns_on.new.port ne;
        sites_size = simp length-set refl;
        ports_size = simp length-set refl;
        segment_is = refl;
        changes = c.turns_on.ensures.port;
      };
      linked = c.turns_on.ensures.linked;
      log = c.turns_on.ensures.log;
      keeps = record {
        source_is = refl;
        fifo_is = refl;
        target_is = refl;
        number_is = refl;
        queue_is = c.turns_on.ensures.tied.0;
        size_is = c.turns_on.ensures.tied.1;
        rewrites_is = c.turns_on.ensures.tied.2;
        plan = c.turns_on.ensures.plan;
      };
    }

pub returns-clause-counted : goal.returns-clause-counted
returns-clause-counted g c = on_ok_weaker c.turns_on.result
    (λ counted. record {
      due = λ due. counted;
      not_due = λ none. absurd (none (c.is_due.ensures.yes c.if-not-is_due.false));
    }) c.turns_on.ensures.counted

pub returns-clause-short : goal.returns-clause-short
unfolding returns-clause-turns
returns-clause-short g c = on_ok_weaker c.turns_on.result
    (λ unshort h. short_turn c.args.sites.now _ c.args.lane.now _ (returns-clause-turns g c) unshort h)
    c.turns_on.ensures.short
