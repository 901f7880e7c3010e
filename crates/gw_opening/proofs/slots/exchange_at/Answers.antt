use Rattle.std.proofs.Common.{◌≡◌, ◌<◌, Some, get_or, length, slice_get, refl, sym, ap, subst, ◌∙◌}
use Rattle.std.proofs.lemmas.List.{length-set}
use Rattle.std.proofs.lemmas.Option.{slice_get-get_or, slice_get_within}
use Rattle.can_station.proofs.Places.{same_some, get_set_same, get_set_other}
use Rattle.gw_opening.specs.Places.{slot_of}
use Rattle.gw_opening.proofs.slots.exchange_at.Goals as goal

pub returns-clause-sets : goal.returns-clause-sets
returns-clause-sets g c =
    let sites = c.args.sites.now in
    let t = c.args.place.site in
    let q = c.args.place.port in
    let at = c.requires.1 in
    let within : t < length sites = slice_get_within sites t at.site at.site_is in
    let site = get_or sites t c.index-sites-place.result in
    let found : slice_get sites t ≡ Some site = slice_get-get_or sites t c.index-sites-place.result within in
    let same : at.site ≡ site = same_some at.site site (sym at.site_is ∙ found) in
    let inside : q < length site.ports.items =
    subst (λ s. q < length s.ports.items) same (slice_get_within at.site.ports.items q c.requires.0 at.port_is) in
    record {
      site = site;
      late_site = _;
      port = c.index_mut.result.now;
      late = c.exchange.new.port;
      site_is = found;
      late_site_is = get_set_same sites t _ within;
      port_is =
          slice_get-get_or site.ports.items q c.index_mut.result.now inside ∙ ap Some (sym c.index_mut.ensures.value);
      late_is = get_set_same site.ports.items q c.exchange.new.port inside;
      other_sites = λ i ne. get_set_other sites t i _ ne;
      other_ports = λ j ne. get_set_other site.ports.items q j c.exchange.new.port ne;
      sites_size = simp length-set refl;
      ports_size = simp length-set refl;
      segment_is = refl;
      changes = c.exchange.ensures.sets;
    }

pub returns-clause-was : goal.returns-clause-was
returns-clause-was g c = λ port at.
    let sites = c.args.sites.now in
    let t = c.args.place.site in
    let q = c.args.place.port in
    let within : t < length sites = slice_get_within sites t at.site at.site_is in
    let site = get_or sites t c.index-sites-place.result in
    let same : at.site ≡ site =
    same_some at.site site (sym at.site_is ∙ slice_get-get_or sites t c.index-sites-place.result within) in
    let inside : q < length site.ports.items =
    subst (λ s. q < length s.ports.items) same (slice_get_within at.site.ports.items q port at.port_is) in
    let found : slice_get site.ports.items q ≡ Some c.index_mut.result.now =
    slice_get-get_or site.ports.items q c.index_mut.result.now inside ∙ ap Some (sym c.index_mut.ensures.value) in
    let here : c.index_mut.result.now ≡ port = same_some c.index_mut.result.now port
    (sym found ∙ ap (λ s. slice_get s.ports.items q) (sym same) ∙ at.port_is) in
    c.exchange.ensures.was ∙ ap (λ p. slot_of p c.args.fifo) here
