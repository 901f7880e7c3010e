-- Segments before the first bit, with new mailboxes at each controller.
use Rattle.std.proofs.Common.{◌≡◌, ℕ, ◌≤◌, List, length, arith}
use Rattle.std.proofs.lemmas.Option.{slice_get_within}
use Rattle.can_station.proofs.Places.{some_there}
use Rattle.gw_config.specs.Scripts.{ScriptValue}
use Rattle.gw_site.proofs.Pairs.{PairsBelow}
use Rattle.gw_opening.specs.Openings.{IsNewSite, AreNewSites, HaveMails}
use Rattle.gw_run.specs.Ports.{Site, IsNewMail}
use Rattle.gw_run.specs.Sites.{StartsSite}

site_new : (s : ScriptValue) (i : ℕ) (site : Site) → StartsSite s i site → IsNewSite s i site
site_new s i site p = record {
  plan_is = p.plan_is;
  opens = p.opens;
  ports = record { at = λ k controller port e f. (p.ports.at k controller port e f).is_new; size = p.ports.size };
}

pub new_sites : (s : ScriptValue) (sites : List Site) (i : ℕ) → length sites ≡ length s.segments →
    PairsBelow (λ j segment. StartsSite s j) s.segments sites i → AreNewSites s sites
new_sites s sites i size b =
    record { at = λ j segment site e f. site_new s j site (b.at j segment site e f); size = size }

pub have_mails : (s : ScriptValue) (sites : List Site) (i : ℕ) → i ≤ length s.segments →
    PairsBelow (λ j segment. StartsSite s j) s.segments sites i → HaveMails IsNewMail s sites
have_mails s sites i most b place port controller value at is e =
    let within = slice_get_within sites place.site at.site at.site_is in
    let said = some_there s.segments place.site (omega (arith, within, b.size, most)) in
    let starts = b.at place.site said.0 at.site said.1 at.site_is in
    (starts.ports.at place.port controller port is at.port_is).mail value e
