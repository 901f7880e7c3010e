-- What is at the places of a run when one port changed, and nothing else.
use Rattle.std.proofs.Common.{◌≡◌, ◌≢◌, ℕ, ◌⊎◌, inl, inr, Some, Option, List, length, slice_get, refl, sym, ap, subst}
use Rattle.std.proofs.Common.{◌∙◌}
use Rattle.std.proofs.lemmas.Bool.Decides.{eqb_tells}
use Rattle.can_station.proofs.Places.{same_some}
use Rattle.bx_controller.specs.declared.intake.Intake.{Intake}
use Rattle.gw_opening.specs.declared.place.Place.{Place}
use Rattle.bx_controller.specs.declared.port.Port.{Port}
use Rattle.gw_site.specs.declared.site.Site.{Site}
use Rattle.gw_opening.specs.Slots.{SetsSlot}
use Rattle.gw_opening.specs.Places.{IsAt, PortChanges}

-- a place of a list of which another place may have changed
pub place_cases : {X : Type 0} (old new : List X) (at : ℕ) (was is : X) → slice_get old at ≡ Some was →
    slice_get new at ≡ Some is → ((i : ℕ) → i ≢ at → slice_get new i ≡ slice_get old i) →
    (i : ℕ) (x : X) → slice_get new i ≡ Some x → ((i ≡ at) × (x ≡ is)) ⊎ ((i ≢ at) × (slice_get old i ≡ Some x))
place_cases old new at was is eo en others i x e = elim (eqb_tells i at) [
  | inl same ↦ inl (same.1, same_some x is (sym e ∙ ap (slice_get new) same.1 ∙ en))
  | inr other ↦ inr (other.1, sym (others i other.1) ∙ e)
]

-- where a port is after another one changed: it is that one itself, or it is as before
pub data Late {B : Type 0} (Change : Port B → Port B → Type 0) (old new : List (Site (Port B))) (there : Place)
    (t : PortChanges Change old new there) (place : Place) (port : Port B) : Type 0 where
  same_port : IsAt new place port → (place ≡ there → ⊥) → Late Change old new there t place port
  changed_to : IsAt new place t.late → place ≡ there → port ≡ t.port → Late Change old new there t place port

module _ {B : Type 0} where
  pub late_of : (Change : Port B → Port B → Type 0) (old new : List (Site (Port B))) (there : Place)
      (t : PortChanges Change old new there) (place : Place) (port : Port B) → IsAt old place port →
      Late Change old new there t place port
  late_of Change old new there t place port at = elim (eqb_tells place.site there.site) [
    | inl same ↦ (let site_same : at.site ≡ t.site = same_some at.site t.site
        (sym at.site_is ∙ ap (slice_get old) same.1 ∙ t.site_is) in
        let site_late : slice_get new place.site ≡ Some t.late_site = ap (slice_get new) same.1 ∙ t.late_site_is in
        elim (eqb_tells place.port there.port) [
          | inl here ↦ changed_to (record {
            site = t.late_site;
            site_is = site_late;
            port_is = ap (slice_get t.late_site.ports.items) here.1 ∙ t.late_is;
          })
              (ap (λ s. record { site = s; port = place.port }) same.1
              ∙ ap (λ q. record { site = there.site; port = q }) here.1)
              (same_some port t.port (sym at.port_is
              ∙ ap (λ (s : Site (Port B)). slice_get s.ports.items place.port) site_same
              ∙ ap (slice_get t.site.ports.items) here.1 ∙ t.port_is))
          | inr beside ↦ same_port (record {
            site = t.late_site;
            site_is = site_late;
            port_is = t.other_ports place.port beside.1
                ∙ ap (λ (s : Site (Port B)). slice_get s.ports.items place.port) (sym site_same) ∙ at.port_is;
          })
              (λ e. beside.1 (ap (λ (q : Place). q.port) e))
        ])
    | inr other ↦ same_port (record {
      site = at.site;
      site_is = t.other_sites place.site other.1 ∙ at.site_is;
      port_is = at.port_is;
    }) (λ e. other.1 (ap (λ (q : Place). q.site) e))
  ]

-- what a port was before
pub data PortWas {B : Type 0} (Change : Port B → Port B → Type 0) (site : Site (Port B)) (there : Place) (i k : ℕ)
    (port : Port B) : Type 0 where
  same_port : slice_get site.ports.items k ≡ Some port → PortWas Change site there i k port
  changed_port : (was : Port B) → slice_get site.ports.items k ≡ Some was → Change was port →
      record { site = i; port = k } ≡ there → PortWas Change site there i k port

-- and what a segment with its ports was
pub record SiteWas {B : Type 0} (Change : Port B → Port B → Type 0) (old : List (Site (Port B))) (there : Place) (i : ℕ)
    (late : Site (Port B)) : Type 0 where
  pub site : Site (Port B)
  pub site_is : slice_get old i ≡ Some site
  pub segment_is : late.segment ≡ site.segment
  pub size : length late.ports.items ≡ length site.ports.items
  pub ports : (k : ℕ) (port : Port B) → slice_get late.ports.items k ≡ Some port → PortWas Change site there i k port

module _ {B : Type 0} where
  same_site : (Change : Port B → Port B → Type 0) (old : List (Site (Port B))) (there : Place) (i : ℕ)
      (late : Site (Port B)) → slice_get old i ≡ Some late → SiteWas Change old there i late
  same_site Change old there i late e =
      record { site = late; site_is = e; segment_is = refl; size = refl; ports = λ k port f. same_port f }

  changed_site : (Change : Port B → Port B → Type 0) (old new : List (Site (Port B))) (there : Place)
      (t : PortChanges Change old new there) → SiteWas Change old there there.site t.late_site
  changed_site Change old new there t = record {
    site = t.site;
    site_is = t.site_is;
    segment_is = t.segment_is;
    size = t.ports_size;
    ports = λ k port f. elim (place_cases t.site.ports.items t.late_site.ports.items there.port t.port t.late t.port_is
        t.late_is t.other_ports k port f) [
          | inl here ↦ changed_port t.port (ap (slice_get t.site.ports.items) here.0 ∙ t.port_is)
              (subst (Change t.port) (sym here.1) t.changes) (ap (λ j. record { site = there.site; port = j }) here.0)
          | inr beside ↦ same_port beside.1
        ];
  }

  pub site_was : (Change : Port B → Port B → Type 0) (old new : List (Site (Port B))) (there : Place)
      (t : PortChanges Change old new there) (i : ℕ) (late : Site (Port B)) → slice_get new i ≡ Some late →
      SiteWas Change old there i late
  site_was Change old new there t i late e =
      elim (place_cases old new there.site t.site t.late_site t.site_is t.late_site_is t.other_sites i late e) [
        | inl here ↦ subst (λ s. SiteWas Change old there i s) (sym here.1)
            (subst (λ n. SiteWas Change old there n t.late_site) (sym here.0) (changed_site Change old new there t))
        | inr beside ↦ same_site Change old there i late beside.1
      ]

  -- a FIFO that was put somewhere or taken leaves all mailboxes
  pub mail_after : (fifo : ℕ) (slot : Option Intake) (old new : List (Site (Port B))) (there : Place) →
      PortChanges (SetsSlot fifo slot) old new there → (place : Place) (port : Port B) → IsAt old place port →
      (late : Port B) × IsAt new place late × (late.mail ≡ port.mail)
  mail_after fifo slot old new there t place port at =
      by_late (late_of (SetsSlot fifo slot) old new there t place port at)
    where
      by_late : Late (SetsSlot fifo slot) old new there t place port → (late : Port B) × IsAt new place late
          × (late.mail ≡ port.mail)
      by_late (same_port now elsewhere) = (port, now, refl)
      by_late (changed_to now here is) = (t.late, now, t.changes.mail_is ∙ ap (λ (p : Port B). p.mail) (sym is))
