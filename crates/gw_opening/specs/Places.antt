-- Controllers of a run by their places, and the FIFOs that routes take from.
use Rattle.std.specs.Prelude.{◌≡◌, ◌≢◌, ℕ, ◌==◌, Option, Some, List, length, slice_get, if◌then◌else◌}
use Rattle.bx_controller.specs.declared.intake.Intake.{Intake}
use Rattle.bx_controller.specs.declared.port.Port.{Port}
use Rattle.gw_site.specs.declared.site.Site.{Site}
use Rattle.gw_opening.specs.declared.lane.Lane.{Lane}
use Rattle.gw_opening.specs.declared.place.Place.{Place}

-- the port at a place
pub record IsAt {B : Type 0} (sites : List (Site (Port B))) (place : Place) (port : Port B) : Type 0 where
  pub site : Site (Port B)
  pub site_is : slice_get sites place.site ≡ Some site
  pub port_is : slice_get site.ports.items place.port ≡ Some port

-- the FIFO of this number
abbrev pub slot_of : {B : Type 0} → Port B → ℕ → Option Intake
slot_of port fifo = if fifo == 0 then port.first else port.second

-- a route takes from the FIFO that frames come into there
pub record TakesFrom {B : Type 0} (lane : Lane) (port : Port B) : Type 0 where
  pub intake : Intake
  pub slot_is : slot_of port lane.fifo ≡ Some intake
  pub queue_is : intake.rxin.queue ≡ lane.hand.out.queue

-- the port at this place changes so, and nothing else
pub record PortChanges {B : Type 0} (Change : Port B → Port B → Type 0) (old new : List (Site (Port B)))
    (place : Place) : Type 0 where
  pub site : Site (Port B)
  pub late_site : Site (Port B)
  pub port : Port B
  pub late : Port B
  pub site_is : slice_get old place.site ≡ Some site
  pub late_site_is : slice_get new place.site ≡ Some late_site
  pub port_is : slice_get site.ports.items place.port ≡ Some port
  pub late_is : slice_get late_site.ports.items place.port ≡ Some late
  pub other_sites : (i : ℕ) → i ≢ place.site → slice_get new i ≡ slice_get old i
  pub other_ports : (j : ℕ) → j ≢ place.port → slice_get late_site.ports.items j ≡ slice_get site.ports.items j
  pub sites_size : length new ≡ length old
  pub ports_size : length late_site.ports.items ≡ length site.ports.items
  pub segment_is : late_site.segment ≡ site.segment
  pub changes : Change port late
