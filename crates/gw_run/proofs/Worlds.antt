-- What bits and turns keep of a run.
use Rattle.std.proofs.Common.{◌≡◌, ◌==◌, Bool, true, false, cond, Option, Some, None, List, refl, ap, arith, ◌∙◌}
use Rattle.std.proofs.lemmas.Option.{slice_get_within}
use Rattle.bx_core.specs.Stands.{BusKeeps}
use Rattle.can_station.specs.Places.{AtPlaces}
use Rattle.can_station.proofs.Places.{some_there}
use Rattle.bx_controller.specs.declared.intake.Intake.{Intake}
use Rattle.gw_opening.specs.declared.lane.Lane.{Lane}
use Rattle.gw_opening.specs.declared.place.Place.{Place}
use Rattle.gw_run.specs.Ports.{Port, Site}
use Rattle.bx_controller.specs.Slots.{SameFifo}
use Rattle.gw_run.specs.Ports.{PortLeaves}
use Rattle.gw_run.specs.Sites.{SiteMoves}
use Rattle.gw_opening.specs.Places.{IsAt, slot_of, TakesFrom}
use Rattle.gw_run.specs.Worlds.{LaneHolds, WorldHolds}

-- where a port goes in one bit of all segments
pub record Moved (old new : List Site) (place : Place) (port : Port) : Type 0 where
  pub late : Port
  pub there : IsAt new place late
  pub leaves : PortLeaves port late

pub moved : (old new : List Site) (place : Place) (port : Port) → AtPlaces (λ i. SiteMoves) old new →
    IsAt old place port → Moved old new place port
moved old new place port m at =
    let within = slice_get_within old place.site at.site at.site_is in
    let late = some_there new place.site (omega (arith, within, m.size)) in
    let moves = m.at place.site at.site late.0 at.site_is late.1 in
    let inside = slice_get_within at.site.ports.items place.port port at.port_is in
    let port_late = some_there late.0.ports.items place.port (omega (arith, inside, moves.ports.size)) in
    record {
      late = port_late.0;
      there = record { site = late.0; site_is = late.1; port_is = port_late.1 };
      leaves = moves.ports.at place.port port port_late.0 at.port_is port_late.1;
    }

lane_on : (lane : Lane) (old new : Port) → BusKeeps old.mail new.mail → LaneHolds lane old → LaneHolds lane new
lane_on lane old new keeps h = record {
  in_range = omega (arith, h.in_range, keeps.routes);
  linked = (h.linked.0, keeps.stand lane.number h.linked.0 h.linked.1, h.linked.2);
}

-- the same FIFO is in the slot
slot_on : (lane : Lane) (a b : Option Intake) → SameFifo a b →
    ((intake : Intake) × (a ≡ Some intake) × (intake.rxin.queue ≡ lane.hand.out.queue)) → (intake : Intake)
    × (b ≡ Some intake) × (intake.rxin.queue ≡ lane.hand.out.queue)
slot_on lane None b same h = absurd (cc h.1)
slot_on lane (Some x) None same h = absurd same
slot_on lane (Some x) (Some y) same h = (y, refl, same ∙ ap (λ (i : Intake). i.rxin.queue) (same_intake h.1) ∙ h.2)
  where
    same_intake : {u v : Intake} → Some u ≡ Some v → u ≡ v
    same_intake e = cc e

slots : (lane : Lane) (old new : Port) (b : Bool) → SameFifo old.first new.first → SameFifo old.second new.second →
    SameFifo (cond b old.first old.second) (cond b new.first new.second)
slots lane old new true first second = first
slots lane old new false first second = second

pub takes_on : (lane : Lane) (old new : Port) → SameFifo old.first new.first → SameFifo old.second new.second →
    TakesFrom lane old → TakesFrom lane new
takes_on lane old new first second h =
    let s = slot_on lane (slot_of old lane.fifo) (slot_of new lane.fifo)
    (slots lane old new (lane.fifo == 0) first second) (h.intake, h.slot_is, h.queue_is) in
    record { intake = s.0; slot_is = s.1; queue_is = s.2 }

-- a bit of all segments
pub world_bits : (old new : List Site) (lanes : List Lane) → AtPlaces (λ i. SiteMoves) old new → WorldHolds old lanes →
    WorldHolds new lanes
world_bits old new lanes m w = record {
  each_site = λ i site e.
      let within = slice_get_within new i site e in
      let before = some_there old i (omega (arith, within, m.size)) in
      (m.at i before.0 site before.1 e).holds;
  each_lane = λ k lane e.
      let l = w.each_lane k lane e in
      let to = moved old new lane.target l.to m l.to_is in
      let from = moved old new lane.source l.from m l.from_is in
      record {
        to = to.late;
        to_is = to.there;
        holds = lane_on lane l.to to.late to.leaves.mail l.holds;
        from = from.late;
        from_is = from.there;
        takes = takes_on lane l.from from.late from.leaves.first from.leaves.second l.takes;
        log = l.log;
      };
  apart = w.apart;
}
