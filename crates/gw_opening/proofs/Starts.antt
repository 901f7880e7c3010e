-- Before the first bit a segment stands as each bit keeps it, whatever the mailboxes of its controllers are.
use Rattle.std.proofs.Common.{◌≡◌, ℕ, ◌+◌, ◌≤◌, ◌==◌, Bool, Option, Some, None, List, [], ◌∷◌, length, slice_get, sym}
use Rattle.std.proofs.Common.{subst, arith, ◌∙◌}
use Rattle.std.proofs.lemmas.List.Sums.{length-filter}
use Rattle.bx_core.specs.Lists.{Each}
use Rattle.bx_core.specs.TxBus.{Item, BusPast, no_bus_past}
use Rattle.bx_rx.specs.Bank.{BankValue}
use Rattle.bx_rx.specs.declared.rx_frame.RxFrame.{RxFrame}
use Rattle.can_segment.specs.Brought.{kinds_of, all_in, taken_in, grown, StartsUndone}
use Rattle.can_segment.specs.Segments.{SegmentValue}
use Rattle.can_station.specs.declared.event.Event.{Event}
use Rattle.bx_controller.proofs.Intakes.{left-length}
use Rattle.bx_controller.specs.Intakes.GoTo.{nothing}
use Rattle.bx_controller.specs.Ports.{SinkStands}
use Rattle.bx_controller.specs.Slots.{SlotStands, IsNumbered}
use Rattle.bx_controller.specs.declared.intake.Intake.{Intake}
use Rattle.bx_controller.specs.declared.port.Port.{Port}
use Rattle.gw_config.specs.Controllers.{ControllerValue}
use Rattle.gw_config.specs.Nodes.{controller_places}
use Rattle.gw_config.specs.Scripts.{ScriptValue}
use Rattle.gw_route.specs.RouteHand.{frames_of}
use Rattle.gw_site.proofs.Pairs.{pair_at}
use Rattle.gw_site.specs.Sites.{PortHolds, SiteHolds}
use Rattle.gw_site.specs.declared.site.Site.{Site}
use Rattle.gw_opening.specs.Openings.{IsEmptySlot, IsNewPort, IsNewSite}
use Rattle.gw_opening.proofs.PlacesWhere.{places-length}

none_stored : (P : RxFrame → Type 0) (xs : List RxFrame) (n : ℕ) → 0 ≡ length (frames_of xs) + n → Each P xs
none_stored P [] n e = tt
none_stored P (x ∷ xs) n e = absurd (omega (arith, e))

-- a FIFO that was offered nothing
slot_starts : (banks : List BankValue) (fifo : ℕ) (slot : Option Intake) → IsEmptySlot slot →
    SlotStands banks fifo slot []
slot_starts banks fifo None empty = tt
slot_starts banks fifo (Some intake) empty = record {
  offered = [];
  goes = nothing;
  stands = empty;
  numbered = none_stored (IsNumbered banks fifo) intake.rxin.stored intake.overrun (left-length empty.stored_is);
}

module _ {B : Type 0} (after : B → BusPast → Type 0) (transmitting : B → Option Item) where
  port_starts : (s : ScriptValue) (controller node : ℕ) (segment : SegmentValue) (port : Port B) → segment.events ≡ [] →
      IsNewPort s controller port → after port.mail no_bus_past →
      PortHolds (λ (p : Port B) past. after p.mail past) SinkStands node segment port
  port_starts s controller node segment port none p new = record {
    bus = subst (λ (es : List Event). after port.mail (grown no_bus_past (kinds_of node es))) (sym none) new;
    taken = subst (λ (es : List Event). SinkStands port (all_in taken_in (kinds_of node es))) (sym none) (λ few. record {
      first = slot_starts port.banks 0 port.first p.first;
      second = slot_starts port.banks 1 port.second p.second;
    });
    once = subst (λ (es : List Event). StartsUndone no_bus_past (kinds_of node es)) (sym none) tt;
    few = subst (λ (es : List Event). length (all_in taken_in (kinds_of node es)) ≤ length segment.levels) (sym none)
        (omega arith);
  }

  -- there is a port for each controller of the plan
  ports_count : (s : ScriptValue) (i : ℕ) (site : Site (Port B)) → IsNewSite s i site →
      length site.ports.items ≡ length site.segment.sending
  ports_count s i site n =
      let test : ControllerValue → Bool = λ (c : ControllerValue). c.segment == i in
      omega (
        arith,
        n.ports.size,
        places-length test 0 s.controllers,
        length-filter test s.controllers,
        n.plan_is.controllers.size,
        n.opens.one_each,
      )

  pub site_starts : (s : ScriptValue) (i : ℕ) (site : Site (Port B)) → IsNewSite s i site →
      ((k : ℕ) (port : Port B) → slice_get site.ports.items k ≡ Some port → after port.mail no_bus_past) →
      ((k : ℕ) (port : Port B) → slice_get site.ports.items k ≡ Some port → transmitting port.mail ≡ None) →
      SiteHolds (λ (p : Port B) past. after p.mail past) (λ (p : Port B). transmitting p.mail) SinkStands site.segment
      site.ports.items
  site_starts s i site n new idle = record {
    fit = record {
      size = ports_count s i site n;
      transmits = λ k sends port e f. idle k port f ∙ sym (n.opens.idle k sends e);
    };
    each =
        λ k port e. (let made = pair_at (λ j. IsNewPort s) (controller_places s i) site.ports.items k port n.ports e in
        port_starts s made.0 (length site.segment.plan.talkers.items + k) site.segment port n.opens.no_events made.2
        (new k port e));
  }
