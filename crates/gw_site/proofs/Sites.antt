-- A bit of a segment keeps what its controllers did as the record tells it, whatever their ports are.
use Rattle.std.proofs.Common.{◌≡◌, ℕ, ◌+◌, Bool, Option, slice_get, List, [], ◌∷◌, ◌++◌, length, refl, sym, ap, subst}
use Rattle.std.proofs.Common.{arith, ◌∙◌, length-append}
use Rattle.std.proofs.lemmas.Option.{slice_get_within}
use Rattle.can_frame.specs.Frames.{FrameValue}
use Rattle.bx_core.specs.TxBus.{Item, BusPast, BusCall, no_bus_past}
use Rattle.can_station.specs.declared.event.Event.{Event}
use Rattle.can_station.specs.declared.plan.SegmentPlan.{SegmentPlan}
use Rattle.can_segment.specs.Brought.{kinds_of, all_in, taken_in, grown, StartsUndone, IsBrought}
use Rattle.can_segment.specs.Segments.{SegmentValue, Fit, MakesBit}
use Rattle.can_segment.proofs.Brought.{all-append, grown-append, starts_undone-append}
use Rattle.can_segment.proofs.LinesOfNodes.{of-append}
use Rattle.can_station.proofs.Places.{some_there, same_some}
use Rattle.can_segment.proofs.UneventfulBits.{LeftUneventfully}
use Rattle.gw_site.specs.Sites.{PortHolds, SiteHolds, PortsLeave}

module _ {P : Type 0} (after : P → BusPast → Type 0) (asked : P → List BusCall → Type 0)
    (transmitting : P → Option Item) (sink : P → List FrameValue → Type 0) (stays : P → P → Type 0) where
  port_on : (node : ℕ) (old new : SegmentValue) (lines : List Event) (wants : Bool) (sends : Option Item) (p q : P) →
      new.events ≡ old.events ++ lines → length new.levels ≡ length old.levels + 1 →
      IsBrought after asked transmitting sink stays (kinds_of node lines) wants sends p q →
      PortHolds after sink node old p → PortHolds after sink node new q
  port_on node old new lines wants sends p q es ls b h =
      let reported : kinds_of node new.events ≡ kinds_of node old.events ++ kinds_of node lines =
      ap (kinds_of node) es ∙ of-append node old.events lines in
      let took : all_in taken_in (kinds_of node new.events) ≡ all_in taken_in (kinds_of node old.events)
      ++ all_in taken_in (kinds_of node lines) =
      ap (all_in taken_in) reported ∙ all-append taken_in (kinds_of node old.events) (kinds_of node lines) in
      record {
        bus = subst (after q)
            (sym (ap (grown no_bus_past) reported ∙ grown-append no_bus_past (kinds_of node old.events)
            (kinds_of node lines))) (b.bus (grown no_bus_past (kinds_of node old.events)) h.bus);
        taken = subst (sink q) (sym took) (b.offers (all_in taken_in (kinds_of node old.events)) h.taken);
        once = subst (StartsUndone no_bus_past) (sym reported)
            (starts_undone-append no_bus_past (kinds_of node old.events) (kinds_of node lines) h.once
            (b.undone (grown no_bus_past (kinds_of node old.events)) h.bus));
        few = omega (
          arith,
          h.few,
          b.one_at_most,
          ls,
          ap length took,
          length-append (all_in taken_in (kinds_of node old.events)) (all_in taken_in (kinds_of node lines)),
        );
      }

  pub site_on : (old new : SegmentValue) (from to : List P) →
      MakesBit after asked transmitting sink stays old new from to → Fit transmitting new to →
      SiteHolds after transmitting sink old from → SiteHolds after transmitting sink new to
  site_on old new from to m fit h = record {
    fit = fit;
    each = λ k q e.
        let within = slice_get_within to k q e in
        let sends = some_there new.sending k (omega (arith, within, fit.size)) in
        let p = some_there from k (omega (arith, within, fit.size, h.fit.size, m.size)) in
        let longer : length new.levels ≡ length old.levels + 1 =
        ap length m.levels_is ∙ length-append old.levels (m.level ∷ []) in
        subst (λ n. PortHolds after sink (n + k) new q) (sym (ap (λ (pl : _). length pl.talkers.items) m.plan_is))
        (port_on (length old.plan.talkers.items + k) old new m.lines _ sends.0 p.0 q m.events_is longer
        (m.ports k sends.0 p.0 q sends.1 p.1 e) (h.each k p.0 p.1));
  }

  pub ports_leave : (old new : SegmentValue) (from to : List P) →
      MakesBit after asked transmitting sink stays old new from to → Fit transmitting new to → PortsLeave stays from to
  ports_leave old new from to m fit = record {
    at = λ k p q e f. (let within = slice_get_within to k q f in
        let sends = some_there new.sending k (omega (arith, within, fit.size)) in
        (m.ports k sends.0 p q sends.1 e f).stays_on);
    size = m.size;
  }

-- so do bits at which no port is needed
pub site_quietly : {P : Type 0} (after : P → BusPast → Type 0) (transmitting : P → Option Item)
    (sink : P → List FrameValue → Type 0) (old new : SegmentValue) (ports : List P) → LeftUneventfully old new →
    SiteHolds after transmitting sink old ports → SiteHolds after transmitting sink new ports
site_quietly after transmitting sink old new ports left h = record {
  fit = record {
    size = h.fit.size ∙ ap length (sym left.sending_is);
    transmits = λ k sends p e f. h.fit.transmits k sends p (ap (λ all. slice_get all k) (sym left.sending_is) ∙ e) f;
  };
  each = λ k port e.
      let was = h.each k port e in
      let same : kinds_of (length new.plan.talkers.items + k) new.events
      ≡ kinds_of (length old.plan.talkers.items + k) old.events = ap
      (λ (plan : SegmentPlan). kinds_of (length plan.talkers.items + k) new.events) left.plan_is
      ∙ ap (kinds_of (length old.plan.talkers.items + k)) left.events_is in
      record {
        bus = subst (λ reported. after port (grown no_bus_past reported)) (sym same) was.bus;
        taken = subst (λ reported. sink port (all_in taken_in reported)) (sym same) was.taken;
        once = subst (StartsUndone no_bus_past) (sym same) was.once;
        few = omega (arith, was.few, left.longer, ap (λ reported. length (all_in taken_in reported)) same);
      };
}

-- over no call, and over two calls
pub leave-self : {P : Type 0} (stays : P → P → Type 0) (xs : List P) → ((x : P) → stays x x) → PortsLeave stays xs xs
leave-self stays xs self =
    record { at = λ k a b e f. subst (stays a) (same_some a b (sym e ∙ f)) (self a); size = refl }

pub leave-on : {P : Type 0} (stays : P → P → Type 0) (xs ys zs : List P) →
    ((x y z : P) → stays x y → stays y z → stays x z) → PortsLeave stays xs ys → PortsLeave stays ys zs →
    PortsLeave stays xs zs
leave-on stays xs ys zs on p q = record {
  at = λ k a c e f. (let within = slice_get_within xs k a e in
      let b = some_there ys k (omega (arith, within, p.size)) in
      on a b.0 c (p.at k a b.0 e b.1) (q.at k b.0 c b.1 f));
  size = q.size ∙ p.size;
}
