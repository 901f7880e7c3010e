-- What stands of the nodes of a segment stands of those for which they stand while some rest.
use Rattle.std.proofs.Common.{◌≡◌, ℕ, ◌+◌, ◌≤◌, Bool, List, [], ◌∷◌, ◌++◌, length, refl, sym, ap, subst, arith, ◌∙◌}
use Rattle.std.proofs.lemmas.Option.{slice_get_within}
use Rattle.can_confinement.specs.declared.counters.Counters.{Counters}
use Rattle.can_station.specs.declared.event.Event.{Event}
use Rattle.can_station.specs.declared.event.EventKind.{EventKind}
use Rattle.can_station.specs.declared.action.Action.{Action}
use Rattle.can_station.specs.declared.member.Member.{Member}
use Rattle.can_station.specs.declared.plan.SegmentPlan.{SegmentPlan}
use Rattle.can_segment.specs.declared.record.Record.{Record}
use Rattle.can_segment.specs.declared.deferred.Deferred.{Deferred}
use Rattle.can_segment.specs.Kept.{SegmentKept, StandsBehind}
use Rattle.can_station.specs.DeferredNodes.{AreAlike, IsAlike, LeavesDeferred, NoneDeferred}
use Rattle.can_segment.specs.DeferredState.{materialized}
use Rattle.can_segment.specs.Segments.{AreFrom, AreFromDeferred, SegmentHolds}
use Rattle.can_station.specs.Lines.{lines}
use Rattle.can_station.specs.Tellings.{bit_lines, rest_by, start_of, events_by}
use Rattle.can_segment.specs.Traces.{Bit}
use Rattle.can_station.proofs.Places.{some_there}
use Rattle.can_segment.proofs.DeferredState.{members_length, real_at, whole_at}
use Rattle.can_segment.proofs.Resumed.{none_deferred_at}

-- what is reported of nodes
reported_whole : (tells : Action → List EventKind) (bit node : ℕ) (deferred : Deferred) (at : ℕ) (members : List Member) →
    events_by tells bit node (materialized deferred at members) ≡ events_by tells bit node members
unfolding events_by
reported_whole tells bit node deferred at [] = refl
reported_whole tells bit node deferred at (m ∷ members) =
    ap (λ es. lines bit node (tells m.action) ++ es) (reported_whole tells bit (node + 1) deferred at members)

pub lines_whole : (bit : ℕ) (deferred : Deferred) (at : ℕ) (t c : List Member) →
    bit_lines bit (materialized deferred at t) (materialized deferred at c) ≡ bit_lines bit t c
lines_whole bit deferred at t c =
    let wt = materialized deferred at t in
    let wc = materialized deferred at c in
    ap (λ n. (events_by start_of bit 0 wt ++ events_by start_of bit n wc)
    ++ (events_by rest_by bit 0 wt ++ events_by rest_by bit n wc)) (members_length deferred at t)
    ∙ ap (λ es. (es ++ events_by start_of bit (length t) wc)
    ++ (events_by rest_by bit 0 wt ++ events_by rest_by bit (length t) wc)) (reported_whole start_of bit 0 deferred at t)
    ∙ ap (λ es. (events_by start_of bit 0 t ++ es) ++ (events_by rest_by bit 0 wt ++ events_by rest_by bit (length t) wc))
    (reported_whole start_of bit (length t) deferred at c)
    ∙ ap (λ es. (events_by start_of bit 0 t ++ events_by start_of bit (length t) c)
    ++ (es ++ events_by rest_by bit (length t) wc)) (reported_whole rest_by bit 0 deferred at t)
    ∙ ap (λ es. (events_by start_of bit 0 t ++ events_by start_of bit (length t) c) ++ (events_by rest_by bit 0 t ++ es))
    (reported_whole rest_by bit (length t) deferred at c)

-- counters that are shown
pub from_real : (first : ℕ) (deferred : Deferred) (at : ℕ) (members : List Member) (counters : List Counters) →
    AreFrom first members counters → AreFrom first (materialized deferred at members) counters
from_real first deferred at members counters h k x shown e f =
    let m = real_at deferred at members k x e in
    h k m.0 shown m.1 f ∙ sym m.2.counters_are

pub from_whole : (first : ℕ) (deferred : Deferred) (at : ℕ) (members : List Member) (counters : List Counters) →
    AreFrom first (materialized deferred at members) counters → AreFrom first members counters
from_whole first deferred at members counters h k m shown e f =
    let x = whole_at deferred at members k m e in
    h k x.0 shown x.1 f ∙ x.2.counters_are

pub from_left : (first : ℕ) (old new : List Member) (counters : List Counters) → AreFrom first old counters →
    LeavesDeferred old new → AreFromDeferred first new counters
from_left first old new counters h left k m shown is e f = h k m shown (left k m e is) f

pub from_alike : (first : ℕ) (old new : List Member) (counters : List Counters) → AreAlike old new →
    AreFrom first old counters → AreFrom first new counters
from_alike first old new counters alike h k m shown e f =
    let x = some_there old k (let within = slice_get_within new k m e in omega (arith, within, alike.size)) in
    h k x.0 shown x.1 f ∙ sym (alike.at k x.0 m x.1 e).counters_are

-- nodes in place of others between two bits
behind_alike : (on k : ℕ) (trace : List Bit) (old new : Member) → IsAlike old new → StandsBehind on k trace old →
    StandsBehind on k trace new
behind_alike on k trace old new alike h = record {
  on_is = alike.on_is ∙ h.on_is;
  stands = alike.stands _ h.stands;
  sending_is = alike.sending_is ∙ h.sending_is;
  completed_is = alike.completed_is ∙ h.completed_is;
  bit_is = alike.bit_is ∙ h.bit_is;
  uneventful = λ early. alike.uneventful (h.uneventful early);
}

pub kept_alike : (plan : SegmentPlan) (levels : List Bool) (events : List Event) (t0 t1 c0 c1 : List Member) →
    AreAlike t0 t1 → AreAlike c0 c1 → SegmentKept plan levels events t0 c0 → SegmentKept plan levels events t1 c1
kept_alike plan levels events t0 t1 c0 c1 talkers controllers h = record {
  trace = h.trace;
  run = h.run;
  stands = record {
    talkers_size = talkers.size ∙ h.stands.talkers_size;
    controllers_size = controllers.size ∙ h.stands.controllers_size;
    talkers_stand = λ k talker m e f.
        let x = some_there t0 k (let within = slice_get_within t1 k m f in omega (arith, within, talkers.size)) in
        behind_alike talker.on k h.trace x.0 m (talkers.at k x.0 m x.1 f) (h.stands.talkers_stand k talker x.0 e x.1);
    controllers_stand = λ k controller m e f.
        let x = some_there c0 k (let within = slice_get_within c1 k m f in omega (arith, within, controllers.size)) in
        behind_alike controller.on (length plan.talkers.items + k) h.trace x.0 m (controllers.at k x.0 m x.1 f)
        (h.stands.controllers_stand k controller x.0 e x.1);
  };
}

-- what a segment holds behind a bit, when nodes may have been deferred
pub holds_alike : (plan : SegmentPlan) (made : Record) (t0 t1 c0 c1 : List Member) → AreAlike t0 t1 → AreAlike c0 c1 →
    SegmentKept plan made.levels.items made.events.items t0 c0 → length t0 + length c0 ≤ 64 →
    length made.counters.items ≡ length t0 + length c0 → AreFrom 0 t0 made.counters.items →
    AreFrom (length t0) c0 made.counters.items → SegmentHolds plan made t1 c1
holds_alike plan made t0 t1 c0 c1 talkers controllers kept few size talkers_shown controllers_shown = record {
  kept = kept_alike plan made.levels.items made.events.items t0 t1 c0 c1 talkers controllers kept;
  few = omega (arith, few, talkers.size, controllers.size);
  size = omega (arith, size, talkers.size, controllers.size);
  talkers_shown = from_alike 0 t0 t1 made.counters.items talkers talkers_shown;
  controllers_shown = subst (λ n. AreFrom n c1 made.counters.items) (sym talkers.size)
      (from_alike (length t0) c0 c1 made.counters.items controllers controllers_shown);
}

-- where none is deferred, the nodes themselves are meant
pub holds_active : (plan : SegmentPlan) (made : Record) (deferred : Deferred) (bit : ℕ) (t c : List Member) →
    NoneDeferred t →
    NoneDeferred c → SegmentHolds plan made t c → SegmentHolds plan made (materialized deferred bit t) (materialized
    deferred bit c)
holds_active plan made deferred bit t c active active_too h =
    subst (λ ms. SegmentHolds plan made ms (materialized deferred bit c)) (sym (none_deferred_at
    deferred.shared_receiver bit t active))
    (subst (SegmentHolds plan made t) (sym (none_deferred_at deferred.shared_receiver bit c active_too)) h)
