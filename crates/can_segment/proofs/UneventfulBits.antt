-- A segment behind a bit at which all nodes were deferred, or all but one that sent on.
use Rattle.std.proofs.Common.{◌≡◌, ℕ, ◌+◌, ◌<◌, ◌≤◌, ◌++◌, ◌∷◌, [], Bool, Some, List, length, slice_get, refl, sym, ap}
use Rattle.std.proofs.Common.{subst, arith, ◌∙◌, length-append}
use Rattle.std.proofs.lemmas.List.{append-nil, length-map}
use Rattle.can_station.specs.declared.event.Event.{Event}
use Rattle.can_station.specs.declared.member.Member.{Member}
use Rattle.can_station.specs.declared.plan.SegmentPlan.{SegmentPlan}
use Rattle.can_segment.specs.declared.record.Record.{Record}
use Rattle.can_segment.specs.declared.deferred.Deferred.{Deferred}
use Rattle.can_station.specs.declared.current_faults.CurrentFaults.{CurrentFaults}
use Rattle.can_station.specs.CurrentFaults.{IsFaultless, IsCurrent}
use Rattle.can_segment.specs.Kept.{SegmentKept}
use Rattle.can_station.specs.Members.{Samples, SamplesAndSettles}
use Rattle.can_segment.specs.Moves.{NodesMove}
use Rattle.can_station.specs.Ports.{item_of}
use Rattle.can_segment.specs.DeferredState.{DeferredHolds, IsUneventfulBit, materialized}
use Rattle.can_station.specs.DeferredNodes.{TransmitsAll}
use Rattle.can_segment.specs.Segments.{AreFrom, ListsHold, SegmentHolds, SegmentValue, sending_of_all}
use Rattle.can_confinement.specs.declared.counters.Counters.{Counters}
use Rattle.can_station.specs.Tellings.{bit_lines}
use Rattle.can_segment.specs.UneventfulBits.{GrowsUneventfully, MakesUneventfulBit, MakeUneventfulBits}
use Rattle.can_segment.specs.UneventfulBits.MakeUneventfulBits.{no_bit, one_more}
use Rattle.can_segment.proofs.Keeps.{kept_on}
use Rattle.can_station.proofs.Places.{same_some}
use Rattle.can_segment.proofs.Uneventful.{uneventful_lines}
use Rattle.can_segment.proofs.DeferredState.{members_length}
use Rattle.can_segment.proofs.Shown.{map_there}
use Rattle.can_segment.proofs.SingleBit.{controllers_settle_alone, controllers_start_alone, level_alone}
use Rattle.can_segment.proofs.SingleBit.{uneventful_alone}
use Rattle.can_segment.proofs.SingleBit.{deferred_alone, shown_alone, talkers_sample_alone, talkers_start_alone}
use Rattle.can_segment.proofs.Wholes.{from_real, from_whole}
use Rattle.can_station.specs.Actions.{AreUneventful}

-- what all nodes do at such a bit, whatever their ports are
nodes_move_alone : (plan : SegmentPlan) (bit : ℕ) (level : Bool) (old new : Deferred) (t0 t1 c0 c1 : List Member) →
    IsUneventfulBit bit level old new t0 t1 c0 c1 → DeferredHolds old bit plan.talkers.items t0 c0 → IsFaultless plan
    bit →
    NodesMove plan bit level (materialized old bit t0) (materialized new (bit + 1) t1) (materialized old bit c0)
    (materialized new (bit + 1) c1)
nodes_move_alone plan bit level old new t0 t1 c0 c1 h is_deferred faultless =
    let whole = materialized old bit c0 in
    let ports = sending_of_all whole in
    let port : (k : ℕ) (m : Member) → slice_get whole k ≡ Some m → slice_get ports k
    ≡ Some (item_of m.station.sending) =
    λ k m e. map_there (λ member. item_of member.station.sending) whole k m e in
    let sends : TransmitsAll (λ p. p) whole ports =
    λ k m p e f. same_some p (item_of m.station.sending) (sym f ∙ port k m e) in
    let sizes = length-map whole (λ member. item_of member.station.sending) ∙ members_length old bit c0 in
    let starts = controllers_start_alone (λ p past. Unit {0}) (λ p calls. Unit {0}) (λ p. p)
    (λ p q. Unit {0}) plan.talkers.items bit level old new t0 t1 c0 c1 ports (λ p. tt) h is_deferred sends sizes in
    let settles = controllers_settle_alone (λ p past. Unit {0}) (λ p calls. Unit {0}) (λ p. p) (λ p past. Unit {0})
    (λ p q. Unit {0}) plan.talkers.items bit level old new t0 t1 c0 c1 ports (λ p. tt) h is_deferred sends sizes in
    let samples = talkers_sample_alone plan.talkers.items bit level old new t0 t1 c0 c1 h is_deferred in
    record {
      t1 = materialized old bit t0;
      c1 = whole;
      starts = talkers_start_alone plan.talkers.items bit level old new t0 t1 c0 c1 h is_deferred;
      samples = record {
        at = λ k a b e f. subst (λ l. Samples bit l a b) (sym (faultless.nodes k level))
            (samples.at k a b e f);
        size = samples.size;
      };
      controls = record {
        starts = λ k a b ea eb. (starts.at k a b _ _ ea eb (port k a ea) (port k a ea)).member;
        settles = λ k a b ea eb. subst (λ l. SamplesAndSettles bit l a b)
            (sym (faultless.nodes (length plan.talkers.items + k) level))
            (settles.at k a b _ _ ea eb (port k a ea) (port k a ea)).member;
        mid_size = refl;
        after_size = settles.size;
      };
      level_is = level_alone plan.talkers.items bit level old new t0 t1 c0 c1 h is_deferred ∙ sym (faultless.line _);
    }

-- nothing is reported, and the nodes stand behind one bit more
pub record KeptUneventfully (plan : SegmentPlan) (levels : List Bool) (events : List Event) (level : Bool) (new :
    Deferred)
    (t c : List Member) : Type 0 where
  pub no_lines : bit_lines (length levels) (materialized new (length levels + 1) t) (materialized new (length levels +
      1) c)
      ≡ []
  pub kept : SegmentKept plan (levels ++ level ∷ []) events (materialized new (length levels + 1) t)
      (materialized new (length levels + 1) c)

pub kept_so : (plan : SegmentPlan) (levels : List Bool) (events : List Event) (level : Bool) (old new : Deferred)
    (t0 t1 c0 c1 : List Member) →
    SegmentKept plan levels events (materialized old (length levels) t0) (materialized old (length levels) c0) →
    length levels < plan.bits →
    NodesMove plan (length levels) level (materialized old (length levels) t0) (materialized new (length levels + 1) t1)
    (materialized old (length levels) c0) (materialized new (length levels + 1) c1) →
    AreUneventful (length levels) (materialized new (length levels + 1) t1)
    × AreUneventful (length levels) (materialized new (length levels + 1) c1) → KeptUneventfully plan levels events
    level new t1 c1
kept_so plan levels events level old new t0 t1 c0 c1 kept still moves uneventful =
    let bit = length levels in
    let talkers = materialized new (bit + 1) t1 in
    let controllers = materialized new (bit + 1) c1 in
    let next = kept_on plan levels events bit level (materialized old bit t0) talkers
    (materialized old bit c0) controllers kept refl still moves in
    let none = uneventful_lines plan (levels ++ level ∷ []) (events ++ bit_lines bit talkers controllers) bit talkers
    controllers next (length-append levels (level ∷ []) ∙ omega arith) uneventful.0 uneventful.1 in
    record {
      no_lines = none;
      kept = subst (λ es. SegmentKept plan (levels ++ level ∷ []) es talkers controllers)
          (ap (λ ls. events ++ ls) none ∙ append-nil events) next;
    }

pub kept_uneventfully : (plan : SegmentPlan) (levels : List Bool) (events : List Event) (level : Bool) (old new :
    Deferred)
    (t0 t1 c0 c1 : List Member) →
    SegmentKept plan levels events (materialized old (length levels) t0) (materialized old (length levels) c0) →
    length levels < plan.bits → IsUneventfulBit (length levels) level old new t0 t1 c0 c1 →
    DeferredHolds old (length levels) plan.talkers.items t0 c0 → IsFaultless plan (length levels) →
    KeptUneventfully plan levels events level new t1 c1
kept_uneventfully plan levels events level old new t0 t1 c0 c1 kept still h is_deferred faultless =
    let bit = length levels in
    kept_so plan levels events level old new t0 t1 c0 c1 kept still
    (nodes_move_alone plan bit level old new t0 t1 c0 c1 h is_deferred faultless)
    (uneventful_alone plan.talkers.items bit level old new t0 t1 c0 c1 h is_deferred)

-- counters that are shown of these nodes stay shown
abbrev pub StayShown : List Counters → List Member → List Member → Type 0
StayShown counters old new = (first : ℕ) → AreFrom first old counters → AreFrom first new counters

-- and all else stands as it stood
pub holds_so : (plan : SegmentPlan) (levels : List Bool) (events : List Event) (counters : List Counters)
    (level : Bool) (old new : Deferred) (t0 t1 c0 c1 : List Member) →
    ListsHold plan levels events counters (materialized old (length levels) t0) (materialized old (length levels) c0) →
    KeptUneventfully plan levels events level new t1 c1 → StayShown counters t0 t1 → StayShown counters c0 c1 →
    ListsHold plan (levels ++ level ∷ []) events counters (materialized new (length levels + 1) t1)
    (materialized new (length levels + 1) c1)
holds_so plan levels events counters level old new t0 t1 c0 c1 held uneventful shown shown_too =
    let bit = length levels in
    let talkers = materialized new (bit + 1) t1 in
    let before = held.kept.stands in
    let behind = uneventful.kept.stands in
    let size : length (materialized old bit t0) ≡ length talkers = before.talkers_size ∙ sym behind.talkers_size in
    record {
      kept = uneventful.kept;
      few = omega (
        arith,
        held.few,
        before.talkers_size,
        before.controllers_size,
        behind.talkers_size,
        behind.controllers_size,
      );
      size = omega (
        arith,
        held.size,
        before.talkers_size,
        before.controllers_size,
        behind.talkers_size,
        behind.controllers_size,
      );
      talkers_shown = from_real 0 new (bit + 1) t1 counters
          (shown 0 (from_whole 0 old bit t0 counters held.talkers_shown));
      controllers_shown = from_real (length talkers) new (bit + 1) c1 counters
          (shown_too (length talkers) (subst (λ n. AreFrom n c0 counters) size
          (from_whole (length (materialized old bit t0)) old bit c0 counters held.controllers_shown)));
    }

pub holds_uneventfully : (plan : SegmentPlan) (levels : List Bool) (events : List Event) (counters : List Counters)
    (level : Bool) (old new : Deferred) (t0 t1 c0 c1 : List Member) →
    ListsHold plan levels events counters (materialized old (length levels) t0) (materialized old (length levels) c0) →
    KeptUneventfully plan levels events level new t1 c1 → IsUneventfulBit (length levels) level old new t0 t1 c0 c1 →
    DeferredHolds old (length levels) plan.talkers.items t0 c0 →
    ListsHold plan (levels ++ level ∷ []) events counters (materialized new (length levels + 1) t1)
    (materialized new (length levels + 1) c1)
holds_uneventfully plan levels events counters level old new t0 t1 c0 c1 held uneventful h is_deferred =
    let talkers : StayShown counters t0 t1 =
    λ first. (shown_alone first plan.talkers.items (length levels) level old new t0 t1 c0 c1 counters h is_deferred).0
    in
    let controllers : StayShown counters c0 c1 =
    λ first. (shown_alone first plan.talkers.items (length levels) level old new t0 t1 c0 c1 counters h is_deferred).1
    in
    holds_so plan levels events counters level old new t0 t1 c0 c1 held uneventful talkers controllers

-- so the record that grew quietly is that of a run, behind which all stands,
pub grown_kept : (plan : SegmentPlan) (faults : CurrentFaults) (made next : Record) (old new : Deferred)
    (t0 t1 c0 c1 : List Member) (h : GrowsUneventfully faults made next old new t0 t1 c0 c1) →
    SegmentHolds plan made (materialized old (length made.levels.items) t0)
    (materialized old (length made.levels.items) c0) → length made.levels.items < plan.bits →
    IsCurrent plan (length made.levels.items) faults →
    DeferredHolds old (length made.levels.items) plan.talkers.items t0 c0 →
    KeptUneventfully plan made.levels.items made.events.items h.level new t1 c1
grown_kept plan faults made next old new t0 t1 c0 c1 h holds still stands is_deferred =
    kept_uneventfully plan made.levels.items made.events.items h.level old new t0 t1 c0 c1 holds.kept still h.sends
    is_deferred
    (h.faultless plan stands)

pub grown_holds : (plan : SegmentPlan) (faults : CurrentFaults) (made next : Record) (old new : Deferred)
    (t0 t1 c0 c1 : List Member) → GrowsUneventfully faults made next old new t0 t1 c0 c1 →
    SegmentHolds plan made (materialized old (length made.levels.items) t0)
    (materialized old (length made.levels.items) c0) → length made.levels.items < plan.bits →
    IsCurrent plan (length made.levels.items) faults →
    DeferredHolds old (length made.levels.items) plan.talkers.items t0 c0 →
    SegmentHolds plan next (materialized new (length next.levels.items) t1) (materialized new (length next.levels.items)
    c1)
grown_holds plan faults made next old new t0 t1 c0 c1 h holds still stands is_deferred =
    let longer : length next.levels.items ≡ length made.levels.items + 1 =
    ap length h.levels_is ∙ length-append made.levels.items (h.level ∷ []) in
    rw (longer, h.levels_is, h.events_is, h.counters_is)
    (holds_uneventfully plan made.levels.items made.events.items made.counters.items h.level old new t0 t1 c0 c1 holds
    (grown_kept plan faults made next old new t0 t1 c0 c1 h holds still stands is_deferred) h.sends is_deferred)

-- and its nodes rest on
pub grown_deferred : (plan : SegmentPlan) (faults : CurrentFaults) (made next : Record) (old new : Deferred)
    (t0 t1 c0 c1 : List Member) → GrowsUneventfully faults made next old new t0 t1 c0 c1 →
    DeferredHolds old (length made.levels.items) plan.talkers.items t0 c0 →
    DeferredHolds new (length next.levels.items) plan.talkers.items t1 c1
grown_deferred plan faults made next old new t0 t1 c0 c1 h is_deferred =
    subst (λ n. DeferredHolds new n plan.talkers.items t1 c1)
    (sym (ap length h.levels_is ∙ length-append made.levels.items (h.level ∷ [])))
    (deferred_alone plan.talkers.items (length made.levels.items) h.level old new t0 t1 c0 c1 h.sends is_deferred)

-- bits of a kind so far, and not too many
pub record SoFar (Bits : SegmentValue → SegmentValue → Type 0) (old new : SegmentValue) (limit : ℕ) : Type 0 where
  pub bits : Bits old new
  pub within : length old.levels ≤ limit → length new.levels ≤ limit
  pub still : length old.levels ≤ old.plan.bits → length new.levels ≤ new.plan.bits

pub none_so_far : {Bits : SegmentValue → SegmentValue → Type 0} (segment : SegmentValue) (limit : ℕ) →
    Bits segment segment → SoFar Bits segment segment limit
none_so_far segment limit none = record { bits = none; within = λ h. h; still = λ h. h }

pub both_so_far : {Bits : SegmentValue → SegmentValue → Type 0} {old mid new : SegmentValue} {limit : ℕ} →
    (Bits old mid → Bits mid new → Bits old new) → SoFar Bits old mid limit → SoFar Bits mid new limit →
    SoFar Bits old new limit
both_so_far on first more = record {
  bits = on first.bits more.bits;
  within = λ h. more.within (first.within h);
  still = λ h. more.still (first.still h);
}

-- uneventful bits
abbrev pub UneventfulSoFar : SegmentValue → SegmentValue → ℕ → Type 0
UneventfulSoFar = SoFar MakeUneventfulBits

pub uneventful_start : (segment : SegmentValue) (limit : ℕ) → UneventfulSoFar segment segment limit
uneventful_start segment limit = none_so_far segment limit no_bit

pub uneventful_on : {old mid new : SegmentValue} → MakeUneventfulBits old mid → MakeUneventfulBits mid new →
    MakeUneventfulBits old new
uneventful_on bits no_bit = bits
uneventful_on bits (one_more more bit) = one_more (uneventful_on bits more) bit

pub uneventful_both : {old mid new : SegmentValue} {limit : ℕ} → UneventfulSoFar old mid limit → UneventfulSoFar mid new
    limit →
    UneventfulSoFar old new limit
uneventful_both first more = both_so_far uneventful_on first more

pub uneventful_more : (old mid new : SegmentValue) (limit : ℕ) → MakesUneventfulBit mid new → length mid.levels <
    mid.plan.bits →
    length mid.levels < limit → UneventfulSoFar old mid limit → UneventfulSoFar old new limit
uneventful_more old mid new limit bit less free h =
    let longer : length new.levels ≡ length mid.levels + 1 =
    ap length bit.levels_is ∙ length-append mid.levels (bit.level ∷ []) in
    record {
      bits = one_more h.bits bit;
      within = λ h. omega (arith, longer, free);
      still = λ h. omega (arith, longer, less, ap (λ (p : SegmentPlan). p.bits) bit.plan_is);
    }

-- what uneventful bits leave of a segment, whatever its ports are
pub record LeftUneventfully (old new : SegmentValue) : Type 0 where
  pub plan_is : new.plan ≡ old.plan
  pub events_is : new.events ≡ old.events
  pub sending_is : new.sending ≡ old.sending
  pub longer : length old.levels ≤ length new.levels

pub left_uneventfully : {old new : SegmentValue} → MakeUneventfulBits old new → LeftUneventfully old new
left_uneventfully no_bit = record { plan_is = refl; events_is = refl; sending_is = refl; longer = omega arith }
left_uneventfully (one_more {mid = mid} bits bit) =
    let before = left_uneventfully bits in
    record {
      plan_is = bit.plan_is ∙ before.plan_is;
      events_is = bit.events_is ∙ before.events_is;
      sending_is = bit.sending_is ∙ before.sending_is;
      longer = omega (arith, before.longer, ap length bit.levels_is, length-append mid.levels (bit.level ∷ []));
    }
