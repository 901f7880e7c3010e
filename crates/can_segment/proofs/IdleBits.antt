-- A segment behind bits of an idle bus at which controllers that want to start begin nothing.
use Rattle.std.proofs.Common.{◌≡◌, ℕ, ◌+◌, ◌<◌, ◌≤◌, ◌++◌, ◌∷◌, [], ◌&&◌, Bool, true, List, length}
use Rattle.std.proofs.Common.{refl, sym, ap, subst, arith, inl, IfSome, ◌∙◌, length-append}
use Rattle.std.specs.List.{list_all}
use Rattle.std.proofs.lemmas.List.{append-nil, append_assoc}
use Rattle.can_confinement.specs.declared.counters.Counters.{Counters}
use Rattle.can_station.specs.declared.event.Event.{Event}
use Rattle.can_station.specs.declared.current_faults.CurrentFaults.{CurrentFaults}
use Rattle.can_station.specs.declared.member.Member.{Member}
use Rattle.can_station.specs.declared.plan.SegmentPlan.{SegmentPlan}
use Rattle.can_station.specs.declared.plan.Talker.{Talker}
use Rattle.can_station.specs.Actions.{AreUneventful, IsUneventful}
use Rattle.can_station.specs.CurrentFaults.{IsFaultless, IsCurrent}
use Rattle.can_station.specs.Members.{Samples, SamplesAndSettles, StartsRequest, drives_at}
use Rattle.can_station.specs.Places.{AtPlaces}
use Rattle.can_station.specs.Ports.{Reaps, item_of}
use Rattle.can_segment.specs.declared.deferred.Deferred.{Deferred}
use Rattle.can_segment.specs.Moves.{NodesMove}
use Rattle.can_segment.specs.UneventfulBits.{MakesIdleBit, MakeIdleBits}
use Rattle.can_segment.specs.UneventfulBits.MakeIdleBits.{no_idle_bit, one_idle_bit}
use Rattle.can_segment.specs.DeferredState.{AllDeferred, AreIdle, AreRecessive, AreDeferred, Drives, DeferredHolds}
use Rattle.can_segment.specs.DeferredState.{FollowsThrough}
use Rattle.can_segment.specs.DeferredState.{materialized}
use Rattle.can_segment.specs.IdleUntil.{FaultlessUntil}
use Rattle.can_segment.specs.Segments.{SegmentValue, sending_of_all}
use Rattle.can_segment.proofs.Going.{go_uneventful, go_samples, go_starts}
use Rattle.can_segment.proofs.Holds.{through_holds}
use Rattle.can_segment.proofs.IdleBursts.{deferred_drive, stay_deferred}
use Rattle.can_segment.proofs.UneventfulBits.{LeftUneventfully, SoFar, both_so_far, holds_so, kept_so, none_so_far}
use Rattle.can_segment.proofs.UneventfulBursts.{Between, value_of}
use Rattle.can_segment.proofs.DeferredState.{all_drive, all_uneventful, members_sample, real_at, talkers_start}
use Rattle.can_segment.proofs.SingleBit.{follows_through}
use Rattle.can_station.proofs.Places.{same_some}

-- the same deferred nodes, of which it is said that they have nothing to start before this bit
abbrev idle_before : ℕ → Deferred → Deferred
idle_before limit deferred = record {
  shared_receiver = deferred.shared_receiver;
  any_deferred = deferred.any_deferred;
  known = deferred.known;
  next_start = limit;
  talkers = deferred.talkers;
  controllers = deferred.controllers;
}

idle_deferred : (limit : ℕ) (deferred : Deferred) (bit : ℕ) (members : List Member) →
    AreDeferred deferred bit members → AreDeferred (idle_before limit deferred) bit members
idle_deferred limit deferred bit members is_deferred k m e is =
    let h = is_deferred k m e is in
    record {
      some_deferred = h.some_deferred;
      is_on = h.is_on;
      uneventful = h.uneventful;
      known = h.known;
      listening =
          h.listening;
    }

-- a bus that idles before a bit does so before an earlier one
pub idles_sooner : (deferred : Deferred) (until limit : ℕ) (plan : List Talker) (t c : List Member) → until ≤ limit →
    AreIdle deferred limit plan t c → AreIdle deferred until plan t c
idles_sooner deferred until limit plan t c sooner idle = record {
  idles = idle.idles;
  talkers_deferred = idle.talkers_deferred;
  controllers_deferred = idle.controllers_deferred;
  talkers_not_due = λ k m talker e f bit before. idle.talkers_not_due k m talker e f bit (omega (arith, before, sooner));
}

-- a recessive bit leaves the deferred nodes as they are
idles_through : (deferred : Deferred) (bit limit : ℕ) (plan : List Talker) (t c : List Member) →
    AreIdle deferred limit plan t c → FollowsThrough bit true deferred deferred
idles_through deferred bit limit plan t c idle =
    follows_through deferred bit deferred.shared_receiver true (idle.idles.follows deferred.known bit)
    idle.idles.listens

idle_samples : (deferred : Deferred) (bit : ℕ) (members : List Member) → FollowsThrough bit true deferred deferred →
    AllDeferred members →
    AreDeferred deferred bit members →
    AtPlaces (λ k. Samples bit true) (materialized deferred bit members) (materialized deferred (bit + 1) members)
idle_samples deferred bit members through each_deferred is_deferred =
    members_sample deferred deferred bit 0 true [] members members is_deferred (λ k m e is. refl) (λ k m e is. through)
    (go_samples bit true members members (stay_deferred bit members each_deferred))

-- one of which nothing is reported begins no request
begins_none : (bit : ℕ) (m : Member) → IsUneventful m.action → StartsRequest bit m m
begins_none bit m uneventful = record {
  off = λ early. refl;
  on_is = refl;
  requests = λ late. record {
    begins = λ e. let none = uneventful.no_start in absurd (cc (e, none));
    stays = λ e. refl;
    wants = λ e. let none = uneventful.no_start in absurd (cc (e, none));
  };
}

settles_so : (bit : ℕ) (level : Bool) (old new : Member) → Samples bit level old new →
    SamplesAndSettles bit level old new
settles_so bit level old new h = record {
  off = h.off;
  on_is = h.on_is;
  samples = h.samples;
  reaps = λ late. subst (λ o. IfSome o (λ label. Reaps new.action.sent new.action.outcome label))
      (sym (h.reaps_none late)) tt;
}

-- all drive recessive
all_recessive : (deferred : Deferred) (bit : ℕ) (members : List Member) → Drives deferred true → AllDeferred members →
    AreDeferred deferred bit members → list_all (drives_at bit) (materialized deferred bit members) ≡ true
all_recessive deferred bit members drives each_deferred is_deferred =
    sym (all_drive deferred bit true members drives is_deferred) ∙ deferred_drive bit members each_deferred

-- what all nodes do at such a bit
idle_move : (plan : SegmentPlan) (bit limit : ℕ) (deferred : Deferred) (t c : List Member) → bit < limit →
    AreIdle deferred limit plan.talkers.items t c →
    DeferredHolds deferred bit plan.talkers.items t c → IsFaultless plan bit →
    NodesMove plan bit true (materialized deferred bit t) (materialized deferred (bit + 1) t) (materialized deferred bit
    c)
    (materialized deferred (bit + 1) c)
idle_move plan bit limit deferred t c before idle is_deferred faultless =
    let through = idles_through deferred bit limit plan.talkers.items t c idle in
    let samples = idle_samples deferred bit t through idle.talkers_deferred is_deferred.talkers_deferred in
    let settles = idle_samples deferred bit c through idle.controllers_deferred is_deferred.controllers_deferred in
    let drives : Drives deferred true = λ listening node at. sym (idle.idles.drives node at) in
    record {
      t1 = materialized deferred bit t;
      c1 = materialized deferred bit c;
      starts = talkers_start (idle_before limit deferred) bit plan.talkers.items t t (inl before)
          (idle_deferred limit deferred bit t is_deferred.talkers_deferred)
          (λ k m talker e f is. idle.talkers_not_due k m talker e f)
          (go_starts bit true plan.talkers.items t t (stay_deferred bit t idle.talkers_deferred));
      samples = record {
        at = λ k a b e f. subst (λ l. Samples bit l a b) (sym (faultless.nodes k true)) (samples.at k a b e f);
        size = samples.size;
      };
      controls = record {
        starts = λ k a b ea eb.
            let m = real_at deferred bit c k a ea in
            let uneventful = subst IsUneventful (sym m.2.action_is)
            (is_deferred.controllers_deferred k m.0 m.1 (idle.controllers_deferred k m.0 m.1)).uneventful in
            subst (StartsRequest bit a) (same_some a b (sym ea ∙ eb)) (begins_none bit a uneventful);
        settles = λ k a b ea eb. subst (λ l. SamplesAndSettles bit l a b)
            (sym (faultless.nodes (length plan.talkers.items + k) true))
            (settles_so bit true a b (settles.at k a b ea eb));
        mid_size = refl;
        after_size = settles.size;
      };
      level_is = sym (ap (λ b. b && list_all (drives_at bit) (materialized deferred bit c))
          (all_recessive deferred bit t drives idle.talkers_deferred is_deferred.talkers_deferred)
          ∙ all_recessive deferred bit c drives idle.controllers_deferred is_deferred.controllers_deferred)
          ∙ sym (faultless.line _);
    }

idle_uneventful : (deferred : Deferred) (bit : ℕ) (members : List Member) → AllDeferred members → AreDeferred deferred
    (bit + 1) members →
    AreUneventful bit (materialized deferred (bit + 1) members)
idle_uneventful deferred bit members each_deferred is_deferred =
    all_uneventful deferred bit members is_deferred (go_uneventful bit true members members (stay_deferred bit members
    each_deferred))

same_sending : (deferred : Deferred) (bit next : ℕ) (members : List Member) →
    sending_of_all (materialized deferred next members) ≡ sending_of_all (materialized deferred bit members)
same_sending deferred bit next [] = refl
same_sending deferred bit next (m ∷ members) =
    ap (λ sent. item_of m.station.sending ∷ sent) (same_sending deferred bit next members)

idle_one : (plan : SegmentPlan) (faults : CurrentFaults) (levels : List Bool) (events : List Event)
    (counters : List Counters) (deferred : Deferred) (limit : ℕ) (t c : List Member) (was is : ℕ) →
    AreIdle deferred limit plan.talkers.items t c → length levels < limit →
    Between plan faults levels events counters deferred t c → length levels < plan.bits →
    IsFaultless plan (length levels) → IsCurrent plan (length levels + 1) faults →
    Between plan faults (levels ++ true ∷ []) events counters deferred t c
    × MakesIdleBit (value_of plan levels events counters deferred c was)
    (value_of plan (levels ++ true ∷ []) events counters deferred c is)
idle_one plan faults levels events counters deferred limit t c was is idle before h still faultless stands =
    let bit = length levels in
    let longer : length (levels ++ true ∷ []) ≡ bit + 1 = length-append levels (true ∷ []) in
    let through = idles_through deferred bit limit plan.talkers.items t c idle in
    let behind = through_holds deferred deferred bit true plan.talkers.items t c through h.is_deferred in
    let kept = kept_so plan levels events true deferred deferred t t c c h.holds.kept still
    (idle_move plan bit limit deferred t c before idle h.is_deferred faultless) (
      idle_uneventful deferred bit t idle.talkers_deferred behind.talkers_deferred,
      idle_uneventful deferred bit c idle.controllers_deferred behind.controllers_deferred,
    ) in
    let holds = holds_so plan levels events counters true deferred deferred t t c c h.holds kept (λ first shown. shown)
    (λ first shown. shown) in (
      record {
        holds = rw longer holds;
        stands = rw longer stands;
        is_deferred = rw longer behind;
      },
      record {
        plan_is = refl;
        levels_is = refl;
        events_is = refl;
        counters_is = refl;
        sending_is = same_sending deferred bit (length (levels ++ true ∷ [])) c;
      },
    )

-- such bits one after another, whose levels the record got at once
pub idle_burst : (plan : SegmentPlan) (faults : CurrentFaults) (levels : List Bool) (events : List Event)
    (counters : List Counters) (made : List Bool) (deferred : Deferred) (until : ℕ) (t c : List Member) (was is : ℕ) →
    AreRecessive made → AreIdle deferred until plan.talkers.items t c → until ≤ plan.bits →
    Between plan faults levels events counters deferred t c → FaultlessUntil plan faults until →
    (0 < length made → length levels + length made ≤ until) → (length made ≡ 0 → was ≡ is) →
    Between plan faults (levels ++ made) events counters deferred t c
    × MakeIdleBits (value_of plan levels events counters deferred c was)
    (value_of plan (levels ++ made) events counters deferred c is)
idle_burst plan faults levels events counters [] deferred until t c was is recessive idle still h faultless fits same =
    rw (append-nil levels, same refl) (h, no_idle_bit)
idle_burst plan faults levels events counters (level ∷ made) deferred until t c was is recessive idle still h faultless
    fits same =
    let within = fits (omega arith) in
    let bit = length levels in
    let next = levels ++ true ∷ [] in
    let longer : length next ≡ bit + 1 = length-append levels (true ∷ []) in
    let free = faultless bit (omega (arith, within)) h.stands in
    let one = idle_one plan faults levels events counters deferred until t c was is idle (omega (arith, within)) h
    (omega (arith, within, still)) free.0 free.1 in
    let more = idle_burst plan faults next events counters made deferred until t c is is recessive.1 idle still one.0
    faultless (λ more. omega (arith, longer, within)) (λ none. refl) in
    let all : next ++ made ≡ levels ++ level ∷ made =
    append_assoc levels (true ∷ []) made ∙ ap (λ l. levels ++ l ∷ made) (sym recessive.0) in
    subst (λ ls. Between plan faults ls events counters deferred t c
    × MakeIdleBits (value_of plan levels events counters deferred c was) (value_of plan ls events counters deferred c
    is))
    all (more.0, one_idle_bit one.1 more.1)

-- idle bits so far
abbrev pub IdleSoFar : SegmentValue → SegmentValue → ℕ → Type 0
IdleSoFar = SoFar MakeIdleBits

pub idle_on : {old mid new : SegmentValue} → MakeIdleBits old mid → MakeIdleBits mid new → MakeIdleBits old new
idle_on no_idle_bit more = more
idle_on (one_idle_bit bit bits) more = one_idle_bit bit (idle_on bits more)

pub idle_start : (segment : SegmentValue) (limit : ℕ) → IdleSoFar segment segment limit
idle_start segment limit = none_so_far segment limit no_idle_bit

pub idle_both : {old mid new : SegmentValue} {limit : ℕ} → IdleSoFar old mid limit → IdleSoFar mid new limit →
    IdleSoFar old new limit
idle_both first more = both_so_far idle_on first more

-- Idle bits so far, and at least up to this bit. A bus that idled beyond them at first still does so.
pub record IdleUpTo (old new : SegmentValue) (limit made : ℕ) : Type 0 where
  pub so_far : IdleSoFar old new limit
  pub made_is : made ≤ length new.levels
  pub longer : length old.levels ≤ length new.levels
  pub idle : length new.levels < old.idle_until → new.idle_until ≡ old.idle_until

-- what idle bits leave of a segment, whatever its ports are
pub left_idle : {old new : SegmentValue} → MakeIdleBits old new → LeftUneventfully old new
left_idle no_idle_bit = record { plan_is = refl; events_is = refl; sending_is = refl; longer = omega arith }
left_idle (one_idle_bit {old = old} bit bits) =
    let behind = left_idle bits in
    record {
      plan_is = behind.plan_is ∙ bit.plan_is;
      events_is = behind.events_is ∙ bit.events_is;
      sending_is = behind.sending_is ∙ bit.sending_is;
      longer = omega (arith, behind.longer, ap length bit.levels_is, length-append old.levels (true ∷ []));
    }
