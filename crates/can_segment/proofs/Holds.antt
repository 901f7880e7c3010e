-- What stands of deferred nodes stands on where fewer do.
use Rattle.std.proofs.Common.{◌≡◌, ℕ, ◌+◌, ◌≤◌, Bool, true, false, List, length, refl, sym, subst, ◌∙◌, arith}
use Rattle.can_confinement.specs.KnownCounts.{Knows}
use Rattle.can_node.specs.SharedReceiver.{IsListening}
use Rattle.can_node.specs.Node.{counters_in}
use Rattle.can_station.specs.declared.member.Member.{Member}
use Rattle.can_station.specs.declared.plan.Talker.{Talker}
use Rattle.can_segment.specs.declared.deferred.Deferred.{Deferred}
use Rattle.can_station.specs.declared.place_set.PlaceSet.{PlaceSet}
use Rattle.can_segment.specs.DeferredState.{AreDeferred, AreNotDue, IsSame, DeferredHolds, FollowsThrough}
use Rattle.can_station.specs.DeferredNodes.{ActiveWithin, LeavesDeferred, NoneDeferred}
use Rattle.can_segment.proofs.DeferredState.{next_deferred}

-- the bit before which nothing is due may come sooner
pub sooner_not_due : (old new : Deferred) (plan : List Talker) (members : List Member) →
    new.next_start ≤ old.next_start → AreNotDue old plan members → AreNotDue new plan members
sooner_not_due old new plan members less h k m talker e f is bit before =
    h k m talker e f is bit (omega (arith, before, less))

same_not_due : (old new : Deferred) (plan : List Talker) (members : List Member) →
    new.next_start ≡ old.next_start → AreNotDue old plan members → AreNotDue new plan members
same_not_due old new plan members same h = sooner_not_due old new plan members (omega (arith, same)) h

-- where none is deferred
pub none_deferred : (deferred : Deferred) (bit : ℕ) (plan : List Talker) (talkers controllers : List Member) →
    ActiveWithin deferred.talkers talkers → ActiveWithin deferred.controllers controllers → length talkers ≤ 64 →
    length controllers ≤ 64 → NoneDeferred talkers → NoneDeferred controllers →
    DeferredHolds deferred bit plan talkers controllers
none_deferred deferred bit plan talkers controllers w w_too fit fit_too t c = record {
  talkers_deferred = λ k m e is. absurd (let active = t k m e in cc (is, active));
  controllers_deferred = λ k m e is. absurd (let active = c k m e in cc (is, active));
  talkers_not_due = λ k m talker e f is. absurd (let active = t k m e in cc (is, active));
  controllers_active = λ s. c;
  talkers_within = w;
  controllers_within = w_too;
  talkers_fit = fit;
  controllers_fit = fit_too;
}

pub none_deferred_on : (deferred : Deferred) (bit next : ℕ) (plan : List Talker) (talkers controllers : List Member) →
    NoneDeferred talkers → NoneDeferred controllers → DeferredHolds deferred bit plan talkers controllers →
    DeferredHolds deferred next plan talkers controllers
none_deferred_on deferred bit next plan talkers controllers t c h = record {
  talkers_deferred = λ k m e is. absurd (let active = t k m e in cc (is, active));
  controllers_deferred = λ k m e is. absurd (let active = c k m e in cc (is, active));
  talkers_not_due = h.talkers_not_due;
  controllers_active = λ s. c;
  talkers_within = h.talkers_within;
  controllers_within = h.controllers_within;
  talkers_fit = h.talkers_fit;
  controllers_fit = h.controllers_fit;
}

-- where it is known that none does
pub not_deferred : (deferred : Deferred) (bit : ℕ) (members : List Member) → deferred.any_deferred ≡ false → AreDeferred
    deferred bit members →
    NoneDeferred members
not_deferred deferred bit members is is_deferred k m e = by m.is_deferred refl
  where
    by : (b : Bool) → m.is_deferred ≡ b → m.is_deferred ≡ false
    by true on = let some = (is_deferred k m e on).some_deferred in absurd (cc (some, is))
    by false off = off

-- where the same is held of all that rest
pub same_deferred : (old new : Deferred) (bit : ℕ) (members : List Member) → IsSame old new → AreDeferred old bit
    members →
    AreDeferred new bit members
same_deferred old new bit members same is_deferred k m e is =
    let h = is_deferred k m e is in
    record {
      some_deferred = same.any_deferred_is ∙ h.some_deferred;
      is_on = h.is_on;
      uneventful = h.uneventful;
      known = subst (λ known. Knows known (counters_in m.station.node)) (sym same.known_is) h.known;
      listening = subst IsListening (sym same.shared_receiver_is) h.listening;
    }

pub same_holds : (old new : Deferred) (bit : ℕ) (plan : List Talker) (talkers controllers : List Member) → IsSame old
    new →
    new.talkers ≡ old.talkers → new.controllers ≡ old.controllers →
    DeferredHolds old bit plan talkers controllers → DeferredHolds new bit plan talkers controllers
same_holds old new bit plan talkers controllers same talkers_is controllers_is h = record {
  talkers_deferred = same_deferred old new bit talkers same h.talkers_deferred;
  controllers_deferred = same_deferred old new bit controllers same h.controllers_deferred;
  talkers_not_due = same_not_due old new plan talkers same.next_start_is h.talkers_not_due;
  controllers_active = λ s. h.controllers_active (omega (arith, s, same.next_start_is));
  talkers_within = subst (λ set. ActiveWithin set talkers) (sym talkers_is) h.talkers_within;
  controllers_within = subst (λ set. ActiveWithin set controllers) (sym controllers_is) h.controllers_within;
  talkers_fit = h.talkers_fit;
  controllers_fit = h.controllers_fit;
}

pub left_deferred : (deferred : Deferred) (bit : ℕ) (old new : List Member) → LeavesDeferred old new → AreDeferred
    deferred bit old →
    AreDeferred deferred bit new
left_deferred deferred bit old new left is_deferred k m e is = is_deferred k m (left k m e is) is

pub left_not_due : (deferred : Deferred) (plan : List Talker) (old new : List Member) → LeavesDeferred old new →
    AreNotDue deferred plan old → AreNotDue deferred plan new
left_not_due deferred plan old new left h k m talker e f is = h k m talker (left k m e is) f is

pub left_active : (old new : List Member) → LeavesDeferred old new → NoneDeferred old → NoneDeferred new
left_active old new left none k m e = by m.is_deferred refl
  where
    by : (b : Bool) → m.is_deferred ≡ b → m.is_deferred ≡ false
    by true on = let active = none k m (left k m e on) in absurd (cc (on, active))
    by false off = off

-- behind steps of the active nodes
pub left_holds : (deferred : Deferred) (bit : ℕ) (plan : List Talker) (t0 t1 c0 c1 : List Member) → LeavesDeferred t0 t1
    →
    LeavesDeferred c0 c1 →
    ((set : PlaceSet) → ActiveWithin set t0 → ActiveWithin set t1) →
    ((set : PlaceSet) → ActiveWithin set c0 → ActiveWithin set c1) → length t1 ≡ length t0 → length c1 ≡ length c0 →
    DeferredHolds deferred bit plan t0 c0 → DeferredHolds deferred bit plan t1 c1
left_holds deferred bit plan t0 t1 c0 c1 t c w w_too size size_too h = record {
  talkers_deferred = left_deferred deferred bit t0 t1 t h.talkers_deferred;
  controllers_deferred = left_deferred deferred bit c0 c1 c h.controllers_deferred;
  talkers_not_due = left_not_due deferred plan t0 t1 t h.talkers_not_due;
  controllers_active = λ s. left_active c0 c1 c (h.controllers_active s);
  talkers_within = w deferred.talkers h.talkers_within;
  controllers_within = w_too deferred.controllers h.controllers_within;
  talkers_fit = omega (arith, size, h.talkers_fit);
  controllers_fit = omega (arith, size_too, h.controllers_fit);
}

-- where some were resumed
pub resumed_holds : (old new : Deferred) (bit : ℕ) (plan : List Talker) (t0 t1 c0 c1 : List Member) → IsSame old new →
    ActiveWithin new.talkers t1 → ActiveWithin new.controllers c1 → length t1 ≡ length t0 →
    length c1 ≡ length c0 → LeavesDeferred t0 t1 → LeavesDeferred c0 c1 →
    DeferredHolds old bit plan t0 c0 → DeferredHolds new bit plan t1 c1
resumed_holds old new bit plan t0 t1 c0 c1 same w w_too size size_too t c h = record {
  talkers_deferred = same_deferred old new bit t1 same (left_deferred old bit t0 t1 t h.talkers_deferred);
  controllers_deferred = same_deferred old new bit c1 same (left_deferred old bit c0 c1 c h.controllers_deferred);
  talkers_not_due = same_not_due old new plan t1 same.next_start_is
      (left_not_due old plan t0 t1 t h.talkers_not_due);
  controllers_active = λ s. left_active c0 c1 c (h.controllers_active (omega (arith, s, same.next_start_is)));
  talkers_within = w;
  controllers_within = w_too;
  talkers_fit = omega (arith, size, h.talkers_fit);
  controllers_fit = omega (arith, size_too, h.controllers_fit);
}

-- behind a bit through which they rest
pub through_deferred : (old new : Deferred) (bit : ℕ) (level : Bool) (members : List Member) → FollowsThrough bit level
    old new →
    AreDeferred old bit members → AreDeferred new (bit + 1) members
through_deferred old new bit level members through is_deferred k m e is = next_deferred old new bit level m through
    (is_deferred k m e is)

pub through_holds : (old new : Deferred) (bit : ℕ) (level : Bool) (plan : List Talker) (t c : List Member) →
    FollowsThrough bit level old new → DeferredHolds old bit plan t c → DeferredHolds new (bit + 1) plan t c
through_holds old new bit level plan t c through h = record {
  talkers_deferred = through_deferred old new bit level t through h.talkers_deferred;
  controllers_deferred = through_deferred old new bit level c through h.controllers_deferred;
  talkers_not_due = same_not_due old new plan t through.next_start_is h.talkers_not_due;
  controllers_active = λ s. h.controllers_active (omega (arith, s, through.next_start_is));
  talkers_within = subst (λ set. ActiveWithin set t) (sym through.talkers_is) h.talkers_within;
  controllers_within = subst (λ set. ActiveWithin set c) (sym through.controllers_is) h.controllers_within;
  talkers_fit = h.talkers_fit;
  controllers_fit = h.controllers_fit;
}
