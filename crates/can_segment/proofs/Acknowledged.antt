-- Nodes that rest and count a frame that they acknowledge.
use Rattle.std.proofs.Common.{◌≡◌, ℕ, ◌+◌, ◌≤◌, Bool, true, false, Option, Some, List, length, map, slice_get, refl}
use Rattle.std.proofs.Common.{sym}
use Rattle.std.proofs.Common.{ap, subst, arith, ◌∙◌}
use Rattle.std.proofs.lemmas.List.{length-map}
use Rattle.std.proofs.lemmas.Option.{slice_get_within}
use Rattle.bx_core.specs.TxBus.{Item, BusPast, BusCall}
use Rattle.can_frame.specs.Frames.{FrameValue}
use Rattle.can_node.specs.declared.shared_receiver.SharedReceiver.{SharedReceiver}
use Rattle.can_station.specs.declared.member.Member.{Member}
use Rattle.can_station.specs.Queues.{due_at}
use Rattle.can_station.specs.declared.place_set.PlaceSet.{PlaceSet}
use Rattle.can_station.specs.declared.plan.NodeFault.{NodeFault}
use Rattle.can_station.specs.declared.plan.Talker.{Talker}
use Rattle.can_station.specs.Actions.{AreUneventful, IsUneventful}
use Rattle.can_station.specs.Faults.{sampled_level}
use Rattle.can_station.specs.Members.{NodeSamples, PortSettles, Samples}
use Rattle.can_station.specs.Places.{AtBoth, AtPlaces}
use Rattle.can_station.specs.DeferredNodes.{ActiveAreUneventful, ActiveWithin, CountsReceived, IfActive, IfActiveBoth}
use Rattle.can_station.specs.DeferredNodes.{KnowsDeferred, LeavesDeferred, NoneDeferred, TransmitsAll, Unfaulted}
use Rattle.can_station.specs.DeferredNodes.{materialized_member, resumed}
use Rattle.can_segment.specs.declared.deferred.Deferred.{Deferred}
use Rattle.can_segment.specs.DeferredState.{AreDeferred, AreNotDue, IsDeferred, IsSameButCounts, DeferredHolds}
use Rattle.can_segment.specs.DeferredState.{FollowsAck}
use Rattle.can_segment.specs.DeferredState.{materialized}
use Rattle.can_station.proofs.Places.{some_there}
use Rattle.can_segment.proofs.Holds.{left_active, left_deferred, left_not_due}
use Rattle.can_segment.proofs.DeferredState.{Sleeps, all_uneventful, deferred_samples, deferred_settles}
use Rattle.can_segment.proofs.DeferredState.{unfaulted_level}
use Rattle.can_segment.proofs.Shown.{map_at}
use Rattle.can_segment.proofs.Resumed.{active_resumed, deferred_resumed}

-- the listener that followed for them is that of all that rest when they have counted
pub behind_slot : (level : Bool) (old mid new : Deferred) → FollowsAck level old mid → IsSameButCounts mid new →
    FollowsAck level old new
behind_slot level old mid new h same = record {
  any_deferred_is = same.any_deferred_is ∙ h.any_deferred_is;
  talkers_is = same.talkers_is ∙ h.talkers_is;
  controllers_is = same.controllers_is ∙ h.controllers_is;
  next_start_is = same.next_start_is ∙ h.next_start_is;
  acknowledges = rw same.shared_receiver_is h.acknowledges;
  listens = rw same.shared_receiver_is h.listens;
}

sleeps_counting : (old new : Deferred) (bit : ℕ) (level : Bool) (a b : Member) → FollowsAck level old new →
    IsDeferred old bit a → a.is_deferred ≡ true → CountsReceived a b → Sleeps bit level old.shared_receiver
    new.shared_receiver a b
sleeps_counting old new bit level a b h is_deferred is counts = record {
  is_on = is_deferred.is_on;
  on_is = counts.on_is;
  uneventful = subst IsUneventful (sym counts.action_is) is_deferred.uneventful;
  action_is = counts.action_is;
  sending_is = counts.sending_is;
  completed_is = counts.completed_is;
  samples = h.acknowledges a.station.node b.station.node bit (counts.receives is);
}

-- The steps of the active nodes, and those of the ones for which such stand that count, are the steps of all.
count_step : (Step : Member → Member → Type 0) (one other : SharedReceiver) (bit next : ℕ) (a b c : Member) →
    (a.is_deferred ≡ true → CountsReceived a c → Step (materialized_member one bit a) (materialized_member other next
    c)) → IfActive Step a b →
    CountsReceived b c → Step (resumed one bit a) (resumed other next c)
count_step Step one other bit next a b c sleeps s counts = by a.is_deferred refl
  where
    by : (any_deferred : Bool) → a.is_deferred ≡ any_deferred → Step (resumed one bit a) (resumed other next c)
    by true e =
        let from : CountsReceived a c = subst (λ m. CountsReceived m c) (s.stays_deferred e) counts in
        subst (λ m. Step m (resumed other next c)) (sym (deferred_resumed one bit a e))
        (subst (Step (materialized_member one bit a)) (sym (deferred_resumed other next c (from.stays_deferred ∙ e)))
        (sleeps e from))
    by false e =
        let same : c ≡ b = counts.was_active (s.stays_active e) in
        subst (λ m. Step (resumed one bit a) (resumed other next m)) (sym same)
        (subst (Step (resumed one bit a)) (sym (active_resumed other next b (s.stays_active e)))
        (subst (λ m. Step m b) (sym (active_resumed one bit a e)) (s.steps e)))

count_places : (Step : ℕ → Member → Member → Type 0) (one other : SharedReceiver) (bit next : ℕ)
    (old mid new : List Member) →
    ((k : ℕ) (a c : Member) → slice_get old k ≡ Some a → a.is_deferred ≡ true → CountsReceived a c →
    Step k (materialized_member one bit a) (materialized_member other next c)) → AtPlaces (λ k. IfActive (Step k)) old
    mid →
    AtPlaces (λ k. CountsReceived) mid new → AtPlaces Step (map (resumed one bit) old) (map (resumed other next) new)
count_places Step one other bit next old mid new sleeps steps counts = record {
  at = λ k x y p q.
      let a = map_at (resumed one bit) old k x p in
      let c = map_at (resumed other next) new k y q in
      let b = some_there mid k (let within = slice_get_within old k a.0 a.1 in omega (arith, within, steps.size)) in
      subst (λ m. Step k m y) a.2 (subst (Step k (resumed one bit a.0)) c.2
      (count_step (Step k) one other bit next a.0 b.0 c.0 (sleeps k a.0 c.0 a.1) (steps.at k a.0 b.0 a.1 b.1)
      (counts.at k b.0 c.0 b.1 c.1)));
  size = length-map new (resumed other next) ∙ counts.size ∙ steps.size ∙ sym (length-map old (resumed one bit));
}

count_with : {P : Type 0} (Step : Member → Member → P → P → Type 0) (one other : SharedReceiver) (bit next : ℕ)
    (a b c : Member) (from to : P) →
    (a.is_deferred ≡ true → CountsReceived a c → Step (materialized_member one bit a) (materialized_member other next c)
    from from) →
    IfActiveBoth Step a b from to → CountsReceived b c → Step (resumed one bit a) (resumed other next c) from to
count_with Step one other bit next a b c from to sleeps s counts = by a.is_deferred refl
  where
    by : (any_deferred : Bool) → a.is_deferred ≡ any_deferred → Step (resumed one bit a) (resumed other next c) from to
    by true e =
        let on = s.stays_deferred e in
        let since : CountsReceived a c = subst (λ m. CountsReceived m c) on.0 counts in
        subst (Step (resumed one bit a) (resumed other next c) from) (sym on.1)
        (subst (λ m. Step m (resumed other next c) from from) (sym (deferred_resumed one bit a e))
        (subst (λ m. Step (materialized_member one bit a) m from from)
        (sym (deferred_resumed other next c (since.stays_deferred ∙ e))) (sleeps e since)))
    by false e =
        let same : c ≡ b = counts.was_active (s.stays_active e) in
        subst (λ m. Step (resumed one bit a) (resumed other next m) from to) (sym same)
        (subst (λ m. Step (resumed one bit a) m from to) (sym (active_resumed other next b (s.stays_active e)))
        (subst (λ m. Step m b from to) (sym (active_resumed one bit a e)) (s.steps e)))

count_both : {P : Type 0} (Step : ℕ → Member → Member → P → P → Type 0) (one other : SharedReceiver) (bit next : ℕ)
    (old mid new : List Member) (from to : List P) →
    ((k : ℕ) (a c : Member) (p : P) → slice_get old k ≡ Some a → slice_get from k ≡ Some p → a.is_deferred ≡ true →
    CountsReceived a c → Step k (materialized_member one bit a) (materialized_member other next c) p p) →
    AtBoth (λ k. IfActiveBoth (Step k)) old mid from to → AtPlaces (λ k. CountsReceived) mid new →
    AtBoth Step (map (resumed one bit) old) (map (resumed other next) new) from to
count_both Step one other bit next old mid new from to sleeps steps counts = record {
  at = λ k x y p q ex ey ep eq.
      let a = map_at (resumed one bit) old k x ex in
      let c = map_at (resumed other next) new k y ey in
      let b = some_there mid k (let within = slice_get_within old k a.0 a.1 in omega (arith, within, steps.size)) in
      subst (λ m. Step k m y p q) a.2 (subst (λ m. Step k (resumed one bit a.0) m p q) c.2
      (count_with (Step k) one other bit next a.0 b.0 c.0 p q (sleeps k a.0 c.0 p a.1 ep)
      (steps.at k a.0 b.0 p q a.1 b.1 ep eq) (counts.at k b.0 c.0 b.1 c.1)));
  size = length-map new (resumed other next) ∙ counts.size ∙ steps.size ∙ sym (length-map old (resumed one bit));
  size_too = steps.size_too;
}

-- so they sample the line,
pub counting_sample : (old new : Deferred) (bit first : ℕ) (level : Bool) (faults : List NodeFault)
    (before mid after : List Member) → FollowsAck level old new → AreDeferred old bit before →
    Unfaulted faults first bit before → AtPlaces (λ k. IfActive (NodeSamples first bit level faults k)) before mid →
    AtPlaces (λ k. CountsReceived) mid after →
    AtPlaces (NodeSamples first bit level faults) (materialized old bit before) (materialized new (bit + 1) after)
counting_sample old new bit first level faults before mid after h is_deferred unfaulted steps counts =
    count_places (NodeSamples first bit level faults) old.shared_receiver new.shared_receiver bit (bit + 1) before mid
    after
    (λ k a c e is counted. subst (λ l. Samples bit l (materialized_member old.shared_receiver bit a)
    (materialized_member new.shared_receiver (bit + 1) c))
    (unfaulted_level faults (first + k) bit level (unfaulted k a e is))
    (deferred_samples old.shared_receiver new.shared_receiver bit level a c
    (sleeps_counting old new bit level a c h (is_deferred k a e is) is counted))) steps counts

-- and the ports of controllers among them learn of nothing
pub counting_settle : {P : Type 0} (after : P → BusPast → Type 0) (asked : P → List BusCall → Type 0)
    (transmitting : P → Option Item) (sink : P → List FrameValue → Type 0) (stays : P → P → Type 0) (old new : Deferred)
    (bit first : ℕ) (level : Bool) (faults : List NodeFault)
    (c0 c1 c2 : List Member) (from to : List P) → ((x : P) → stays x x) → FollowsAck level old new →
    AreDeferred old bit c0 → Unfaulted faults first bit c0 → TransmitsAll transmitting c0 from →
    AtBoth
    (λ k. IfActiveBoth (PortSettles after asked transmitting sink stays bit
    (sampled_level faults (first + k) bit level))) c0 c1 from to → AtPlaces (λ k. CountsReceived) c1 c2 →
    AtBoth (λ k. PortSettles after asked transmitting sink stays bit (sampled_level faults (first + k) bit level))
    (materialized old bit c0) (materialized new (bit + 1) c2) from to
counting_settle after asked transmitting sink stays old new bit first level faults c0 c1 c2 from to same h is_deferred
    unfaulted sends steps counts =
    count_both (λ k. PortSettles after asked transmitting sink stays bit (sampled_level faults (first + k) bit level))
    old.shared_receiver new.shared_receiver bit (bit + 1) c0 c1 c2 from to
    (λ k a c p e f is counted. subst (λ l. PortSettles after asked transmitting sink stays bit l
    (materialized_member old.shared_receiver bit a) (materialized_member new.shared_receiver (bit + 1) c) p p)
    (unfaulted_level faults (first + k) bit level (unfaulted k a e is))
    (deferred_settles after asked transmitting sink stays old.shared_receiver new.shared_receiver bit level a c p
    (sleeps_counting old new bit level a c h (is_deferred k a e is) is counted) (sends k a p e f) (same p))) steps
    counts

-- a node that is deferred after it was deferred before
pub record WasDeferred (mid : List Member) (k : ℕ) (m : Member) : Type 0 where
  pub from : Member
  pub from_is : slice_get mid k ≡ Some from
  pub is_deferred : from.is_deferred ≡ true
  pub counts : CountsReceived from m

was_deferred : (mid new : List Member) (k : ℕ) (m : Member) → AtPlaces (λ k. CountsReceived) mid new →
    slice_get new k ≡ Some m → m.is_deferred ≡ true → WasDeferred mid k m
was_deferred mid new k m counts e is =
    let b = some_there mid k (let within = slice_get_within new k m e in omega (arith, within, counts.size)) in
    let counted = counts.at k b.0 m b.1 e in
    record { from = b.0; from_is = b.1; is_deferred = sym counted.stays_deferred ∙ is; counts = counted }

-- the deferred nodes do so behind it too,
counting_deferred : (old new : Deferred) (bit : ℕ) (level : Bool) (mid after : List Member) → FollowsAck level old new →
    AtPlaces (λ k. CountsReceived) mid after → AtPlaces (λ k. KnowsDeferred new.known) mid after →
    AreDeferred old bit mid → AreDeferred new (bit + 1) after
counting_deferred old new bit level mid after h counts known is_deferred k m e is =
    let was = was_deferred mid after k m counts e is in
    let before = is_deferred k was.from was.from_is was.is_deferred in
    record {
      some_deferred = h.any_deferred_is ∙ before.some_deferred;
      is_on = omega (arith, before.is_on, was.counts.on_is);
      uneventful = subst IsUneventful (sym was.counts.action_is) before.uneventful;
      known = known.at k was.from m was.from_is e is;
      listening = h.listens;
    }

counting_not_due : (old new : Deferred) (plan : List Talker) (mid after : List Member) →
    new.next_start ≡ old.next_start → AtPlaces (λ k. CountsReceived) mid after → AreNotDue old plan mid →
    AreNotDue new plan after
counting_not_due old new plan mid after same counts h k m talker e f is bit before =
    let was = was_deferred mid after k m counts e is in
    ap (λ n. due_at talker.queue.items n bit) was.counts.completed_is
    ∙ h k was.from talker was.from_is f was.is_deferred bit (omega (arith, before, same))

counting_active : (mid after : List Member) → AtPlaces (λ k. CountsReceived) mid after → NoneDeferred mid → NoneDeferred
    after
counting_active mid after counts none k m e = by m.is_deferred refl
  where
    by : (b : Bool) → m.is_deferred ≡ b → m.is_deferred ≡ false
    by true on = let was = was_deferred mid after k m counts e on in
        absurd (let active = none k was.from was.from_is in let is_deferred = was.is_deferred in cc (
          is_deferred,
          active,
        ))
    by false off = off

-- the active nodes are so at the same places,
counting_within : (set : PlaceSet) (mid after : List Member) → AtPlaces (λ k. CountsReceived) mid after →
    ActiveWithin set mid → ActiveWithin set after
counting_within set mid after counts h = record {
  within = λ k has. (let less = h.within k has in omega (arith, less, counts.size));
  has = λ k m e is.
      let b = some_there mid k (let within = slice_get_within after k m e in omega (arith, within, counts.size)) in
      h.has k b.0 b.1 (sym (counts.at k b.0 m b.1 e).stays_deferred ∙ is);
}

-- and are as they were
counting_uneventful : (bit : ℕ) (mid after : List Member) → AtPlaces (λ k. CountsReceived) mid after →
    ActiveAreUneventful bit mid → ActiveAreUneventful bit after
counting_uneventful bit mid after counts uneventful k m e is on =
    let b = some_there mid k (let within = slice_get_within after k m e in omega (arith, within, counts.size)) in
    let counted = counts.at k b.0 m b.1 e in
    let active : b.0.is_deferred ≡ false = sym counted.stays_deferred ∙ is in
    let same = counted.was_active active in
    subst (λ x. IsUneventful x.action) (sym same) (uneventful k b.0 b.1 active (subst (λ x. x.on ≤ bit) same on))

pub counting_all_uneventful : (deferred : Deferred) (bit : ℕ) (mid after : List Member) → AreDeferred deferred (bit + 1)
    after →
    AtPlaces (λ k. CountsReceived) mid after → ActiveAreUneventful bit mid → AreUneventful bit (materialized deferred
    (bit + 1) after)
counting_all_uneventful deferred bit mid after is_deferred counts uneventful =
    all_uneventful deferred bit after is_deferred (counting_uneventful bit mid after counts uneventful)

-- what stands of them
pub counting_holds : (old new : Deferred) (bit : ℕ) (level : Bool) (plan : List Talker) (t0 t1 t2 c0 c1 c2 : List
    Member) →
    FollowsAck level old new → LeavesDeferred t0 t1 → LeavesDeferred c0 c1 → ActiveWithin old.talkers t1 →
    ActiveWithin old.controllers c1 → length t1 ≡ length t0 → length c1 ≡ length c0 →
    AtPlaces (λ k. CountsReceived) t1 t2 → AtPlaces (λ k. CountsReceived) c1 c2 →
    AtPlaces (λ k. KnowsDeferred new.known) t1 t2 → AtPlaces (λ k. KnowsDeferred new.known) c1 c2 →
    DeferredHolds old bit plan t0 c0 → DeferredHolds new (bit + 1) plan t2 c2
counting_holds old new bit level plan t0 t1 t2 c0 c1 c2 h left left_too w w_too size size_too t c known known_too
    holds = record {
      talkers_deferred =
          counting_deferred old new bit level t1 t2 h t known (left_deferred old bit t0 t1 left holds.talkers_deferred);
      controllers_deferred = counting_deferred old new bit level c1 c2 h c known_too
          (left_deferred old bit c0 c1 left_too holds.controllers_deferred);
      talkers_not_due =
          counting_not_due old new plan t1 t2 h.next_start_is t (left_not_due old plan t0 t1 left
          holds.talkers_not_due);
      controllers_active = λ s. counting_active c1 c2 c
          (left_active c0 c1 left_too (holds.controllers_active (omega (arith, s, h.next_start_is))));
      talkers_within = subst (λ set. ActiveWithin set t2) (sym h.talkers_is) (counting_within old.talkers t1 t2 t w);
      controllers_within =
          subst (λ set. ActiveWithin set c2) (sym h.controllers_is) (counting_within old.controllers c1 c2 c w_too);
      talkers_fit = omega (arith, size, t.size, holds.talkers_fit);
      controllers_fit = omega (arith, size_too, c.size, holds.controllers_fit);
    }
