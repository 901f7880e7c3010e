-- Nodes that rest and sample a level together.
use Rattle.std.proofs.Common.{inr, ◌≡◌, ℕ, ◌+◌, ◌<◌, ◌≤◌, Bool, true, false, List, Some, slice_get, refl}
use Rattle.std.proofs.Common.{sym, subst, arith, ◌∙◌}
use Rattle.std.proofs.lemmas.List.{length-map}
use Rattle.std.proofs.lemmas.Option.{slice_get_within}
use Rattle.can_node.specs.declared.shared_receiver.SharedReceiver.{SharedReceiver}
use Rattle.can_node.specs.declared.shared_sample.SharedSample.{SharedSample}
use Rattle.can_node.specs.SharedReceiver.{AllShare}
use Rattle.can_station.specs.declared.member.Member.{Member}
use Rattle.can_station.specs.declared.plan.NodeFault.{NodeFault}
use Rattle.can_station.specs.Actions.{AreUneventful, IsUneventful}
use Rattle.can_station.specs.Members.{NodeSamples, Samples}
use Rattle.can_station.specs.Places.{AtPlaces}
use Rattle.can_station.specs.DeferredNodes.{ActiveAreUneventful, HasRoom, IfActive, LeavesDeferred, NoneDeferred}
use Rattle.can_station.specs.DeferredNodes.{Shares, TellsNone}
use Rattle.can_station.specs.DeferredNodes.{Unfaulted}
use Rattle.can_station.specs.DeferredNodes.{materialized_member, resumed}
use Rattle.can_station.proofs.Places.{some_there}
use Rattle.can_segment.specs.declared.deferred.Deferred.{Deferred}
use Rattle.can_segment.specs.DeferredState.{AreDeferred, materialized}
use Rattle.can_segment.proofs.DeferredState.{unfaulted_level}
use Rattle.can_segment.proofs.Shown.{map_at, map_there}
use Rattle.can_segment.proofs.Resumed.{active_resumed, none_deferred_at, deferred_resumed, resumes_same}

-- all that were resumed are those for which they stood
pub all_resumed_same : (deferred : Deferred) (bit : ℕ) (old new : List Member) →
    AtPlaces (λ k a b. b ≡ resumed deferred.shared_receiver bit a) old new → materialized deferred bit new ≡
    materialized deferred bit old
all_resumed_same deferred bit old new has_resumed = resumes_same _ deferred.shared_receiver bit old new (λ k a b is. inr
    is) has_resumed

-- none of them is deferred then
pub none_left : (shared : SharedSample) (bit : ℕ) (level : Bool) (mid after : List Member) →
    AtPlaces (λ k. Shares shared bit level) mid after → NoneDeferred after
none_left shared bit level mid after shares k m e =
    let within = slice_get_within after k m e in
    let b = some_there mid k (omega (arith, within, shares.size)) in (shares.at k b.0 m b.1 e).resumes

-- so do all for which they stand, the active nodes by themselves
one_shares : (Step : Member → Member → Type 0) (shared_receiver : SharedReceiver) (shared : SharedSample) (bit : ℕ)
    (level : Bool)
    (a b c : Member) → (a.is_deferred ≡ true → Shares shared bit level a c → Step (materialized_member shared_receiver
    bit a) c) →
    IfActive Step a b →
    Shares shared bit level b c → Step (resumed shared_receiver bit a) c
one_shares Step shared_receiver shared bit level a b c is_deferred s shares = by a.is_deferred refl
  where
    by : (any_deferred : Bool) → a.is_deferred ≡ any_deferred → Step (resumed shared_receiver bit a) c
    by true e = subst (λ m. Step m c) (sym (deferred_resumed shared_receiver bit a e))
        (is_deferred e (subst (λ m. Shares shared bit level m c) (s.stays_deferred e) shares))
    by false e = subst (λ m. Step m c) (sym (active_resumed shared_receiver bit a e))
        (subst (Step a) (sym (shares.was_active (s.stays_active e))) (s.steps e))

pub all_share : (old new : Deferred) (bit : ℕ) (level : Bool) (shared : SharedSample) (faults : List NodeFault)
    (before mid after : List Member) → AllShare old.shared_receiver level shared → AreDeferred old bit before →
    Unfaulted faults 0 bit before → AtPlaces (λ k. IfActive (NodeSamples 0 bit level faults k)) before mid →
    AtPlaces (λ k. Shares shared bit level) mid after →
    AtPlaces (NodeSamples 0 bit level faults) (materialized old bit before) (materialized new (bit + 1) after)
all_share old new bit level shared faults before mid after all is_deferred unfaulted sampled shares =
    subst (AtPlaces (NodeSamples 0 bit level faults) (materialized old bit before))
    (sym (none_deferred_at new.shared_receiver (bit + 1) after (none_left shared bit level mid after shares))) (record {
      at = λ k x c p q.
          let a = map_at (resumed old.shared_receiver bit) before k x p in
          let b = some_there mid k (let within = slice_get_within before k a.0 a.1 in
          omega (arith, within, sampled.size)) in
          subst (λ m. NodeSamples 0 bit level faults k m c) a.2
          (one_shares (NodeSamples 0 bit level faults k) old.shared_receiver shared bit level a.0 b.0 c
          (λ is share. let h = is_deferred k a.0 a.1 is in
          subst (λ l. Samples bit l (materialized_member old.shared_receiver bit a.0) c)
          (unfaulted_level faults (0 + k) bit level (unfaulted k a.0 a.1 is))
          (share.samples is h.is_on h.uneventful old.shared_receiver all))
          (sampled.at k a.0 b.0 a.1 b.1) (shares.at k b.0 c b.1 q));
      size = shares.size ∙ sampled.size ∙ sym (length-map before (resumed old.shared_receiver bit));
    })

-- each of them may complete one more
pub completed_room : (limit : ℕ) (deferred : Deferred) (bit : ℕ) (before mid : List Member) → LeavesDeferred before mid
    →
    AreDeferred deferred bit before → HasRoom limit bit (materialized deferred bit before) → (k : ℕ) (m : Member) →
    slice_get mid k ≡ Some m → m.is_deferred ≡ true →
    m.station.completed < limit
completed_room limit deferred bit before mid left is_deferred room k m e is =
    let here = left k m e is in
    let h = is_deferred k m here is in
    (room k (resumed deferred.shared_receiver bit m) (map_there (resumed deferred.shared_receiver bit) before k m here)
    refl h.is_on).1

-- where nothing is reported of those that sampled by themselves, nor of those that did so together
one_uneventful : (shared : SharedSample) (bit : ℕ) (level : Bool) (a b : Member) → Shares shared bit level a b →
    TellsNone a b → (a.is_deferred ≡ false → a.on ≤ bit → IsUneventful a.action) → b.on ≤ bit → IsUneventful b.action
one_uneventful shared bit level a b shares tells active on = by a.is_deferred refl
  where
    by : (any_deferred : Bool) → a.is_deferred ≡ any_deferred → IsUneventful b.action
    by true e = tells e
    by false e =
        let same = shares.was_active e in
        subst (λ m. IsUneventful m.action) (sym same) (active e (subst (λ m. m.on ≤ bit) same on))

pub shared_uneventful : (deferred : Deferred) (shared : SharedSample) (bit : ℕ) (level : Bool) (mid after : List Member)
    →
    AtPlaces (λ k. Shares shared bit level) mid after → AtPlaces (λ k. TellsNone) mid after →
    ActiveAreUneventful bit mid → AreUneventful bit (materialized deferred (bit + 1) after)
shared_uneventful deferred shared bit level mid after shares tells uneventful =
    subst (AreUneventful bit)
    (sym (none_deferred_at deferred.shared_receiver (bit + 1) after (none_left shared bit level mid after shares)))
    (λ k m e on.
    let b = some_there mid k (let within = slice_get_within after k m e in omega (arith, within, shares.size)) in
    one_uneventful shared bit level b.0 m (shares.at k b.0 m b.1 e) (tells.at k b.0 m b.1 e) (uneventful k b.0 b.1) on)

-- nor of controllers, which are all active
pub active_uneventful : (deferred : Deferred) (bit : ℕ) (members : List Member) → NoneDeferred members →
    ActiveAreUneventful bit members →
    AreUneventful bit (materialized deferred (bit + 1) members)
active_uneventful deferred bit members none uneventful =
    subst (AreUneventful bit) (sym (none_deferred_at deferred.shared_receiver (bit + 1) members none))
    (λ k m e on. uneventful k m e (none k m e) on)
