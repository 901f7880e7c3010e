-- What the active nodes do at a bit of which nothing is reported, and what follows for all.
use Rattle.std.proofs.Common.{◌≡◌, ℕ, Bool, true, false, Option, List, refl, sym, ap, subst, arith, inl}
use Rattle.std.proofs.Common.{◌∙◌}
use Rattle.std.proofs.lemmas.Option.{slice_get_within}
use Rattle.bx_core.specs.TxBus.{Item, BusPast, BusCall}
use Rattle.can_frame.specs.Frames.{FrameValue}
use Rattle.can_node.specs.Node.{IsSample, counters_in}
use Rattle.can_confinement.specs.declared.counters.Counters.{Counters}
use Rattle.can_station.specs.declared.member.Member.{Member}
use Rattle.can_station.specs.declared.plan.Talker.{Talker}
use Rattle.can_station.specs.Actions.{IsUneventful}
use Rattle.can_station.specs.Members.{PortSettles, PortStarts, Samples, SamplesOn, TalkerStarts}
use Rattle.can_station.specs.Places.{AtPlaces, AtBoth}
use Rattle.can_station.specs.Ports.{item_of}
use Rattle.can_station.specs.DeferredNodes.{AllGo, ActiveAreUneventful, IfActive, IfActiveBoth, MemberGoes}
use Rattle.can_station.specs.DeferredNodes.{TransmitsAll}
use Rattle.can_segment.specs.Segments.{AreFrom}
use Rattle.can_station.specs.Outcomes.{completed_by, sending_after}
use Rattle.can_station.proofs.Places.{same_some, some_there}
use Rattle.can_segment.proofs.Unmoved.{unmoved_requests, unmoved_settles, unmoved_talks}

still_uneventful : (bit : ℕ) (level : Bool) (old new : Member) → MemberGoes bit level old new → IsUneventful new.action
still_uneventful bit level old new h = subst IsUneventful (sym h.action_is) h.uneventful

goes_samples_on : (bit : ℕ) (level : Bool) (old new : Member) → MemberGoes bit level old new → SamplesOn level old new
goes_samples_on bit level old new h =
    let uneventful = still_uneventful bit level old new h in
    let none = uneventful.no_end in
    record {
      began_is = ap (λ action. action.began) h.action_is;
      names = inl uneventful;
      stands = subst (λ o. IsSample old.station.node level o new.station.node) (sym none) h.samples;
      history = h.history;
      sending_is = h.sending_is ∙ sym (ap (sending_after old.station.sending) none);
      completed_is = omega (arith, h.completed_is, ap completed_by none);
      bit_is = h.bit_is;
    }

goes_samples : (bit : ℕ) (level : Bool) (old new : Member) → MemberGoes bit level old new → Samples bit level old new
goes_samples bit level old new h = record {
  off = λ early. absurd (omega (arith, early, h.is_on));
  on_is = h.on_is;
  samples = λ late. goes_samples_on bit level old new h;
  reaps_none = λ late. (still_uneventful bit level old new h).no_reaping;
}

-- so where one is active
going : (bit : ℕ) (level : Bool) (old new : Member) → MemberGoes bit level old new →
    IfActive (MemberGoes bit level) old new
going bit level old new h = let active =
    h.active in record {
      stays_deferred = λ e. absurd (cc (e, active));
      stays_active = λ e. h.active_too;
      steps = λ e. h;
    }

deferred_on : (bit : ℕ) (level : Bool) (old new : Member) → new ≡ old → old.is_deferred ≡ true →
    IfActive (MemberGoes bit level) old new
deferred_on bit level old new same is =
    record { stays_deferred = λ e. same; stays_active = λ e. absurd (cc (e, is)); steps = λ e. absurd (cc (e, is)) }

-- so they start nothing,
pub go_starts : (bit : ℕ) (level : Bool) (plan : List Talker) (old new : List Member) → AllGo bit level old new →
    AtPlaces (λ k. IfActive (TalkerStarts bit plan k)) old old
go_starts bit level plan old new go = record {
  at = λ k a b p q.
      let same : b ≡ a = same_some b a (sym q ∙ p) in
      record {
        stays_deferred = λ e. same;
        stays_active = λ e. ap (λ m. m.is_deferred) same ∙ e;
        steps = λ e.
            let n = some_there new k (let there = slice_get_within old k a p in omega (arith, there, go.size)) in
            let h = (go.at k a n.0 p n.1).steps e in
            subst (TalkerStarts bit plan k a) (sym same) (unmoved_talks bit plan k a h.begins_none h.uneventful);
      };
  size = refl;
}

pub go_requests : {P : Type 0} (after : P → BusPast → Type 0) (asked : P → List BusCall → Type 0)
    (transmitting : P → Option Item) (stays : P → P → Type 0) (bit : ℕ) (level : Bool) (old new : List Member)
    (ports : List P) → ((x : P) → stays x x) →
    AllGo bit level old new → TransmitsAll transmitting old ports →
    AtBoth (λ k. IfActiveBoth (PortStarts after asked transmitting stays bit)) old old ports ports
go_requests after asked transmitting stays bit level old new ports same go sends = record {
  at = λ k a b p q ea eb ep eq.
      let same_member : b ≡ a = same_some b a (sym eb ∙ ea) in
      let same_port : q ≡ p = same_some q p (sym eq ∙ ep) in
      record {
        stays_deferred = λ e. (same_member, same_port);
        stays_active = λ e. ap (λ m. m.is_deferred) same_member ∙ e;
        steps = λ e.
            let n = some_there new k (let there = slice_get_within old k a ea in omega (arith, there, go.size)) in
            let h = (go.at k a n.0 ea n.1).steps e in
            subst (λ m. PortStarts after asked transmitting stays bit a m p q) (sym same_member)
            (subst (PortStarts after asked transmitting stays bit a a p) (sym same_port)
            (unmoved_requests after asked transmitting stays bit a p h.begins_none h.uneventful (sends k a p ea ep)
            (same p)));
      };
  size = refl;
  size_too = refl;
}

-- sample the level,
pub go_samples : (bit : ℕ) (level : Bool) (old new : List Member) → AllGo bit level old new →
    AtPlaces (λ k. IfActive (Samples bit level)) old new
go_samples bit level old new go = record {
  at = λ k a b p q. let s = go.at k a b p q in
      record {
        stays_deferred = s.stays_deferred;
        stays_active = s.stays_active;
        steps =
            λ e. goes_samples bit level a b (s.steps e);
      };
  size = go.size;
}

pub go_settles : {P : Type 0} (after : P → BusPast → Type 0) (asked : P → List BusCall → Type 0)
    (transmitting : P → Option Item) (sink : P → List FrameValue → Type 0) (stays : P → P → Type 0) (bit : ℕ)
    (level : Bool) (old new : List Member) (ports : List P) →
    ((x : P) → stays x x) → AllGo bit level old new → TransmitsAll transmitting old ports →
    AtBoth (λ k. IfActiveBoth (PortSettles after asked transmitting sink stays bit level)) old new ports ports
go_settles after asked transmitting sink stays bit level old new ports same go sends = record {
  at = λ k a b p q ea eb ep eq.
      let same_port : q ≡ p = same_some q p (sym eq ∙ ep) in
      let s = go.at k a b ea eb in
      record {
        stays_deferred = λ e. (s.stays_deferred e, same_port);
        stays_active = s.stays_active;
        steps = λ e.
            let h = s.steps e in
            subst (PortSettles after asked transmitting sink stays bit level a b p) (sym same_port)
            (unmoved_settles after asked transmitting sink stays bit level a b p h.is_on h.on_is
            (goes_samples_on bit level a b h) (still_uneventful bit level a b h)
            (sends k a p ea ep ∙ ap item_of (sym h.sending_is)) (same p));
      };
  size = go.size;
  size_too = refl;
}

-- nothing is reported of them,
pub go_uneventful : (bit : ℕ) (level : Bool) (old new : List Member) → AllGo bit level old new → ActiveAreUneventful bit
    new
go_uneventful bit level old new go k m e active on =
    let a = some_there old k (let there = slice_get_within new k m e in omega (arith, there, go.size)) in
    by a.0 (go.at k a.0 m a.1 e) a.0.is_deferred refl
  where
    by : (a : Member) → IfActive (MemberGoes bit level) a m → (b : Bool) → a.is_deferred ≡ b → IsUneventful m.action
    by a s true is = let same = ap (λ y. y.is_deferred) (s.stays_deferred is) in absurd (cc (active, same, is))
    by a s false is = still_uneventful bit level a m (s.steps is)

-- and counters that are shown of them stay shown
pub go_shown : (first bit : ℕ) (level : Bool) (old new : List Member) (counters : List Counters) →
    AllGo bit level old new → AreFrom first old counters → AreFrom first new counters
go_shown first bit level old new counters go h k m shown e f =
    let a = some_there old k (let there = slice_get_within new k m e in omega (arith, there, go.size)) in
    h k a.0 shown a.1 f ∙ by a.0 (go.at k a.0 m a.1 e) a.0.is_deferred refl
  where
    by : (a : Member) → IfActive (MemberGoes bit level) a m → (b : Bool) → a.is_deferred ≡ b →
        counters_in a.station.node ≡ counters_in m.station.node
    by a s true is = ap (λ y. counters_in y.station.node) (sym (s.stays_deferred is))
    by a s false is = sym (s.steps is).counts_none
