-- Nodes that are left alone while a listener follows the line for them.
use Rattle.std.proofs.Common.{◌≡◌, ℕ, zero, suc, ◌+◌, ◌<◌, ◌≤◌, ◌&&◌, nat_le, inl, inr, cond, Bool, true, false, Option}
use Rattle.std.proofs.Common.{None, Some, is_some, List, [], ◌∷◌, length, slice_get, refl, sym, ap, subst, arith, ◌∙◌}
use Rattle.std.specs.List.{list_all}
use Rattle.std.proofs.lemmas.Bool.Decides.{leb_tells}
use Rattle.std.proofs.lemmas.List.{length-map}
use Rattle.can_frame.specs.Frames.{FrameValue}
use Rattle.bx_core.specs.TxBus.{Item, BusPast, BusCall}
use Rattle.can_node.specs.Histories.{Past}
use Rattle.can_confinement.specs.KnownCounts.{Knows}
use Rattle.can_node.specs.SharedReceiver.{materialized as materialized_node}
use Rattle.can_node.specs.Node.{IsSample, IsWanting, StandsAfter, counters_in, driven_by, may_begin}
use Rattle.can_node.specs.declared.node.Node.{Node}
use Rattle.can_node.specs.declared.shared_receiver.SharedReceiver.{SharedReceiver}
use Rattle.can_node.proofs.Samples.{stands_history, wanting}
use Rattle.can_node.specs.declared.outcome.Outcome.TheVariants.{Nothing}
use Rattle.can_station.specs.declared.action.Action.{Action}
use Rattle.can_station.specs.declared.member.Member.{Member}
use Rattle.can_station.specs.Queues.{IsNotDueBefore, due_at}
use Rattle.can_station.specs.declared.plan.NodeFault.{NodeFault}
use Rattle.can_station.specs.declared.plan.Talker.{Talker}
use Rattle.can_segment.specs.declared.deferred.Deferred.{Deferred}
use Rattle.can_station.specs.Faults.{is_inverted, sampled_level}
use Rattle.can_station.specs.Actions.{AreUneventful, IsUneventful}
use Rattle.can_station.specs.Members.{NodeSamples, PortSettles, PortStarts, Samples, SamplesOn, TalkerStarts, drives_at}
use Rattle.can_station.specs.Places.{AtPlaces, AtBoth}
use Rattle.can_station.specs.Ports.{item_of}
use Rattle.can_station.specs.Stations.{IsTalk}
use Rattle.can_segment.specs.DeferredState.{AreDeferred, AreNotDue, Drives, IsDeferred, FollowsThrough, NoneStarts}
use Rattle.can_segment.specs.DeferredState.{materialized}
use Rattle.can_station.specs.DeferredNodes.{ActiveAreUneventful, HasRoom, IfActive, IfActiveBoth, NoneDeferred}
use Rattle.can_station.specs.DeferredNodes.{TransmitsAll}
use Rattle.can_station.specs.DeferredNodes.{Unfaulted, materialized_member, resumed}
use Rattle.can_station.specs.Outcomes.{completed_by, sending_after}
use Rattle.can_segment.proofs.Shown.{map_at, map_there}
use Rattle.can_segment.proofs.Unmoved.{unmoved_requests, unmoved_settles}
use Rattle.can_segment.proofs.Resumed.{active_resumed, found_active, lift_both, lift_places, deferred_resumed}

-- a deferred node does not start,
and_false : (b : Bool) → (b && false) ≡ false
and_false true = refl
and_false false = refl

talks_none : (deferred : Deferred) (bit : ℕ) (m : Member) (next : Option FrameValue) → NoneStarts deferred bit →
    (bit < deferred.next_start → next ≡ None) →
    IsTalk (materialized_member deferred.shared_receiver bit m).station (materialized_member deferred.shared_receiver
    bit m).station next false
talks_none deferred bit m next none not_due =
    record { begins = λ e. absurd (cc e); stays = λ e. refl; wants = λ past stood. tells past stood none }
  where
    tells : (past : Past) → StandsAfter (materialized_member deferred.shared_receiver bit m).station.node past →
        NoneStarts deferred bit → (is : Bool) × IsWanting past is × (false ≡ (is && is_some next))
    tells past stood (inl before) =
        let node = (materialized_member deferred.shared_receiver bit m).station.node in (
          may_begin node,
          wanting node (may_begin node) refl past stood,
          sym (ap (λ o. may_begin node && is_some o) (not_due before) ∙ and_false (may_begin node)),
        )
    tells past stood (inr wants) = (
      false,
      wanting (materialized_member deferred.shared_receiver bit m).station.node false (sym (wants m.station.node bit))
          past stood,
      refl,
    )

deferred_talks : (deferred : Deferred) (bit : ℕ) (talkers : List Talker) (k : ℕ) (m : Member) → NoneStarts deferred bit →
    IsDeferred deferred bit m →
    ((talker : Talker) → slice_get talkers k ≡ Some talker →
    IsNotDueBefore talker.queue.items m.station.completed deferred.next_start) →
    TalkerStarts bit talkers k (materialized_member deferred.shared_receiver bit m) (materialized_member
    deferred.shared_receiver bit m)
deferred_talks deferred bit talkers k m none is_deferred not_due talker e = record {
  off = λ early. refl;
  on_is = refl;
  talks = λ late. subst (IsTalk (materialized_member deferred.shared_receiver bit m).station
      (materialized_member deferred.shared_receiver bit m).station
      (due_at talker.queue.items m.station.completed bit)) (sym is_deferred.uneventful.no_start)
      (talks_none deferred bit m (due_at talker.queue.items m.station.completed bit) none
      (λ before. not_due talker e bit before));
}

deferred_requests : {P : Type 0} (after : P → BusPast → Type 0) (asked : P → List BusCall → Type 0)
    (transmitting : P → Option Item) (stays : P → P → Type 0) (deferred : Deferred) (bit : ℕ) (m : Member) (p : P) →
    ((node : Node) (next : ℕ) → may_begin (materialized_node node deferred.shared_receiver next) ≡ false) → IsDeferred
    deferred bit m →
    transmitting p ≡ item_of m.station.sending → stays p p →
    PortStarts after asked transmitting stays bit (materialized_member deferred.shared_receiver bit m)
    (materialized_member deferred.shared_receiver bit m) p p
deferred_requests after asked transmitting stays deferred bit m p wants is_deferred sends same =
    unmoved_requests after asked transmitting stays bit (materialized_member deferred.shared_receiver bit m) p
    (wants m.station.node bit) is_deferred.uneventful sends same

-- drives what the listener does,
on_at : (on bit : ℕ) → on ≤ bit → nat_le on bit ≡ true
on_at on bit h =
    elim (leb_tells on bit) [ inl is ↦ is.0 | inr isnt ↦ absurd (let less = isnt.1 in omega (arith, h, less)) ]

deferred_drives : (deferred : Deferred) (bit : ℕ) (m : Member) (drive : Bool) → Drives deferred drive → IsDeferred
    deferred bit m →
    drives_at bit (materialized_member deferred.shared_receiver bit m) ≡ drive
deferred_drives deferred bit m drive drives is_deferred =
    ap (λ b. cond b (driven_by (materialized_member deferred.shared_receiver bit m).station.node) true) (on_at m.on bit
    is_deferred.is_on)
    ∙ sym (drives is_deferred.listening m.station.node bit)

-- A deferred node, before a bit and behind it: it has sampled this level, and nothing is reported of it.
pub record Sleeps (bit : ℕ) (level : Bool) (before behind : SharedReceiver) (old new : Member) : Type 0 where
  pub is_on : old.on ≤ bit
  pub on_is : new.on ≡ old.on
  pub uneventful : IsUneventful new.action
  pub action_is : new.action ≡ old.action
  pub sending_is : new.station.sending ≡ old.station.sending
  pub completed_is : new.station.completed ≡ old.station.completed
  pub samples : IsSample (materialized_node old.station.node before bit) level Nothing
      (materialized_node new.station.node behind (bit + 1))

sleeps_through : (old new : Deferred) (bit : ℕ) (level : Bool) (m : Member) → FollowsThrough bit level old new →
    IsDeferred old bit m → Sleeps bit level old.shared_receiver new.shared_receiver m m
sleeps_through old new bit level m through is_deferred = record {
  is_on = is_deferred.is_on;
  on_is = refl;
  uneventful = is_deferred.uneventful;
  action_is = refl;
  sending_is = refl;
  completed_is = refl;
  samples = through.follows m.station.node is_deferred.known;
}

-- so does the one for which it stands
deferred_samples_on : (before behind : SharedReceiver) (bit : ℕ) (level : Bool) (a b : Member) →
    Sleeps bit level before behind a b → SamplesOn level (materialized_member before bit a) (materialized_member behind
    (bit + 1) b)
deferred_samples_on before behind bit level a b h =
    let none = h.uneventful.no_end in
    record {
      began_is = ap (λ (d : Action). d.began) h.action_is;
      names = inl h.uneventful;
      stands = subst (λ o. IsSample (materialized_node a.station.node before bit) level o
          (materialized_node b.station.node behind (bit + 1))) (sym none) h.samples;
      history = stands_history (materialized_member behind (bit + 1) b).station.node;
      sending_is = h.sending_is ∙ sym (ap (sending_after a.station.sending) none);
      completed_is = omega (arith, h.completed_is, ap completed_by none);
      bit_is = refl;
    }

pub deferred_samples : (before behind : SharedReceiver) (bit : ℕ) (level : Bool) (a b : Member) →
    Sleeps bit level before behind a b → Samples bit level (materialized_member before bit a) (materialized_member
    behind (bit + 1) b)
deferred_samples before behind bit level a b h = record {
  off = λ early. absurd (omega (arith, early, h.is_on));
  on_is = h.on_is;
  samples = λ late. deferred_samples_on before behind bit level a b h;
  reaps_none = λ late. h.uneventful.no_reaping;
}

pub deferred_settles : {P : Type 0} (after : P → BusPast → Type 0) (asked : P → List BusCall → Type 0)
    (transmitting : P → Option Item) (sink : P → List FrameValue → Type 0) (stays : P → P → Type 0)
    (before behind : SharedReceiver) (bit : ℕ) (level : Bool) (a b : Member) (p : P) →
    Sleeps bit level before behind a b → transmitting p ≡ item_of a.station.sending → stays p p →
    PortSettles after asked transmitting sink stays bit level (materialized_member before bit a)
    (materialized_member behind (bit + 1) b) p p
deferred_settles after asked transmitting sink stays before behind bit level a b p h sends same =
    unmoved_settles after asked transmitting sink stays bit level (materialized_member before bit a)
    (materialized_member behind (bit + 1) b) p h.is_on h.on_is (deferred_samples_on before behind bit level a b h)
    h.uneventful
    (sends ∙ ap item_of (sym h.sending_is)) same

-- The talkers of which the active nodes start: so do all for which they stand.
pub talkers_start : (deferred : Deferred) (bit : ℕ) (plan : List Talker) (t0 t1 : List Member) → NoneStarts deferred bit →
    AreDeferred deferred bit t0 → AreNotDue deferred plan t0 → AtPlaces (λ k. IfActive (TalkerStarts bit plan k)) t0
    t1 →
    AtPlaces (TalkerStarts bit plan) (materialized deferred bit t0) (materialized deferred bit t1)
talkers_start deferred bit plan t0 t1 none is_deferred not_due moves =
    lift_places (TalkerStarts bit plan) deferred.shared_receiver deferred.shared_receiver bit bit t0 t1
    (λ k m e is. deferred_talks deferred bit plan k m none (is_deferred k m e is) (λ talker f. not_due k m talker e f
    is)) moves

-- no deferred controller wants to start
pub wishes_none : (deferred : Deferred) (bit : ℕ) (controllers : List Member) → NoneStarts deferred bit →
    (0 < deferred.next_start → NoneDeferred controllers) → (k : ℕ) (m : Member) → slice_get controllers k ≡ Some m →
    m.is_deferred ≡ true →
    (node : Node) (next : ℕ) → may_begin (materialized_node node deferred.shared_receiver next) ≡ false
wishes_none deferred bit controllers none active k m e is = elim none [
  | inl before ↦ (λ node next. absurd (let not = active (omega (arith, before)) k m e in cc (is, not)))
  | inr wants ↦ wants
]

pub controllers_start : {P : Type 0} (after : P → BusPast → Type 0) (asked : P → List BusCall → Type 0)
    (transmitting : P → Option Item) (stays : P → P → Type 0) (deferred : Deferred) (bit : ℕ) (c0 c1 : List Member)
    (from to : List P) →
    ((x : P) → stays x x) → NoneStarts deferred bit → AreDeferred deferred bit c0 →
    (0 < deferred.next_start → NoneDeferred c0) →
    TransmitsAll transmitting c0 from → length from ≡ length c0 →
    AtBoth (λ k. IfActiveBoth (PortStarts after asked transmitting stays bit)) c0 c1 from to →
    AtBoth (λ k. PortStarts after asked transmitting stays bit) (materialized deferred bit c0)
    (materialized deferred bit c1) from to
controllers_start after asked transmitting stays deferred bit c0 c1 from to same none is_deferred active sends sizes
    moves =
    lift_both (λ k. PortStarts after asked transmitting stays bit) deferred.shared_receiver deferred.shared_receiver bit
    bit c0 c1 from to
    sizes
    (λ k m p e f is. deferred_requests after asked transmitting stays deferred bit m p
    (wishes_none deferred bit c0 none active k m e is) (is_deferred k m e is) (sends k m p e f) (same p)) moves

-- the AND of what all drive
pub all_drive : (deferred : Deferred) (bit : ℕ) (drive : Bool) (members : List Member) → Drives deferred drive →
    AreDeferred deferred bit members →
    list_all (λ m. cond m.is_deferred drive (drives_at bit m)) members ≡ list_all (drives_at bit)
    (materialized deferred bit members)
all_drive deferred bit drive [] drives is_deferred = refl
all_drive deferred bit drive (m ∷ members) drives is_deferred =
    ap (λ b. b && list_all (λ x. cond x.is_deferred drive (drives_at bit x)) members) (by m.is_deferred refl)
    ∙ ap (λ b. drives_at bit (resumed deferred.shared_receiver bit m) && b)
    (all_drive deferred bit drive members drives (λ k x e is. is_deferred (suc k) x e is))
  where
    by : (b : Bool) → m.is_deferred ≡ b → cond m.is_deferred drive (drives_at bit m) ≡ drives_at bit (resumed
        deferred.shared_receiver bit m)
    by true is = ap (λ b. cond b drive (drives_at bit m)) is
        ∙ sym (deferred_drives deferred bit m drive drives (is_deferred zero m refl is))
        ∙ ap (drives_at bit) (sym (deferred_resumed deferred.shared_receiver bit m is))
    by false is =
        ap (λ b. cond b drive (drives_at bit m)) is ∙ ap (drives_at bit) (sym (active_resumed deferred.shared_receiver
        bit m is))

-- Nodes of which the active nodes sample the line: so do all for which they stand.
pub unfaulted_level : (faults : List NodeFault) (n bit : ℕ) (level : Bool) → is_inverted faults n bit ≡ false →
    level ≡ sampled_level faults n bit level
unfaulted_level faults n bit level none = sym (ap (λ b. cond b (not_ level) level) none)
  where
    not_ : Bool → Bool
    not_ true = false
    not_ false = true

pub members_sample : (old new : Deferred) (bit first : ℕ) (level : Bool) (faults : List NodeFault)
    (before after : List Member) → AreDeferred old bit before → Unfaulted faults first bit before →
    ((k : ℕ) (m : Member) → slice_get before k ≡ Some m → m.is_deferred ≡ true → FollowsThrough bit level old new) →
    AtPlaces (λ k. IfActive (NodeSamples first bit level faults k)) before after →
    AtPlaces (NodeSamples first bit level faults) (materialized old bit before) (materialized new (bit + 1) after)
members_sample old new bit first level faults before after is_deferred unfaulted through moves =
    lift_places (NodeSamples first bit level faults) old.shared_receiver new.shared_receiver bit (bit + 1) before after
    (λ k m e is. subst (λ l. Samples bit l (materialized_member old.shared_receiver bit m) (materialized_member
    new.shared_receiver (bit + 1) m))
    (unfaulted_level faults (first + k) bit level (unfaulted k m e is))
    (deferred_samples old.shared_receiver new.shared_receiver bit level m m
    (sleeps_through old new bit level m (through k m e is) (is_deferred k m e is)))) moves

pub controllers_sample : {P : Type 0} (after : P → BusPast → Type 0) (asked : P → List BusCall → Type 0)
    (transmitting : P → Option Item) (sink : P → List FrameValue → Type 0) (stays : P → P → Type 0) (old new : Deferred)
    (bit first : ℕ) (level : Bool) (faults : List NodeFault)
    (c0 c1 : List Member) (from to : List P) → ((x : P) → stays x x) → AreDeferred old bit c0 →
    Unfaulted faults first bit c0 → ((k : ℕ) (m : Member) → slice_get c0 k ≡ Some m → m.is_deferred ≡ true →
    FollowsThrough bit level old new) →
    TransmitsAll transmitting c0 from → length from ≡ length c0 →
    AtBoth
    (λ k. IfActiveBoth (PortSettles after asked transmitting sink stays bit
    (sampled_level faults (first + k) bit level))) c0 c1 from to →
    AtBoth (λ k. PortSettles after asked transmitting sink stays bit (sampled_level faults (first + k) bit level))
    (materialized old bit c0) (materialized new (bit + 1) c1) from to
controllers_sample after asked transmitting sink stays old new bit first level faults c0 c1 from to same is_deferred
    unfaulted through sends sizes moves =
    lift_both (λ k. PortSettles after asked transmitting sink stays bit (sampled_level faults (first + k) bit level))
    old.shared_receiver new.shared_receiver bit (bit + 1) c0 c1 from to sizes
    (λ k m p e f is. subst (λ l. PortSettles after asked transmitting sink stays bit l (materialized_member
    old.shared_receiver bit m)
    (materialized_member new.shared_receiver (bit + 1) m) p p)
    (unfaulted_level faults (first + k) bit level (unfaulted k m e is))
    (deferred_settles after asked transmitting sink stays old.shared_receiver new.shared_receiver bit level m m p
    (sleeps_through old new bit level m (through k m e is) (is_deferred k m e is)) (sends k m p e f) (same p))) moves

-- behind a bit through which they rest
pub next_deferred : (old new : Deferred) (bit : ℕ) (level : Bool) (m : Member) → FollowsThrough bit level old new →
    IsDeferred old bit m → IsDeferred new (bit + 1) m
next_deferred old new bit level m through is_deferred = record {
  some_deferred = through.any_deferred ∙ is_deferred.some_deferred;
  is_on = omega (arith, is_deferred.is_on);
  uneventful = is_deferred.uneventful;
  known = subst (λ known. Knows known (counters_in m.station.node)) (sym through.known_is) is_deferred.known;
  listening = through.listens is_deferred.listening;
}

-- nothing is reported of the deferred nodes, and so of none if nothing is of the active nodes
pub all_uneventful : (deferred : Deferred) (bit : ℕ) (members : List Member) → AreDeferred deferred (bit + 1) members →
    ActiveAreUneventful bit members → AreUneventful bit (materialized deferred (bit + 1) members)
all_uneventful deferred bit members is_deferred uneventful k x e on =
    let m = map_at (resumed deferred.shared_receiver (bit + 1)) members k x e in
    subst (λ y. IsUneventful y.action) m.2 (by m.0 m.1 (subst (λ y. y.on ≤ bit) (sym m.2) on) m.0.is_deferred refl)
  where
    by : (m : Member) → slice_get members k ≡ Some m → m.on ≤ bit → (b : Bool) → m.is_deferred ≡ b → IsUneventful
        m.action
    by m f early true is = (is_deferred k m f is).uneventful
    by m f early false is = uneventful k m f is early

-- a node and the one for which it stands are alike but for the node itself
pub record IsOf (real whole : Member) : Type 0 where
  pub on_is : whole.on ≡ real.on
  pub sending_is : whole.station.sending ≡ real.station.sending
  pub completed_is : whole.station.completed ≡ real.station.completed
  pub counters_are : counters_in whole.station.node ≡ counters_in real.station.node
  pub action_is : whole.action ≡ real.action

of_member : (shared_receiver : SharedReceiver) (bit : ℕ) (m : Member) → IsOf m (resumed shared_receiver bit m)
of_member shared_receiver bit m =
    record { on_is = refl; sending_is = refl; completed_is = refl; counters_are = by m.is_deferred; action_is = refl }
  where
    by : (b : Bool) → counters_in (cond b (materialized_node m.station.node shared_receiver bit) m.station.node)
        ≡ counters_in m.station.node
    by true = refl
    by false = refl

pub whole_at : (deferred : Deferred) (bit : ℕ) (members : List Member) (k : ℕ) (m : Member) → slice_get members k ≡ Some
    m →
    (x : Member) × (slice_get (materialized deferred bit members) k ≡ Some x) × IsOf m x
whole_at deferred bit members k m e = (
  resumed deferred.shared_receiver bit m,
  map_there (resumed deferred.shared_receiver bit) members k m e,
  of_member
      deferred.shared_receiver bit m,
)

pub real_at : (deferred : Deferred) (bit : ℕ) (members : List Member) (k : ℕ) (x : Member) →
    slice_get (materialized deferred bit members) k ≡ Some x → (m : Member) × (slice_get members k ≡ Some m) × IsOf m x
real_at deferred bit members k x e = let m = map_at (resumed deferred.shared_receiver bit) members k x e in
    (m.0, m.1, subst (IsOf m.0) m.2 (of_member deferred.shared_receiver bit m.0))

pub transmits_real : {P : Type 0} (transmitting : P → Option Item) (deferred : Deferred) (bit : ℕ) (members : List
    Member)
    (ports : List P) → TransmitsAll transmitting (materialized deferred bit members) ports →
    TransmitsAll transmitting members ports
transmits_real transmitting deferred bit members ports h k m p e f =
    let x = whole_at deferred bit members k m e in
    h k x.0 p x.1 f ∙ ap item_of x.2.sending_is

pub room_real : (limit : ℕ) (deferred : Deferred) (bit : ℕ) (members : List Member) →
    HasRoom limit bit (materialized deferred bit members) → HasRoom limit bit members
room_real limit deferred bit members h k m e is on = h k m (found_active deferred.shared_receiver bit members k m e is)
    is on

pub members_length : (deferred : Deferred) (bit : ℕ) (members : List Member) →
    length (materialized deferred bit members) ≡ length members
members_length deferred bit members = length-map members (resumed deferred.shared_receiver bit)

-- none of those is deferred for which they stand
pub active_at : (deferred : Deferred) (bit : ℕ) (members : List Member) (k : ℕ) (x : Member) →
    slice_get (materialized deferred bit members) k ≡ Some x → x.is_deferred ≡ false
active_at deferred bit members k x e = let m = map_at (resumed deferred.shared_receiver bit) members k x e in ap (λ y.
    y.is_deferred) (sym m.2)
