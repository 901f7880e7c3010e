-- A bit of which nothing is reported.
use Rattle.std.proofs.Common.{◌≡◌, ◌≢◌, ℕ, zero, suc, ◌+◌, ◌&&◌, Bool, true, false, Some, None}
use Rattle.std.proofs.Common.{IfSome, Option, List, [], ◌∷◌, length, slice_get, refl, sym, ap, subst, arith}
use Rattle.std.proofs.Common.{◌∙◌}
use Rattle.std.specs.List.{list_all}
use Rattle.std.proofs.lemmas.List.{length-map}
use Rattle.std.proofs.lemmas.Option.{slice_get_within}
use Rattle.bx_core.specs.TxBus.{Item, BusPast, BusCall}
use Rattle.can_frame.specs.Frames.{FrameValue}
use Rattle.can_node.specs.SharedReceiver.{Follows, IsListening}
use Rattle.can_node.specs.Node.{may_begin}
use Rattle.can_confinement.specs.declared.counters.Counters.{Counters}
use Rattle.can_node.specs.declared.shared_receiver.SharedReceiver.{SharedReceiver}
use Rattle.can_station.specs.declared.member.Member.{Member}
use Rattle.can_station.specs.declared.plan.Talker.{Talker}
use Rattle.can_segment.specs.declared.deferred.Deferred.{Deferred}
use Rattle.can_station.specs.Actions.{AreUneventful}
use Rattle.can_station.specs.Members.{PortSettles, PortStarts, Samples, TalkerStarts, drives_at, is_on, wants_at}
use Rattle.can_station.specs.Places.{AtPlaces, AtBoth}
use Rattle.can_station.specs.Ports.{item_of}
use Rattle.can_segment.specs.DeferredState.{IsUneventfulBit, driven_beside, DeferredHolds, FollowsThrough}
use Rattle.can_segment.specs.DeferredState.{materialized}
use Rattle.can_station.specs.DeferredNodes.{AllGo, MemberGoes, TransmitsAll}
use Rattle.can_station.specs.DeferredNodes.{materialized_member, passes, resumed}
use Rattle.can_segment.specs.Segments.{AreFrom, sending_of_all}
use Rattle.can_station.proofs.Places.{same_some, some_there}
use Rattle.can_segment.proofs.Holds.{left_holds, through_holds}
use Rattle.can_segment.proofs.DeferredState.{all_drive, all_uneventful, controllers_sample, controllers_start}
use Rattle.can_segment.proofs.DeferredState.{members_length}
use Rattle.can_segment.proofs.DeferredState.{members_sample, talkers_start, transmits_real, wishes_none}
use Rattle.can_segment.proofs.Shown.{map_at, map_there}
use Rattle.can_station.proofs.PlaceSets.{all_pass, within_places}
use Rattle.can_segment.proofs.Resumed.{active_resumed, left_places, deferred_resumed, same_list}
use Rattle.can_segment.proofs.Going.{go_uneventful, go_requests, go_samples, go_settles, go_shown, go_starts}

pub and_true : (b : Bool) → (b && true) ≡ b
and_true true = refl
and_true false = refl

-- the AND of what all drive is what it drives
pub one_passes : {M : Type 0} (test : M → Bool) (place : ℕ) (xs : List M) →
    ((k : ℕ) (m : M) → slice_get xs k ≡ Some m → k ≢ place → test m ≡ true) →
    list_all test xs ≡ passes test (slice_get xs place)
one_passes test place [] h = refl
one_passes test zero (x ∷ xs) h =
    ap (λ b. test x && b) (all_pass test xs (λ k m e. h (suc k) m e (λ is. omega (arith, is)))) ∙ and_true (test x)
one_passes test (suc place) (x ∷ xs) h = ap (λ b. b && list_all test xs) (h zero x refl (λ is. omega (arith, is)))
    ∙ one_passes test place xs (λ k m e not. h (suc k) m e (λ is. not (omega (arith, is))))

-- the deferred nodes, with this listener
abbrev pub with_shared_receiver : Deferred → SharedReceiver → Deferred
with_shared_receiver deferred shared_receiver = record {
  shared_receiver = shared_receiver;
  any_deferred = deferred.any_deferred;
  known = deferred.known;
  next_start = deferred.next_start;
  talkers = deferred.talkers;
  controllers = deferred.controllers;
}

pub follows_through : (deferred : Deferred) (bit : ℕ) (after : SharedReceiver) (level : Bool) →
    Follows deferred.known deferred.shared_receiver bit level after → IsListening after →
    FollowsThrough bit level deferred (with_shared_receiver deferred after)
follows_through deferred bit after level follows listens = record {
  any_deferred = refl;
  talkers_is = refl;
  controllers_is = refl;
  known_is = refl;
  next_start_is = refl;
  follows = follows;
  listens = λ was. listens;
}

pub if_some : {A : Type 0} (P Q : A → Type 0) (o : Option A) → ((x : A) → P x → Q x) → IfSome o P → IfSome o Q
if_some P Q None h given = tt
if_some P Q (Some x) h given = h x given

pub both_if_some : {A : Type 0} (P Q R : A → Type 0) (o : Option A) → ((x : A) → P x → Q x → R x) → IfSome o P →
    IfSome o Q → IfSome o R
both_if_some P Q R None h one other = tt
both_if_some P Q R (Some x) h one other = h x one other

pub talkers_start_alone : (plan : List Talker) (bit : ℕ) (level : Bool) (old new : Deferred) (t0 t1 c0 c1 : List Member)
    →
    IsUneventfulBit bit level old new t0 t1 c0 c1 → DeferredHolds old bit plan t0 c0 →
    AtPlaces (TalkerStarts bit plan) (materialized old bit t0) (materialized old bit t0)
talkers_start_alone plan bit level old new t0 t1 c0 c1 h is_deferred =
    talkers_start old bit plan t0 t0 h.starts_none is_deferred.talkers_deferred is_deferred.talkers_not_due
    (go_starts bit level plan t0 t1 h.talkers)

pub talkers_sample_alone : (plan : List Talker) (bit : ℕ) (level : Bool) (old new : Deferred) (t0 t1 c0 c1 : List
    Member) →
    IsUneventfulBit bit level old new t0 t1 c0 c1 → DeferredHolds old bit plan t0 c0 →
    AtPlaces (λ k. Samples bit level) (materialized old bit t0) (materialized new (bit + 1) t1)
talkers_sample_alone plan bit level old new t0 t1 c0 c1 h is_deferred =
    members_sample old new bit 0 level [] t0 t1 is_deferred.talkers_deferred (λ k m e is. refl) (λ k m e is. h.through)
    (go_samples bit level t0 t1 h.talkers)

pub controllers_start_alone : {P : Type 0} (after : P → BusPast → Type 0) (asked : P → List BusCall → Type 0)
    (transmitting : P → Option Item) (stays : P → P → Type 0) (plan : List Talker) (bit : ℕ) (level : Bool)
    (old new : Deferred)
    (t0 t1 c0 c1 : List Member) (ports : List P) → ((x : P) → stays x x) → IsUneventfulBit bit level old new t0 t1 c0 c1
    →
    DeferredHolds old bit plan t0 c0 → TransmitsAll transmitting (materialized old bit c0) ports →
    length ports ≡ length c0 →
    AtBoth (λ k. PortStarts after asked transmitting stays bit) (materialized old bit c0)
    (materialized old bit c0) ports ports
controllers_start_alone after asked transmitting stays plan bit level old new t0 t1 c0 c1 ports same h is_deferred whole
    sizes =
    let sends = transmits_real transmitting old bit c0 ports whole in
    controllers_start after asked transmitting stays old bit c0 c0 ports ports same h.starts_none
    is_deferred.controllers_deferred
    is_deferred.controllers_active sends sizes
    (go_requests after asked transmitting stays bit level c0 c1 ports same h.controllers sends)

pub controllers_settle_alone : {P : Type 0} (after : P → BusPast → Type 0) (asked : P → List BusCall → Type 0)
    (transmitting : P → Option Item) (sink : P → List FrameValue → Type 0) (stays : P → P → Type 0) (plan : List Talker)
    (bit : ℕ) (level : Bool)
    (old new : Deferred) (t0 t1 c0 c1 : List Member) (ports : List P) → ((x : P) → stays x x) →
    IsUneventfulBit bit level old new t0 t1 c0 c1 → DeferredHolds old bit plan t0 c0 →
    TransmitsAll transmitting (materialized old bit c0) ports → length ports ≡ length c0 →
    AtBoth (λ k. PortSettles after asked transmitting sink stays bit level) (materialized old bit c0)
    (materialized new (bit + 1) c1) ports ports
controllers_settle_alone after asked transmitting sink stays plan bit level old new t0 t1 c0 c1 ports same h is_deferred
    whole
    sizes =
    let sends = transmits_real transmitting old bit c0 ports whole in
    controllers_sample after asked transmitting sink stays old new bit 0 level [] c0 c1 ports ports same
    is_deferred.controllers_deferred (λ k m e is. refl) (λ k m e is. h.through) sends sizes
    (go_settles after asked transmitting sink stays bit level c0 c1 ports same h.controllers sends)

-- the line has the AND of what all drive
pub level_alone : (plan : List Talker) (bit : ℕ) (level : Bool) (old new : Deferred) (t0 t1 c0 c1 : List Member) →
    IsUneventfulBit bit level old new t0 t1 c0 c1 → DeferredHolds old bit plan t0 c0 →
    level ≡ (list_all (drives_at bit) (materialized old bit t0) && list_all (drives_at bit) (materialized old bit c0))
level_alone plan bit level old new t0 t1 c0 c1 h is_deferred =
    h.level_is ∙ ap (λ b. b && driven_beside bit h.deferred_level c0)
    (all_drive old bit h.deferred_level t0 h.drives is_deferred.talkers_deferred)
    ∙ ap (λ b. list_all (drives_at bit) (materialized old bit t0) && b)
    (all_drive old bit h.deferred_level c0 h.drives is_deferred.controllers_deferred)

-- the deferred nodes still do,
pub deferred_alone : (plan : List Talker) (bit : ℕ) (level : Bool) (old new : Deferred) (t0 t1 c0 c1 : List Member) →
    IsUneventfulBit bit level old new t0 t1 c0 c1 → DeferredHolds old bit plan t0 c0 → DeferredHolds new (bit + 1) plan
    t1 c1
deferred_alone plan bit level old new t0 t1 c0 c1 h is_deferred =
    let talkers = h.talkers in
    let controllers = h.controllers in
    left_holds new (bit + 1) plan t0 t1 c0 c1 (left_places (λ k. MemberGoes bit level) t0 t1 talkers)
    (left_places (λ k. MemberGoes bit level) c0 c1 controllers)
    (λ set. within_places (λ k. MemberGoes bit level) set t0 t1 talkers)
    (λ set. within_places (λ k. MemberGoes bit level) set c0 c1 controllers)
    (omega (arith, talkers.size)) (omega (arith, controllers.size))
    (through_holds old new bit level plan t0 c0 h.through is_deferred)

-- nothing is reported,
pub uneventful_alone : (plan : List Talker) (bit : ℕ) (level : Bool) (old new : Deferred) (t0 t1 c0 c1 : List Member) →
    IsUneventfulBit bit level old new t0 t1 c0 c1 → DeferredHolds old bit plan t0 c0 →
    AreUneventful bit (materialized new (bit + 1) t1) × AreUneventful bit (materialized new (bit + 1) c1)
uneventful_alone plan bit level old new t0 t1 c0 c1 h is_deferred =
    let behind = deferred_alone plan bit level old new t0 t1 c0 c1 h is_deferred in (
      all_uneventful new bit t1 behind.talkers_deferred (go_uneventful bit level t0 t1 h.talkers),
      all_uneventful new bit c1 behind.controllers_deferred (go_uneventful bit level c0 c1 h.controllers),
    )

-- and what is shown of counters stays shown
pub shown_alone : (first : ℕ) (plan : List Talker) (bit : ℕ) (level : Bool) (old new : Deferred) (t0 t1 c0 c1 : List
    Member)
    (counters : List Counters) → IsUneventfulBit bit level old new t0 t1 c0 c1 → DeferredHolds old bit plan t0 c0 →
    (AreFrom first t0 counters → AreFrom first t1 counters) × (AreFrom first c0 counters → AreFrom first c1 counters)
shown_alone first plan bit level old new t0 t1 c0 c1 counters h is_deferred = (
  go_shown first bit level t0 t1 counters h.talkers,
  go_shown first bit level c0 c1 counters h.controllers,
)

and_false : (b : Bool) → (b && false) ≡ false
and_false true = refl
and_false false = refl

-- no controller wants to start,
pub wishes_alone : (plan : List Talker) (bit : ℕ) (level : Bool) (old new : Deferred) (t0 t1 c0 c1 : List Member) →
    IsUneventfulBit bit level old new t0 t1 c0 c1 → DeferredHolds old bit plan t0 c0 → (k : ℕ) (m : Member) →
    slice_get (materialized old bit c0) k ≡ Some m → wants_at bit m ≡ false
wishes_alone plan bit level old new t0 t1 c0 c1 h is_deferred k m e =
    let x = map_at (resumed old.shared_receiver bit) c0 k m e in
    subst (λ y. wants_at bit y ≡ false) x.2 (by x.0 x.1 x.0.is_deferred refl)
  where
    none_at : (x : Member) → may_begin x.station.node ≡ false → wants_at bit x ≡ false
    none_at x is = ap (λ b. is_on bit x && b) is ∙ and_false (is_on bit x)

    go : AllGo bit level c0 c1
    go = h.controllers

    by : (x : Member) → slice_get c0 k ≡ Some x → (b : Bool) → x.is_deferred ≡ b →
        wants_at bit (resumed old.shared_receiver bit x) ≡ false
    by x f true is = ap (wants_at bit) (deferred_resumed old.shared_receiver bit x is)
        ∙ none_at (materialized_member old.shared_receiver bit x)
        (wishes_none old bit c0 h.starts_none is_deferred.controllers_active k x f is x.station.node bit)
    by x f false is =
        let n = some_there c1 k (let there = slice_get_within c0 k x f in omega (arith, there, go.size)) in
        ap (wants_at bit) (active_resumed old.shared_receiver bit x is) ∙ none_at x ((go.at k x n.0 f n.1).steps
        is).begins_none

-- and each has on the bus what it had
pub sending_alone : (plan : List Talker) (bit : ℕ) (level : Bool) (old new : Deferred) (t0 t1 c0 c1 : List Member) →
    IsUneventfulBit bit level old new t0 t1 c0 c1 → DeferredHolds old bit plan t0 c0 →
    sending_of_all (materialized new (bit + 1) c1) ≡ sending_of_all (materialized old bit c0)
sending_alone plan bit level old new t0 t1 c0 c1 h is_deferred =
    let whole = materialized old bit c0 in
    let behind = materialized new (bit + 1) c1 in
    let item : Member → Option Item = λ member. item_of member.station.sending in
    let ports = sending_of_all whole in
    let sends : TransmitsAll (λ p. p) whole ports =
    λ k m p e f. same_some p (item m) (sym f ∙ map_there item whole k m e) in
    let settles = controllers_settle_alone (λ p past. Unit {0}) (λ p calls. Unit {0}) (λ p. p) (λ p past. Unit {0})
    (λ p q. Unit {0}) plan bit level old new t0 t1 c0 c1 ports (λ p. tt) h is_deferred sends
    (length-map whole item ∙ members_length old bit c0) in
    same_list ports (sending_of_all behind) (length-map behind item ∙ settles.size ∙ sym (length-map whole item))
    (λ k x y e f.
    let m = map_at item behind k y f in
    let a = map_at item whole k x e in
    sym m.2 ∙ sym ((settles.at k a.0 m.0 x x a.1 m.1 e e).transmits))
