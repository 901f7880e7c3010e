-- Nodes that are deferred between two bits.
use Rattle.std.proofs.Common.{◌≡◌, ◌≢◌, ℕ, ◌<◌, ◌≤◌, inl, inr, Bool, true, false, Some, None, List, length, map}
use Rattle.std.proofs.Common.{slice_get, set, refl, sym, ap, subst, arith, ◌∙◌}
use Rattle.std.proofs.lemmas.Bool.{cases_eq, cases_lt}
use Rattle.std.proofs.lemmas.List.{length-set}
use Rattle.std.proofs.lemmas.Option.{slice_get_within}
use Rattle.can_node.specs.SharedReceiver.{IsListening}
use Rattle.can_node.specs.Node.{counters_in}
use Rattle.can_node.specs.declared.shared_receiver.SharedReceiver.{SharedReceiver}
use Rattle.can_station.specs.declared.member.Member.{Member}
use Rattle.can_station.specs.Queues.{IsNotDueBefore, due_at}
use Rattle.can_station.specs.declared.plan.Talker.{Talker}
use Rattle.can_segment.specs.declared.deferred.Deferred.{Deferred}
use Rattle.can_station.specs.declared.place_set.PlaceSet.{PlaceSet}
use Rattle.can_station.specs.Actions.{IsUneventful, no_action}
use Rattle.can_station.specs.Places.{AtPlaces}
use Rattle.can_station.proofs.Places.{AtPlacesBut, but_end, but_step, some_there, get_set_other, get_set_same}
use Rattle.can_station.proofs.Places.{same_some}
use Rattle.can_station.specs.PlaceSets.{HasPlace, IsEmpty, IsWith, IsWithout}
use Rattle.can_station.specs.DeferredNodes.{ActiveWithin, MayDefer}
use Rattle.can_station.specs.DeferredNodes.{NoneDeferred, resumed}
use Rattle.can_segment.specs.DeferredState.{AreDeferred, AreNotDue, ChoosesReceiver, IsLess, IsDeferred, Defers}
use Rattle.can_segment.specs.DeferredState.{materialized}
use Rattle.can_segment.proofs.Holds.{sooner_not_due, not_deferred, same_deferred}
use Rattle.can_segment.proofs.Resumed.{none_deferred_at}

uneventful_undone : IsUneventful no_action
uneventful_undone = record { no_start = refl; no_end = refl; no_reaping = refl }

-- where more rest less is known of all
less_deferred : (before after : Deferred) (bit : ℕ) (m : Member) → IsLess before after → IsDeferred before bit m →
    IsDeferred after bit m
less_deferred before after bit m less h = record {
  some_deferred = less.any_deferred_is ∙ h.some_deferred;
  is_on = h.is_on;
  uneventful = h.uneventful;
  known = less.knows (counters_in m.station.node) h.known;
  listening = subst IsListening (sym less.shared_receiver_is) h.listening;
}

pub less_deferred_all : (before after : Deferred) (bit : ℕ) (members : List Member) → IsLess before after →
    AreDeferred before bit members → AreDeferred after bit members
less_deferred_all before after bit members less is_deferred k m e is = less_deferred before after bit m less
    (is_deferred k m e is)

less_too : (before mid after : Deferred) → IsLess before mid → IsLess mid after → IsLess before after
less_too before mid after one other = record {
  shared_receiver_is = other.shared_receiver_is ∙ one.shared_receiver_is;
  any_deferred_is = other.any_deferred_is ∙ one.any_deferred_is;
  knows = λ counters h. other.knows counters (one.knows counters h);
  sooner = omega (arith, one.sooner, other.sooner);
  talkers_is = other.talkers_is ∙ one.talkers_is;
  controllers_is = other.controllers_is ∙ one.controllers_is;
}

less_itself : (deferred : Deferred) → IsLess deferred deferred
less_itself deferred = record {
  shared_receiver_is = refl;
  any_deferred_is = refl;
  knows = λ counters h. h;
  sooner = omega arith;
  talkers_is = refl;
  controllers_is = refl;
}

-- those that are no longer left may have been deferred
pub record DefersBut (before now : Deferred) (bit : ℕ) (old new : List Member) (left : PlaceSet) : Type 0 where
  pub less : IsLess before now
  pub defer_some : AtPlacesBut (λ k. MayDefer before.shared_receiver bit) old new left
  pub is_deferred : AreDeferred now bit new

pub deferring_start : (deferred : Deferred) (bit : ℕ) (members : List Member) (left : PlaceSet) → ActiveWithin left
    members →
    AreDeferred deferred bit members → DefersBut deferred deferred bit members members left
deferring_start deferred bit members left h is_deferred = record {
  less = less_itself deferred;
  defer_some = record {
    within = h.within;
    made = λ k a b not p q. inl (same_some b a (sym q ∙ p));
    same = λ k has. refl;
    size = refl;
  };
  is_deferred = is_deferred;
}

newly_deferred : (next_due : ℕ) (before after : Deferred) (bit : ℕ) (old new : Member) →
    Defers bit next_due before after old new → (old.is_deferred ≡ true → IsDeferred before bit old) → new.is_deferred ≡
    true →
    IsDeferred after bit new
newly_deferred next_due before after bit old new h was_deferred is = by h.may_defer
  where
    by : MayDefer before.shared_receiver bit old new → IsDeferred after bit new
    by (inl same) = subst (IsDeferred after bit) (sym same)
        (less_deferred before after bit old h.less (was_deferred (ap (λ m. m.is_deferred) (sym same) ∙ is)))
    by (inr may_defer) = record {
      some_deferred = h.some_deferred may_defer.0.active is;
      is_on = subst (λ m. m.on ≤ bit) (sym may_defer.1) may_defer.0.is_on;
      uneventful = subst (λ m. IsUneventful m.action) (sym may_defer.1) uneventful_undone;
      known = h.known may_defer.0.active is;
      listening = subst IsListening (sym h.less.shared_receiver_is) may_defer.0.stands.listening;
    }

pub deferring_step : (next_due : ℕ) (before now next : Deferred) (bit : ℕ) (old new : List Member) (left after :
    PlaceSet)
    (i : ℕ) (a b : Member) → HasPlace left i → IsWithout i left after → slice_get new i ≡ Some a →
    Defers bit next_due now next a b → DefersBut before now bit old new left →
    DefersBut before next bit old (set new i b) after
deferring_step next_due before now next bit old new left after i a b has without here h so_far = record {
  less = less_too before now next so_far.less h.less;
  defer_some = but_step (λ k. MayDefer before.shared_receiver bit) old new left after i a b has without here
      (subst (λ shared_receiver. MayDefer shared_receiver bit a b) so_far.less.shared_receiver_is h.may_defer)
      so_far.defer_some;
  is_deferred = λ k m e is. elim (cases_lt k i) [
    | inl less ↦ (let ne : k ≢ i = omega arith in other k m ne e is)
    | inr more ↦ elim (cases_lt i k) [
      | inl less ↦ (let ne : k ≢ i = omega arith in other k m ne e is)
      | inr same_place ↦ (let at : k ≡ i = omega arith in
          let room = so_far.defer_some.within i has in
          let same : b ≡ m = same_some b m (sym (get_set_same new i b (omega (arith, room, so_far.defer_some.size)))
          ∙ ap (slice_get (set new i b)) (sym at) ∙ e) in
          subst (IsDeferred next bit) same (newly_deferred next_due now next bit a b h (so_far.is_deferred i a here)
          (ap (λ x. x.is_deferred) same ∙ is)))
    ]
  ];
}
  where
    other : (k : ℕ) (m : Member) → k ≢ i → slice_get (set new i b) k ≡ Some m → m.is_deferred ≡ true → IsDeferred next
        bit m
    other k m ne e is = less_deferred now next bit m h.less (so_far.is_deferred k m (sym (get_set_other new i k b ne) ∙
        e) is)

pub deferring_end : (before now : Deferred) (bit : ℕ) (old new : List Member) (left : PlaceSet) → IsEmpty left →
    DefersBut before now bit old new left → AtPlaces (λ k. MayDefer before.shared_receiver bit) old new
deferring_end before now bit old new left none h = but_end (λ k. MayDefer before.shared_receiver bit) old new left none
    h.defer_some

-- the active nodes are counted, or left
pub record CountedBut (counted : PlaceSet) (members : List Member) (left : PlaceSet) : Type 0 where
  pub within : (k : ℕ) → HasPlace counted k → k < length members
  pub has : (k : ℕ) (m : Member) → (HasPlace left k → ⊥) → slice_get members k ≡ Some m → m.is_deferred ≡ false →
      HasPlace counted k

pub counted_start : (counted left : PlaceSet) (members : List Member) → IsEmpty counted → ActiveWithin left members →
    CountedBut counted members left
counted_start counted left members none h = record {
  within = λ k has. absurd (none k has);
  has = λ k m not e active. absurd (not (h.has k m e active));
}

pub counted_step : (counted more left after : PlaceSet) (members : List Member) (i : ℕ) (b m : Member) →
    i < length members → IsWithout i left after → slice_get (set members i b) i ≡ Some m →
    (m.is_deferred ≡ true → more ≡ counted) → (m.is_deferred ≡ false → IsWith i counted more) →
    CountedBut counted members left → CountedBut more (set members i b) after
counted_step counted more left after members i b m room without here is_deferred active so_far = by m.is_deferred refl
  where
    same : (k : ℕ) (x : Member) → k ≢ i → slice_get (set members i b) k ≡ Some x → slice_get members k ≡ Some x
    same k x other e = sym (get_set_other members i k b other) ∙ e

    by : (on : Bool) → m.is_deferred ≡ on → CountedBut more (set members i b) after
    by true is =
        let less : (k : ℕ) → HasPlace more k → k < length members =
        λ k has. so_far.within k (subst (λ s. HasPlace s k) (is_deferred is) has) in
        record {
          within = λ k has. let there = less k has in omega (arith, there, length-set members i b);
          has = λ k x not e on. elim (cases_eq k i) [
            | inl at ↦ absurd (let one = same_some m x (sym here ∙ ap (slice_get (set members i b)) (sym at) ∙ e) in
                let off = ap (λ y. y.is_deferred) one in cc (on, off, is))
            | inr other ↦ subst (λ s. HasPlace s k) (sym (is_deferred is))
                (so_far.has k x (λ was. not (without.others k other was)) (same k x other e) on)
          ];
        }
    by false is =
        let counts = active is in
        record {
          within = λ k has. elim (cases_eq k i) [
            | inl at ↦ omega (arith, at, room, length-set members i b)
            | inr other ↦ (let there = so_far.within k (counts.no_others k other has) in
                omega (arith, there, length-set members i b))
          ];
          has = λ k x not e on. elim (cases_eq k i) [
            | inl at ↦ subst (HasPlace more) (sym at) counts.has
            | inr other ↦ counts.others k other
                (so_far.has k x (λ was. not (without.others k other was)) (same k x other e) on)
          ];
        }

pub counted_end : (counted : PlaceSet) (members : List Member) (left : PlaceSet) → IsEmpty left →
    CountedBut counted members left → ActiveWithin counted members
counted_end counted members left none h = record {
  within = h.within;
  has = λ k m e active. h.has k m (none k) e active;
}

-- no talker that was deferred has a frame due before the bit that is kept
pub not_due_step : (next_due : ℕ) (now next : Deferred) (bit : ℕ) (plan : List Talker) (new : List Member) (i : ℕ)
    (a b : Member) (talker : Talker) → i < length new → slice_get new i ≡ Some a → slice_get plan i ≡ Some talker →
    Defers bit next_due now next a b → IsNotDueBefore talker.queue.items a.station.completed next_due →
    AreNotDue now plan new → AreNotDue next plan (set new i b)
not_due_step next_due now next bit plan new i a b talker room here planned h none so_far k m t e f is at before =
    elim (cases_lt k i) [
      | inl less ↦ (let ne : k ≢ i = omega arith in other ne)
      | inr more ↦ elim (cases_lt i k) [
        | inl less ↦ (let ne : k ≢ i = omega arith in other ne)
        | inr same_place ↦ (let place : k ≡ i = omega arith in
            let same : b ≡ m =
            same_some b m (sym (get_set_same new i b room) ∙ ap (slice_get (set new i b)) (sym place) ∙ e) in
            let same_talker : talker ≡ t = same_some talker t (sym planned ∙ ap (slice_get plan) (sym place) ∙ f) in
            subst (λ x. due_at x.queue.items m.station.completed at ≡ None) same_talker
            (subst (λ x. due_at talker.queue.items x.station.completed at ≡ None) same
            (by h.may_defer (ap (λ x. x.is_deferred) same ∙ is))))
      ]
    ]
  where
    other : k ≢ i → due_at t.queue.items m.station.completed at ≡ None
    other ne = so_far k m t (sym (get_set_other new i k b ne) ∙ e) f is at (omega (arith, before, h.less.sooner))

    by : MayDefer now.shared_receiver bit a b → b.is_deferred ≡ true →
        due_at talker.queue.items b.station.completed at ≡ None
    by (inl same) on = subst (λ x. due_at talker.queue.items x.station.completed at ≡ None) (sym same)
        (so_far i a talker here planned (ap (λ x. x.is_deferred) (sym same) ∙ on) at
        (omega (arith, before, h.less.sooner)))
    by (inr may_defer) on = subst (λ x. due_at talker.queue.items x.station.completed at ≡ None) (sym may_defer.1)
        (let less = h.not_due may_defer.0.active on in none at (omega (arith, before, less)))

-- nor is a controller deferred if that bit is not 0
pub active_step : (now next : Deferred) (bit : ℕ) (new : List Member) (i : ℕ) (a b : Member) → i < length new →
    slice_get new i ≡ Some a → Defers bit 0 now next a b → (0 < now.next_start → NoneDeferred new) →
    0 < next.next_start → NoneDeferred (set new i b)
active_step now next bit new i a b room here h so_far later k m e = elim (cases_lt k i) [
  | inl less ↦ (let ne : k ≢ i = omega arith in none k m (sym (get_set_other new i k b ne) ∙ e))
  | inr more ↦ elim (cases_lt i k) [
    | inl less ↦ (let ne : k ≢ i = omega arith in none k m (sym (get_set_other new i k b ne) ∙ e))
    | inr same_place ↦ (let at : k ≡ i = omega arith in
        let same : b ≡ m =
        same_some b m (sym (get_set_same new i b room) ∙ ap (slice_get (set new i b)) (sym at) ∙ e) in
        subst (λ x. x.is_deferred ≡ false) same (by b.is_deferred refl))
  ]
]
  where
    none : NoneDeferred new
    none = so_far (omega (arith, later, h.less.sooner))

    by : (is_deferred : Bool) → b.is_deferred ≡ is_deferred → b.is_deferred ≡ false
    by false off = off
    by true on = let never = h.not_due (none i a here) on in absurd (omega (arith, never, later))

-- Another listener, where none is deferred, changes nothing.
pub chosen_same : (old new : Deferred) (bit : ℕ) (members : List Member) → ChoosesReceiver old new → AreDeferred old bit
    members →
    materialized new bit members ≡ materialized old bit members
chosen_same old new bit members h is_deferred = elim h.chosen [
  | inl same ↦ ap (λ shared_receiver. map (resumed shared_receiver bit) members) same.shared_receiver_is
  | inr none ↦ (let active = not_deferred old bit members none is_deferred in
      none_deferred_at new.shared_receiver bit members active ∙ sym (none_deferred_at old.shared_receiver bit members
      active))
]

pub chosen_deferred : (old new : Deferred) (bit : ℕ) (members : List Member) → ChoosesReceiver old new → AreDeferred old
    bit members →
    AreDeferred new bit members
chosen_deferred old new bit members h is_deferred = elim h.chosen [
  | inl same ↦ same_deferred old new bit members same is_deferred
  | inr none ↦ (λ k m e is. absurd (let active = not_deferred old bit members none is_deferred k m e in cc (
    is,
    active,
  )))
]

pub chosen_not_due : (old new : Deferred) (bit : ℕ) (plan : List Talker) (members : List Member) →
    ChoosesReceiver old new → AreDeferred old bit members → AreNotDue old plan members → AreNotDue new plan members
chosen_not_due old new bit plan members h is_deferred not_due = elim h.chosen [
  | inl same ↦ sooner_not_due old new plan members (omega (arith, same.next_start_is)) not_due
  | inr none ↦ (λ k m talker e f is. absurd (let active = not_deferred old bit members none is_deferred k m e in
      cc (is, active)))
]

pub chosen_active : (old new : Deferred) (bit : ℕ) (members : List Member) → ChoosesReceiver old new →
    AreDeferred old bit members → (0 < old.next_start → NoneDeferred members) → 0 < new.next_start →
    NoneDeferred members
chosen_active old new bit members h is_deferred active = elim h.chosen [
  | inl same ↦ (λ s. active (omega (arith, s, same.next_start_is)))
  | inr none ↦ (λ s. not_deferred old bit members none is_deferred)
]

-- no more nodes are active where some were deferred
pub lain_within : (shared_receiver : SharedReceiver) (bit : ℕ) (old new : List Member) (set : PlaceSet) →
    AtPlaces (λ k. MayDefer shared_receiver bit) old new → ActiveWithin set old → ActiveWithin set new
lain_within shared_receiver bit old new set defer_some h = record {
  within = λ k has. let less = h.within k has in omega (arith, less, defer_some.size);
  has = λ k m e is.
      let x = some_there old k (let there = slice_get_within new k m e in omega (arith, there, defer_some.size)) in
      h.has k x.0 x.1 (was x.0 m (defer_some.at k x.0 m x.1 e) is);
}
  where
    was : (x m : Member) → MayDefer shared_receiver bit x m → m.is_deferred ≡ false → x.is_deferred ≡ false
    was x m (inl same) is = ap (λ y. y.is_deferred) (sym same) ∙ is
    was x m (inr may_defer) is = may_defer.0.active
