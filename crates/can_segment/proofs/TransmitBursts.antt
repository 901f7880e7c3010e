-- Bits that one node sends while all others rest or stay in bus off or in passive error flags, one after another.
use Rattle.std.proofs.Common.{◌≡◌, ◌≢◌, ℕ, zero, suc, ◌+◌, ◌≤◌, ◌&&◌, nat_eq, cond, Bool, true, false, Some, List}
use Rattle.std.proofs.Common.{[], ◌∷◌, length, take, slice_get, refl, sym, ap, subst, arith, inl, inr}
use Rattle.std.proofs.Common.{◌∙◌}
use Rattle.std.proofs.lemmas.Bool.Decides.{eqb_tells}
use Rattle.std.proofs.lemmas.List.{length-take, take-take}
use Rattle.std.proofs.lemmas.Option.{slice_get_within}
use Rattle.can_node.specs.declared.shared_receiver.SharedReceiver.{SharedReceiver}
use Rattle.can_node.specs.SharedReceiver.{ReadsAlong, ReadsAlongBy}
use Rattle.can_station.specs.declared.member.Member.{Member}
use Rattle.can_station.specs.Members.{drives_at}
use Rattle.can_station.specs.Places.{AtPlaces}
use Rattle.can_station.specs.DeferredNodes.{AllGo, GoesAsItMay, IfActive, MayGoBy, MemberGoes, MemberGoesBy}
use Rattle.can_station.specs.DeferredNodes.{OthersStayOut, passes}
use Rattle.can_station.proofs.GoingBy.{by_taken}
use Rattle.can_station.proofs.Places.{same_some, some_there}
use Rattle.can_station.proofs.PlaceSets.{all_pass}
use Rattle.can_segment.specs.declared.deferred.Deferred.{Deferred}
use Rattle.can_segment.specs.DeferredState.{AreRecessive, AreUneventfulBits, IsUneventfulBit, driven_beside}
use Rattle.can_segment.proofs.SingleBit.{and_true, one_passes, follows_through, with_shared_receiver}
use Rattle.can_segment.proofs.Resumed.{same_list}

-- a step at each place of two lists is one at the first place, and one at each behind it
first_and_more : {M : Type 0} (R : ℕ → M → M → Type 0) (x y : M) (xs ys : List M) → R zero x y →
    AtPlaces (λ k. R (suc k)) xs ys → AtPlaces R (x ∷ xs) (y ∷ ys)
first_and_more {M = M} R x y xs ys first more = record { at = by; size = ap suc more.size }
  where
    by : (k : ℕ) (a b : M) → slice_get (x ∷ xs) k ≡ Some a → slice_get (y ∷ ys) k ≡ Some b → R k a b
    by zero a b p q = subst (λ z. R zero z b) (same_some x a p) (subst (R zero x) (same_some y b q) first)
    by (suc k) a b p q = more.at k a b p q

-- two steps at each place are two steps of the list
both_steps : {M : Type 0} (R S : ℕ → M → M → Type 0) (xs ys : List M) →
    AtPlaces (λ k a b. (m : M) × R k a m × S k m b) xs ys → (ms : List M) × AtPlaces R xs ms × AtPlaces S ms ys
both_steps R S [] [] h = (
  [],
  record { at = λ k a b p q. absurd (cc p); size = refl },
  record {
    at = λ k a b p q. absurd (cc p);
    size = refl;
  },
)
both_steps R S [] (y ∷ ys) h = absurd (let size = h.size in omega (arith, size))
both_steps R S (x ∷ xs) [] h = absurd (let size = h.size in omega (arith, size))
both_steps R S (x ∷ xs) (y ∷ ys) h =
    let first = h.at zero x y refl refl in
    let size = h.size in
    let more = both_steps (λ k. R (suc k)) (λ k. S (suc k)) xs ys
    (record { at = λ k a b p q. h.at (suc k) a b p q; size = omega (arith, size) }) in (
      first.0 ∷ more.0,
      first_and_more R x first.0 xs more.0 first.1 more.1,
      first_and_more S first.0 y more.0 ys first.2 more.2,
    )

-- one that is active goes on with these levels, and sends them or not; a deferred node is left as it is
record RunsAt (is_sender : Bool) (bit : ℕ) (levels : List Bool) (old new : Member) : Type 0 where
  stays_deferred : old.is_deferred ≡ true → new ≡ old
  runs : old.is_deferred ≡ false → MemberGoesBy is_sender bit levels old new

-- so with one level
record StepsAt (is_sender : Bool) (bit : ℕ) (level : Bool) (old new : Member) : Type 0 where
  stays_deferred : old.is_deferred ≡ true → new ≡ old
  goes : old.is_deferred ≡ false → MemberGoes bit level old new
  drives : old.is_deferred ≡ false → drives_at bit old ≡ cond is_sender level true

one_first : (is_sender : Bool) (bit : ℕ) (level : Bool) (levels : List Bool) (old new : Member) →
    RunsAt is_sender bit (level ∷ levels) old new →
    (mid : Member) × StepsAt is_sender bit level old mid × RunsAt is_sender (bit + 1) levels mid new
one_first is_sender bit level levels old new h = by old.is_deferred refl
  where
    by : (is_deferred : Bool) → old.is_deferred ≡ is_deferred →
        (mid : Member) × StepsAt is_sender bit level old mid × RunsAt is_sender (bit + 1) levels mid new
    by true is = (
      old,
      record {
        stays_deferred = λ e. refl;
        goes = λ active. absurd (cc (is, active));
        drives = λ active. absurd (cc (is, active));
      },
      record { stays_deferred = h.stays_deferred; runs = λ active. absurd (cc (is, active)) },
    )
    by false is =
        let run = h.runs is in
        let active_too = run.1.active_too in (
          run.0,
          record {
            stays_deferred = λ e. absurd (cc (is, e));
            goes = λ active. run.1;
            drives = λ active. run.2;
          },
          record { stays_deferred = λ e. absurd (cc (active_too, e)); runs = λ active. run.3 },
        )

-- each of these so, of which the one at this place sends
abbrev AllRun : ℕ → ℕ → List Bool → List Member → List Member → Type 0
AllRun place bit levels = AtPlaces (λ k. RunsAt (nat_eq k place) bit levels)

all_first : (place bit : ℕ) (level : Bool) (levels : List Bool) (old new : List Member) →
    AllRun place bit (level ∷ levels) old new →
    (mid : List Member) × AtPlaces (λ k. StepsAt (nat_eq k place) bit level) old mid
    × AllRun place (bit + 1) levels mid new
all_first place bit level levels old new h =
    both_steps (λ k. StepsAt (nat_eq k place) bit level) (λ k. RunsAt (nat_eq k place) (bit + 1) levels) old new
    (record {
      at = λ k a b p q. one_first (nat_eq k place) bit level levels a b (h.at k a b p q);
      size = h.size;
    })

none_runs : (place bit : ℕ) (old new : List Member) → AllRun place bit [] old new → new ≡ old
none_runs place bit old new h = same_list old new h.size (λ k a b p q. by a b (h.at k a b p q) a.is_deferred refl)
  where
    by : {is_sender : Bool} (a b : Member) → RunsAt is_sender bit [] a b → (is_deferred : Bool) → a.is_deferred ≡
        is_deferred → b ≡ a
    by a b run true is = run.stays_deferred is
    by a b run false is = run.runs is

-- they go on,
steps_go : (place bit : ℕ) (level : Bool) (old new : List Member) →
    AtPlaces (λ k. StepsAt (nat_eq k place) bit level) old new → AllGo bit level old new
steps_go place bit level old new h = record {
  at = λ k a b p q.
      let step = h.at k a b p q in
      record { stays_deferred = step.stays_deferred; stays_active = λ e. (step.goes e).active_too; steps = step.goes };
  size = h.size;
}

-- and the line has the level of the one that sends, if it is there
other_drives : (place bit : ℕ) (level : Bool) (old new : List Member) →
    AtPlaces (λ k. StepsAt (nat_eq k place) bit level) old new → (k : ℕ) (m : Member) → slice_get old k ≡ Some m →
    k ≢ place → cond m.is_deferred true (drives_at bit m) ≡ true
other_drives place bit level old new h k m e not = by m.is_deferred refl
  where
    by : (is_deferred : Bool) → m.is_deferred ≡ is_deferred → cond m.is_deferred true (drives_at bit m) ≡ true
    by true is = ap (λ b. cond b true (drives_at bit m)) is
    by false is =
        let there = some_there new k (let within = slice_get_within old k m e in omega (arith, within, h.size)) in
        ap (λ b. cond b true (drives_at bit m)) is ∙ (h.at k m there.0 e there.1).drives is
        ∙ elim (eqb_tells k place) [
          | inl same ↦ absurd (not same.1)
          | inr other ↦ ap (λ b. cond b level true) other.0
        ]

is_same_place : (place : ℕ) → nat_eq place place ≡ true
is_same_place place =
    elim (eqb_tells place place) [ inl same ↦ same.0 | inr other ↦ absurd (other.1 refl) ]

one_drives : (place bit : ℕ) (level : Bool) (old new : List Member) (m : Member) →
    AtPlaces (λ k. StepsAt (nat_eq k place) bit level) old new → slice_get old place ≡ Some m → m.is_deferred ≡ false →
    driven_beside bit true old ≡ level
one_drives place bit level old new m h e active =
    let there = some_there new place (let within = slice_get_within old place m e in
    omega (arith, within, h.size)) in
    one_passes (λ x. cond x.is_deferred true (drives_at bit x)) place old (other_drives place bit level old new h)
    ∙ ap (passes (λ x. cond x.is_deferred true (drives_at bit x))) e
    ∙ ap (λ b. cond b true (drives_at bit m)) active ∙ (h.at place m there.0 e there.1).drives active
    ∙ ap (λ b. cond b level true) (is_same_place place)

none_drives : (place bit : ℕ) (level : Bool) (old new : List Member) →
    AtPlaces (λ k. StepsAt (nat_eq k place) bit level) old new → length old ≤ place → driven_beside bit true old ≡ true
none_drives place bit level old new h past =
    all_pass (λ x. cond x.is_deferred true (drives_at bit x)) old
    (λ k m e. other_drives place bit level old new h k m e
    (λ is. let within = slice_get_within old k m e in omega (arith, within, past, is)))

-- one bit
one_bit : (place past bit : ℕ) (level : Bool) (deferred : Deferred) (after : SharedReceiver) (s0 s1 o0 o1 : List Member)
    (m : Member) → slice_get s0 place ≡ Some m → m.is_deferred ≡ false → length o0 ≤ past →
    AtPlaces (λ k. StepsAt (nat_eq k place) bit level) s0 s1 →
    AtPlaces (λ k. StepsAt (nat_eq k past) bit level) o0 o1 → ReadsAlong deferred.shared_receiver level after →
    IsUneventfulBit bit level deferred (with_shared_receiver deferred after) s0 s1 o0 o1
one_bit place past bit level deferred after s0 s1 o0 o1 m there active beyond senders others along = record {
  starts_none = inr along.begins;
  through = follows_through deferred bit after level (along.follows deferred.known bit) along.listens;
  deferred_level = true;
  drives = λ listening node at. sym (along.drives node at);
  talkers = steps_go place bit level s0 s1 senders;
  controllers = steps_go past bit level o0 o1 others;
  level_is = sym (ap (λ b. b && driven_beside bit true o0) (one_drives place bit level s0 s1 m senders there active)
      ∙ ap (λ b. level && b) (none_drives past bit level o0 o1 others beyond) ∙ and_true level);
}

-- so with more
run_beside : (place past bit : ℕ) (sent : List Bool) (deferred : Deferred) (after : SharedReceiver) (s0 s1 o0 o1 : List
    Member)
    (m : Member) → slice_get s0 place ≡ Some m → m.is_deferred ≡ false → length o0 ≤ past →
    AllRun place bit sent s0 s1 → AllRun past bit sent o0 o1 → ReadsAlongBy deferred.shared_receiver sent after →
    AreUneventfulBits bit sent deferred (with_shared_receiver deferred after) s0 s1 o0 o1
run_beside place past bit [] deferred after s0 s1 o0 o1 m there active beyond senders others along =
    (ap (with_shared_receiver deferred) along, none_runs place bit s0 s1 senders, none_runs past bit o0 o1 others)
run_beside place past bit (level ∷ sent) deferred after s0 s1 o0 o1 m there active beyond senders others along =
    let s = all_first place bit level sent s0 s1 senders in
    let o = all_first past bit level sent o0 o1 others in
    let next = some_there s.0 place (let within = slice_get_within s0 place m there in
    omega (arith, within, s.1.size)) in
    let step = (s.1.at place m next.0 there next.1).goes active in (
      with_shared_receiver deferred along.0,
      s.0,
      o.0,
      one_bit place past bit level deferred along.0 s0 s.0 o0 o.0 m there active beyond s.1 o.1 along.1,
      run_beside place past (bit + 1) sent (with_shared_receiver deferred along.0) after s.0 s1 o.0 o1 next.0 next.1
          step.active_too (omega (arith, beyond, o.1.size)) s.2 o.2 along.2,
    )

-- each goes on as it may
all_run : (place bit : ℕ) (sent : List Bool) (old new : List Member) →
    ((m : Member) → slice_get old place ≡ Some m → MayGoBy true bit sent m) → OthersStayOut place bit sent old →
    AtPlaces (λ k. IfActive (GoesAsItMay sent)) old new → AllRun place bit sent old new
all_run place bit sent old new sender others h = record {
  at = λ k a b p q. record {
    stays_deferred = (h.at k a b p q).stays_deferred;
    runs = λ active. (h.at k a b p q).steps active (nat_eq k place) bit (elim (eqb_tells k place) [
      | inl same ↦ subst (λ s. MayGoBy s bit sent a) (sym same.0)
          (sender a (ap (slice_get old) (sym same.1) ∙ p))
      | inr other ↦ subst (λ s. MayGoBy s bit sent a) (sym other.0) (others k a p other.1 active)
    ]);
  };
  size = h.size;
}

-- none stands at a place behind the last
not_behind : (past : ℕ) (members : List Member) (m : Member) → length members ≤ past →
    slice_get members past ≡ Some m → ⊥
not_behind past members m none e =
    let within = slice_get_within members past m e in omega (arith, within, none)

pub sent_beside : (place past bit : ℕ) (sent : List Bool) (deferred : Deferred) (after : SharedReceiver)
    (s0 s1 o0 o1 : List Member) (m : Member) → slice_get s0 place ≡ Some m → length o0 ≤ past →
    MayGoBy true bit sent m → OthersStayOut place bit sent s0 → OthersStayOut past bit sent o0 →
    AtPlaces (λ k. IfActive (GoesAsItMay sent)) s0 s1 → AtPlaces (λ k. IfActive (GoesAsItMay sent)) o0 o1 →
    ReadsAlongBy deferred.shared_receiver sent after → AreUneventfulBits bit sent deferred (with_shared_receiver
    deferred after) s0 s1 o0 o1
sent_beside place past bit sent deferred after s0 s1 o0 o1 m there beyond may stay stay_too go go_too along =
    run_beside place past bit sent deferred after s0 s1 o0 o1 m there may.active beyond
    (all_run place bit sent s0 s1 (λ x e. subst (MayGoBy true bit sent) (same_some m x (sym there ∙ e)) may) stay go)
    (all_run past bit sent o0 o1
    (λ x e. absurd (not_behind past o0 x beyond e)) stay_too go_too) along

-- recessive levels that all wait with
waited_bit : (past beyond bit : ℕ) (deferred : Deferred) (after : SharedReceiver) (s0 s1 o0 o1 : List Member) → length
    s0 ≤ past →
    length o0 ≤ beyond → AtPlaces (λ k. StepsAt (nat_eq k past) bit true) s0 s1 →
    AtPlaces (λ k. StepsAt (nat_eq k beyond) bit true) o0 o1 → ReadsAlong deferred.shared_receiver true after →
    IsUneventfulBit bit true deferred (with_shared_receiver deferred after) s0 s1 o0 o1
waited_bit past beyond bit deferred after s0 s1 o0 o1 none none_too senders others along = record {
  starts_none = inr along.begins;
  through = follows_through deferred bit after true (along.follows deferred.known bit) along.listens;
  deferred_level = true;
  drives = λ listening node at. sym (along.drives node at);
  talkers = steps_go past bit true s0 s1 senders;
  controllers = steps_go beyond bit true o0 o1 others;
  level_is = sym (ap (λ b. b && driven_beside bit true o0) (none_drives past bit true s0 s1 senders none)
      ∙ none_drives beyond bit true o0 o1 others none_too);
}

wait_beside : (past beyond bit : ℕ) (sent : List Bool) (deferred : Deferred) (after : SharedReceiver) (s0 s1 o0 o1 :
    List Member) →
    AreRecessive sent → length s0 ≤ past → length o0 ≤ beyond → AllRun past bit sent s0 s1 →
    AllRun beyond bit sent o0 o1 → ReadsAlongBy deferred.shared_receiver sent after →
    AreUneventfulBits bit sent deferred (with_shared_receiver deferred after) s0 s1 o0 o1
wait_beside past beyond bit [] deferred after s0 s1 o0 o1 recessive none none_too senders others along =
    (ap (with_shared_receiver deferred) along, none_runs past bit s0 s1 senders, none_runs beyond bit o0 o1 others)
wait_beside past beyond bit (level ∷ sent) deferred after s0 s1 o0 o1 recessive none none_too senders others along =
    let s = all_first past bit level sent s0 s1 senders in
    let o = all_first beyond bit level sent o0 o1 others in
    let is = recessive.0 in (
      with_shared_receiver deferred along.0,
      s.0,
      o.0,
      subst (λ l. IsUneventfulBit bit l deferred (with_shared_receiver deferred along.0) s0 s.0 o0 o.0) (sym is)
          (waited_bit past beyond bit deferred along.0 s0 s.0 o0 o.0 none none_too
          (subst (λ l. AtPlaces (λ k. StepsAt (nat_eq k past) bit l) s0 s.0) is s.1)
          (subst (λ l. AtPlaces (λ k. StepsAt (nat_eq k beyond) bit l) o0 o.0) is o.1)
          (subst (λ l. ReadsAlong deferred.shared_receiver l along.0) is along.1)),
      wait_beside past beyond (bit + 1) sent (with_shared_receiver deferred along.0) after s.0 s1 o.0 o1 recessive.1
          (omega (arith, none, s.1.size)) (omega (arith, none_too, o.1.size)) s.2 o.2 along.2,
    )

pub waited_beside : (past beyond bit : ℕ) (sent : List Bool) (deferred : Deferred) (after : SharedReceiver)
    (s0 s1 o0 o1 : List Member) → AreRecessive sent → length s0 ≤ past → length o0 ≤ beyond →
    OthersStayOut past bit sent s0 → OthersStayOut beyond bit sent o0 →
    AtPlaces (λ k. IfActive (GoesAsItMay sent)) s0 s1 → AtPlaces (λ k. IfActive (GoesAsItMay sent)) o0 o1 →
    ReadsAlongBy deferred.shared_receiver sent after → AreUneventfulBits bit sent deferred (with_shared_receiver
    deferred after) s0 s1 o0 o1
waited_beside past beyond bit sent deferred after s0 s1 o0 o1 recessive none none_too stay stay_too go go_too along =
    wait_beside past beyond bit sent deferred after s0 s1 o0 o1 recessive none none_too
    (all_run past bit sent s0 s1 (λ m e. absurd (not_behind past s0 m none e)) stay go)
    (all_run beyond bit sent o0 o1 (λ m e. absurd (not_behind beyond o0 m none_too e)) stay_too go_too) along

-- the first of recessive levels are recessive
pub recessive_taken : (n : ℕ) (levels : List Bool) → AreRecessive levels → AreRecessive (take n levels)
recessive_taken zero levels h = tt
recessive_taken (suc n) [] h = tt
recessive_taken (suc n) (level ∷ levels) h = (h.0, recessive_taken n levels h.1)

-- so with the first of the levels
pub out_taken : (place bit n : ℕ) (levels : List Bool) (members : List Member) →
    OthersStayOut place bit levels members → OthersStayOut place bit (take n levels) members
out_taken place bit n levels members h k m e not active = by_taken false bit n levels m (h k m e not active)

pub out_of_fewer : (bit first n : ℕ) (levels : List Bool) (m : Member) → n ≤ length (take first levels) →
    MayGoBy false bit (take n (take first levels)) m → MayGoBy false bit (take n levels) m
out_of_fewer bit first n levels m few = subst (λ ls. MayGoBy false bit ls m)
    (take-take n first levels (omega (arith, few, length-take first levels)))

pub each_may : (place bit n : ℕ) (ahead : List Bool) (members : List Member) →
    ((sender : Member) → slice_get members place ≡ Some sender → MayGoBy true bit ahead sender) →
    OthersStayOut place bit ahead members → (k : ℕ) (m : Member) → slice_get members k ≡ Some m → m.is_deferred ≡ false
    →
    (is_sender : Bool) × (at : ℕ) × MayGoBy is_sender at (take n ahead) m
each_may place bit n ahead members sender others k m e active = elim (eqb_tells k place) [
  | inl same ↦ (true, bit, by_taken true bit n ahead m (sender m (ap (slice_get members) (sym same.1) ∙ e)))
  | inr other ↦ (false, bit, by_taken false bit n ahead m (others k m e other.1 active))
]

pub each_on : (place bit : ℕ) (ahead : List Bool) (members : List Member) →
    ((sender : Member) → slice_get members place ≡ Some sender → MayGoBy true bit ahead sender) →
    OthersStayOut place bit ahead members → (k : ℕ) (m : Member) → slice_get members k ≡ Some m → m.is_deferred ≡ false
    →
    m.on ≤ bit
each_on place bit ahead members sender others k m e active = elim (eqb_tells k place) [
  | inl same ↦ (sender m (ap (slice_get members) (sym same.1) ∙ e)).is_on
  | inr other ↦ (others k m e other.1 active).is_on
]

-- none stands behind the last
pub none_at : (members : List Member) (bit : ℕ) (ahead : List Bool) (sender : Member) →
    slice_get members (length members) ≡ Some sender → MayGoBy true bit ahead sender
none_at members bit ahead sender e = absurd (not_behind (length members) members sender (omega arith) e)

-- whichever of both lists has the sender
and_swaps : (a b : Bool) → (a && b) ≡ (b && a)
and_swaps true true = refl
and_swaps true false = refl
and_swaps false true = refl
and_swaps false false = refl

pub swapped : (bit : ℕ) (levels : List Bool) (old new : Deferred) (t0 t1 c0 c1 : List Member) →
    AreUneventfulBits bit levels old new t0 t1 c0 c1 → AreUneventfulBits bit levels old new c0 c1 t0 t1
swapped bit [] old new t0 t1 c0 c1 h = (h.0, h.2, h.1)
swapped bit (level ∷ levels) old new t0 t1 c0 c1 h = (
  h.0,
  h.2,
  h.1,
  record {
    starts_none = h.3.starts_none;
    through = h.3.through;
    deferred_level = h.3.deferred_level;
    drives = h.3.drives;
    talkers = h.3.controllers;
    controllers = h.3.talkers;
    level_is = h.3.level_is ∙ and_swaps (driven_beside bit h.3.deferred_level t0) (driven_beside bit h.3.deferred_level
        c0);
  },
  swapped (bit + 1) levels h.0 new h.1 t1 h.2 c1 h.4,
)
