-- The nodes for which those of a segment stand while some rest.
use Rattle.std.proofs.Common.{◌≡◌, ℕ, zero, suc, inl, inr, cond, Bool, true, false, Some, List, [], ◌∷◌, length, map}
use Rattle.std.proofs.Common.{slice_get, refl, sym, ap, subst, arith, ◌∙◌}
use Rattle.std.proofs.lemmas.List.{length-map}
use Rattle.std.proofs.lemmas.Option.{slice_get_within}
use Rattle.can_node.specs.SharedReceiver.{materialized as materialized_node}
use Rattle.can_node.specs.declared.node.Node.{Node}
use Rattle.can_node.specs.declared.shared_receiver.SharedReceiver.{SharedReceiver}
use Rattle.can_station.specs.declared.member.Member.{Member}
use Rattle.can_station.specs.Places.{AtPlaces, AtBoth}
use Rattle.can_station.specs.DeferredNodes.{IfActive, IfActiveBoth, LeavesDeferred, MayResume, NoneDeferred}
use Rattle.can_station.specs.DeferredNodes.{materialized_member, resumed}
use Rattle.can_station.proofs.Places.{some_there}
use Rattle.can_segment.proofs.Shown.{map_at, map_there}

-- a member with this node
abbrev built : Member → Node → Bool → Member
built m node is_deferred = record {
  on = m.on;
  is_deferred = is_deferred;
  station = record { node = node; sending = m.station.sending; completed = m.station.completed };
  action = m.action;
}

pub active_resumed : (shared_receiver : SharedReceiver) (bit : ℕ) (m : Member) → m.is_deferred ≡ false → resumed
    shared_receiver bit m ≡ m
active_resumed shared_receiver bit m h =
    ap (λ b. built m (cond b (materialized_node m.station.node shared_receiver bit) m.station.node) false) h
    ∙ ap (λ b. built m m.station.node b) (sym h)

pub deferred_resumed : (shared_receiver : SharedReceiver) (bit : ℕ) (m : Member) → m.is_deferred ≡ true →
    resumed shared_receiver bit m ≡ materialized_member shared_receiver bit m
deferred_resumed shared_receiver bit m h =
    ap (λ b. built m (cond b (materialized_node m.station.node shared_receiver bit) m.station.node) false) h

-- two lists of the same size that agree at each place
pub same_list : {X : Type 0} (xs ys : List X) → length ys ≡ length xs →
    ((k : ℕ) (x y : X) → slice_get xs k ≡ Some x → slice_get ys k ≡ Some y → y ≡ x) → ys ≡ xs
same_list [] [] e h = refl
same_list [] (y ∷ ys) e h = absurd (omega (arith, e))
same_list (x ∷ xs) [] e h = absurd (omega (arith, e))
same_list (x ∷ xs) (y ∷ ys) e h =
    ap (λ z. z ∷ ys) (h zero x y refl refl)
    ∙ ap (λ zs. x ∷ zs) (same_list xs ys (omega (arith, e)) (λ k a b p q. h (suc k) a b p q))

-- a node that is resumed has the same state
may_resume_same : (shared_receiver : SharedReceiver) (bit : ℕ) (old new : Member) → MayResume shared_receiver bit old
    new →
    resumed shared_receiver bit new ≡ resumed shared_receiver bit old
may_resume_same shared_receiver bit old new (inl same) = ap (resumed shared_receiver bit) same
may_resume_same shared_receiver bit old new (inr is) =
    ap (resumed shared_receiver bit) is ∙ active_resumed shared_receiver bit (resumed shared_receiver bit old) refl

pub resumes_same : (Step : ℕ → Member → Member → Type 0) (shared_receiver : SharedReceiver) (bit : ℕ) (old new : List
    Member) →
    ((k : ℕ) (a b : Member) → Step k a b → MayResume shared_receiver bit a b) → AtPlaces Step old new →
    map (resumed shared_receiver bit) new ≡ map (resumed shared_receiver bit) old
resumes_same Step shared_receiver bit old new resumes h = same_list (map (resumed shared_receiver bit) old) (map
    (resumed shared_receiver bit) new)
    (length-map new (resumed shared_receiver bit) ∙ h.size ∙ sym (length-map old (resumed shared_receiver bit)))
    (λ k x y p q.
    let a = map_at (resumed shared_receiver bit) old k x p in
    let b = map_at (resumed shared_receiver bit) new k y q in
    sym b.2 ∙ may_resume_same shared_receiver bit a.0 b.0 (resumes k a.0 b.0 (h.at k a.0 b.0 a.1 b.1)) ∙ a.2)

-- and the nodes that stay deferred are as they were
pub resumes_left : (Step : ℕ → Member → Member → Type 0) (shared_receiver : SharedReceiver) (bit : ℕ) (old new : List
    Member) →
    ((k : ℕ) (a b : Member) → Step k a b → MayResume shared_receiver bit a b) → AtPlaces Step old new → LeavesDeferred
    old new
resumes_left Step shared_receiver bit old new resumes h k m e is =
    let x = some_there old k (let within = slice_get_within new k m e in omega (arith, within, h.size)) in
    elim (resumes k x.0 m (h.at k x.0 m x.1 e)) [
      | inl same ↦ x.1 ∙ ap Some (sym same)
      | inr has_resumed ↦ (let not = ap (λ y. y.is_deferred) has_resumed in absurd (cc (is, not)))
    ]

pub all_resumed : (shared_receiver : SharedReceiver) (bit : ℕ) (old new : List Member) →
    AtPlaces (λ k a b. b ≡ resumed shared_receiver bit a) old new → NoneDeferred new
all_resumed shared_receiver bit old new h k m e =
    let x = some_there old k (let within = slice_get_within new k m e in omega (arith, within, h.size)) in
    ap (λ y. y.is_deferred) (h.at k x.0 m x.1 e)

-- where none is deferred, the nodes themselves are meant
pub none_deferred_at : (shared_receiver : SharedReceiver) (bit : ℕ) (members : List Member) → NoneDeferred members →
    map (resumed shared_receiver bit) members ≡ members
none_deferred_at shared_receiver bit [] h = refl
none_deferred_at shared_receiver bit (m ∷ members) h = ap (λ x. x ∷ map (resumed shared_receiver bit) members)
    (active_resumed shared_receiver bit m (h zero m refl)) ∙ ap (λ xs. m ∷ xs)
    (none_deferred_at shared_receiver bit members (λ k x e. h (suc k) x e))

-- the member for which the one at a place stands
pub found_resumed : (shared_receiver : SharedReceiver) (bit : ℕ) (members : List Member) (k : ℕ) (m : Member) →
    slice_get members k ≡ Some m → slice_get (map (resumed shared_receiver bit) members) k ≡ Some (resumed
    shared_receiver bit m)
found_resumed shared_receiver bit members k m e = map_there (resumed shared_receiver bit) members k m e

pub found_active : (shared_receiver : SharedReceiver) (bit : ℕ) (members : List Member) (k : ℕ) (m : Member) →
    slice_get members k ≡ Some m → m.is_deferred ≡ false → slice_get (map (resumed shared_receiver bit) members) k ≡
    Some m
found_active shared_receiver bit members k m e is =
    map_there (resumed shared_receiver bit) members k m e ∙ ap Some (active_resumed shared_receiver bit m is)

pub found_deferred : (shared_receiver : SharedReceiver) (bit : ℕ) (members : List Member) (k : ℕ) (m : Member) →
    slice_get members k ≡ Some m → m.is_deferred ≡ true → slice_get (map (resumed shared_receiver bit) members) k
    ≡ Some (materialized_member shared_receiver bit m)
found_deferred shared_receiver bit members k m e is =
    map_there (resumed shared_receiver bit) members k m e ∙ ap Some (deferred_resumed shared_receiver bit m is)

-- The steps of the active nodes, and those of the deferred nodes once they are materialized, are the steps of all.
lift_step : (Step : Member → Member → Type 0) (one other : SharedReceiver) (bit next : ℕ) (old new : Member) →
    (old.is_deferred ≡ true → Step (materialized_member one bit old) (materialized_member other next old)) → IfActive
    Step old new →
    Step (resumed one bit old) (resumed other next new)
lift_step Step one other bit next old new sleeps s = by old.is_deferred refl
  where
    by : (b : Bool) → old.is_deferred ≡ b → Step (resumed one bit old) (resumed other next new)
    by true e = subst (λ m. Step (resumed one bit old) (resumed other next m)) (sym (s.stays_deferred e))
        (subst (λ m. Step m (resumed other next old)) (sym (deferred_resumed one bit old e))
        (subst (Step (materialized_member one bit old)) (sym (deferred_resumed other next old e)) (sleeps e)))
    by false e = subst (Step (resumed one bit old)) (sym (active_resumed other next new (s.stays_active e)))
        (subst (λ m. Step m new) (sym (active_resumed one bit old e)) (s.steps e))

pub lift_places : (Step : ℕ → Member → Member → Type 0) (one other : SharedReceiver) (bit next : ℕ) (old new : List
    Member) →
    ((k : ℕ) (m : Member) → slice_get old k ≡ Some m → m.is_deferred ≡ true →
    Step k (materialized_member one bit m) (materialized_member other next m)) → AtPlaces (λ k. IfActive (Step k)) old
    new →
    AtPlaces Step (map (resumed one bit) old) (map (resumed other next) new)
lift_places Step one other bit next old new sleeps h = record {
  at = λ k a b p q.
      let x = map_at (resumed one bit) old k a p in
      let y = map_at (resumed other next) new k b q in
      subst (λ z. Step k z b) x.2 (subst (Step k (resumed one bit x.0)) y.2
      (lift_step (Step k) one other bit next x.0 y.0 (sleeps k x.0 x.1) (h.at k x.0 y.0 x.1 y.1)));
  size = length-map new (resumed other next) ∙ h.size ∙ sym (length-map old (resumed one bit));
}

lift_with : {P : Type 0} (Step : Member → Member → P → P → Type 0) (one other : SharedReceiver) (bit next : ℕ)
    (old new : Member) (from to : P) →
    (old.is_deferred ≡ true → Step (materialized_member one bit old) (materialized_member other next old) from from) →
    IfActiveBoth Step old new from to → Step (resumed one bit old) (resumed other next new) from to
lift_with Step one other bit next old new from to sleeps s = by old.is_deferred refl
  where
    by : (b : Bool) → old.is_deferred ≡ b → Step (resumed one bit old) (resumed other next new) from to
    by true e =
        let on = s.stays_deferred e in
        subst (Step (resumed one bit old) (resumed other next new) from) (sym on.1)
        (subst (λ m. Step (resumed one bit old) (resumed other next m) from from) (sym on.0)
        (subst (λ m. Step m (resumed other next old) from from) (sym (deferred_resumed one bit old e))
        (subst (λ m. Step (materialized_member one bit old) m from from) (sym (deferred_resumed other next old e))
        (sleeps e))))
    by false e = subst (λ m. Step (resumed one bit old) m from to) (sym (active_resumed other next new (s.stays_active
        e)))
        (subst (λ m. Step m new from to) (sym (active_resumed one bit old e)) (s.steps e))

pub lift_both : {P : Type 0} (Step : ℕ → Member → Member → P → P → Type 0) (one other : SharedReceiver) (bit next : ℕ)
    (old new : List Member) (from to : List P) → length from ≡ length old →
    ((k : ℕ) (m : Member) (p : P) → slice_get old k ≡ Some m → slice_get from k ≡ Some p → m.is_deferred ≡ true →
    Step k (materialized_member one bit m) (materialized_member other next m) p p) →
    AtBoth (λ k. IfActiveBoth (Step k)) old new from to →
    AtBoth Step (map (resumed one bit) old) (map (resumed other next) new) from to
lift_both Step one other bit next old new from to sizes sleeps h = record {
  at = λ k a b p q ea eb ep eq.
      let x = map_at (resumed one bit) old k a ea in
      let y = map_at (resumed other next) new k b eb in
      subst (λ z. Step k z b p q) x.2 (subst (λ z. Step k (resumed one bit x.0) z p q) y.2
      (lift_with (Step k) one other bit next x.0 y.0 p q (sleeps k x.0 p x.1 ep)
      (h.at k x.0 y.0 p q x.1 y.1 ep eq)));
  size = length-map new (resumed other next) ∙ h.size ∙ sym (length-map old (resumed one bit));
  size_too = h.size_too;
}

-- a node that is deferred after steps of active nodes was deferred before, as it is
was_deferred : (Step : Member → Member → Type 0) (old new : Member) → IfActive Step old new → new.is_deferred ≡ true →
    new ≡ old
was_deferred Step old new s is = by old.is_deferred refl
  where
    by : (b : Bool) → old.is_deferred ≡ b → new ≡ old
    by true e = s.stays_deferred e
    by false e = let active = s.stays_active e in absurd (cc (is, active))

pub left_places : (Step : ℕ → Member → Member → Type 0) (old new : List Member) →
    AtPlaces (λ k. IfActive (Step k)) old new → LeavesDeferred old new
left_places Step old new h k m e is =
    let x = some_there old k (let within = slice_get_within new k m e in omega (arith, within, h.size)) in
    x.1 ∙ ap Some (sym (was_deferred (Step k) x.0 m (h.at k x.0 m x.1 e) is))

was_deferred_with : {P : Type 0} (Step : Member → Member → P → P → Type 0) (old new : Member) (from to : P) →
    IfActiveBoth Step old new from to → new.is_deferred ≡ true → new ≡ old
was_deferred_with Step old new from to s is = by old.is_deferred refl
  where
    by : (b : Bool) → old.is_deferred ≡ b → new ≡ old
    by true e = (s.stays_deferred e).0
    by false e = let active = s.stays_active e in absurd (cc (is, active))

pub left_both : {P : Type 0} (Step : ℕ → Member → Member → P → P → Type 0) (old new : List Member) (from to : List P) →
    length from ≡ length old → AtBoth (λ k. IfActiveBoth (Step k)) old new from to → LeavesDeferred old new
left_both Step old new from to sizes h k m e is =
    let within = slice_get_within new k m e in
    let x = some_there old k (omega (arith, within, h.size)) in
    let p = some_there from k (omega (arith, within, h.size, sizes)) in
    let q = some_there to k (omega (arith, within, h.size, h.size_too, sizes)) in
    x.1 ∙ ap Some (sym (was_deferred_with (Step k) x.0 m p.0 q.0 (h.at k x.0 m p.0 q.0 x.1 e p.1 q.1) is))

pub left_on : (old mid new : List Member) → LeavesDeferred old mid → LeavesDeferred mid new → LeavesDeferred old new
left_on old mid new one other k m e is = one k m (other k m e is) is
