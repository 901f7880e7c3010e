-- Sets of places, and loops over those at which nodes may be active.
use Rattle.std.proofs.Common.{◌≡◌, ℕ, zero, suc, ◌*◌, ◌%◌, ◌^◌, ◌<◌, ◌&&◌, inl, inr, Bool, true, false}
use Rattle.std.proofs.Common.{List, [], ◌∷◌, Some, length, set, slice_get, refl, sym, ap, subst, arith, w64, ◌∙◌}
use Rattle.std.proofs.Common.{bit_and, bit_or, ◌≢◌}
use Rattle.std.specs.Int.{bit_at, bit_not, trailing_zeros}
use Rattle.std.specs.Int.Count.{trailing_of_zero}
use Rattle.std.specs.List.{list_all}
use Rattle.std.proofs.lemmas.Bool.{cases_eq, cases_lt}
use Rattle.std.proofs.lemmas.List.{length-set}
use Rattle.std.proofs.lemmas.Nat.{and_le_l}
use Rattle.std.proofs.lemmas.Nat.Bits.{bit_at-lt, bit_at-trailing_zeros, bit_at_above, bit_at_and}
use Rattle.std.proofs.lemmas.Nat.Bits.{bit_at_clear_other, bit_at_clear_same, bit_at_set_other, bit_at_set_same}
use Rattle.std.proofs.lemmas.Option.{slice_get_within}
use Rattle.can_station.specs.declared.member.Member.{Member}
use Rattle.can_station.specs.declared.place_set.PlaceSet.{PlaceSet}
use Rattle.can_station.specs.Places.{AtBoth, AtPlaces}
use Rattle.can_station.proofs.Places.{AtBothBut, AtPlacesBut, get_set_other, get_set_same}
use Rattle.can_station.proofs.Places.{same_some, same_step, some_there}
use Rattle.can_station.specs.PlaceSets.{HasPlace, IsEmpty, IsFirst, IsWith, IsWithout}
use Rattle.can_station.specs.DeferredNodes.{ActiveWithin, IfActive, IfActiveBoth}

-- the first place of a set that has one is that of the lowest 1
pub first_is : (set : PlaceSet) → 0 < set.bits → set.bits < 2 ^ 64 → IsFirst (trailing_zeros w64 set.bits) set
first_is set some fits =
    let lowest = bit_at-trailing_zeros w64 set.bits some fits in
    record {
      has = lowest.1;
      first = λ k has. elim (cases_lt k (trailing_zeros w64 set.bits)) [
        | inl less ↦ absurd (let no = lowest.2 k less in cc (has, no))
        | inr more ↦ omega (arith, more)
      ];
    }

pub first_below : (set : PlaceSet) → 0 < set.bits → set.bits < 2 ^ 64 → trailing_zeros w64 set.bits < 64
first_below set some fits = (bit_at-trailing_zeros w64 set.bits some fits).0

pub some_bits : (n : ℕ) → trailing_zeros w64 n < 64 → 0 < n
some_bits zero few = absurd (let none = trailing_of_zero 64 in omega (arith, few, none))
some_bits (suc n) few = omega arith

pub empty_none : (set : PlaceSet) → IsEmpty set → set.bits < 2 ^ 64 → set.bits ≡ 0
empty_none set none fits = elim (cases_lt 0 set.bits) [
  | inl some ↦ absurd (none (trailing_zeros w64 set.bits) (first_is set some fits).has)
  | inr not ↦ omega (arith, not)
]

-- only places below 64 are there
below : (n k : ℕ) → n < 2 ^ 64 → bit_at n k ≡ 1 → k < 64
below n k fits has = elim (cases_lt k 64) [
  | inl less ↦ less
  | inr more ↦ absurd (let no = bit_at_above n 64 k fits (omega (arith, more)) in cc (has, no))
]

pub with_place : (set : PlaceSet) (place : ℕ) → place < 64 →
    IsWith place set (record { bits = bit_or set.bits (1 * 2 ^ place % 2 ^ 64) })
with_place set place room = record {
  has = bit_at_set_same w64 set.bits place room;
  others = λ k other has. bit_at_set_other w64 set.bits place room k other ∙ has;
  no_others = λ k other has. sym (bit_at_set_other w64 set.bits place room k other) ∙ has;
}

pub without_place : (set : PlaceSet) (place : ℕ) → place < 64 → set.bits < 2 ^ 64 →
    IsWithout place set (record { bits = bit_and set.bits (bit_not w64 (1 * 2 ^ place % 2 ^ 64)) })
without_place set place room fits = record {
  has_not = λ has. let no = bit_at_clear_same w64 set.bits place room in cc (has, no);
  others = λ k other has. bit_at_clear_other w64 set.bits place room k (below set.bits k fits has) other ∙ has;
  no_others = λ k has.
      let both = bit_at_and set.bits (bit_not w64 (1 * 2 ^ place % 2 ^ 64)) k in
      let one = bit_at-lt set.bits k in
      omega (arith, both, has, one);
}

pub fewer : (set : PlaceSet) (place : ℕ) → place < 64 → HasPlace set place →
    bit_and set.bits (bit_not w64 (1 * 2 ^ place % 2 ^ 64)) < set.bits
fewer set place room has = elim (cases_eq (bit_and set.bits mask) set.bits) [
  | inl same ↦ absurd (let no = bit_at_clear_same w64 set.bits place room in
      let zero_is_one = sym no ∙ ap (λ n. bit_at n place) same ∙ has in cc zero_is_one)
  | inr other ↦ (let most = and_le_l set.bits mask in omega (arith, most, other))
]
  where
    mask : ℕ
    mask = bit_not w64 (1 * 2 ^ place % 2 ^ 64)

-- those of the first of these that are active have the places of the set
pub record ActiveBelow (set : PlaceSet) (members : List Member) (i : ℕ) : Type 0 where
  pub within : (k : ℕ) → HasPlace set k → k < i
  pub has : (k : ℕ) (m : Member) → k < i → slice_get members k ≡ Some m → m.is_deferred ≡ false → HasPlace set k
  pub active : (k : ℕ) (m : Member) → HasPlace set k → slice_get members k ≡ Some m → m.is_deferred ≡ false

-- one whose place isn't in the set is deferred
pub deferred_outside : (set : PlaceSet) (members : List Member) (k : ℕ) (m : Member) → ActiveWithin set members →
    slice_get members k ≡ Some m → (HasPlace set k → ⊥) → m.is_deferred ≡ true
deferred_outside set members k m h e out = by m.is_deferred refl
  where
    by : (b : Bool) → m.is_deferred ≡ b → m.is_deferred ≡ true
    by true is = is
    by false is = absurd (out (h.has k m e is))

-- a deferred node makes no step
deferred_step : (Step : Member → Member → Type 0) (old new : Member) → new ≡ old → old.is_deferred ≡ true → IfActive
    Step old new
deferred_step Step old new same is =
    record { stays_deferred = λ e. same; stays_active = λ e. absurd (cc (e, is)); steps = λ e. absurd (cc (e, is)) }

deferred_both : {P : Type 0} (Step : Member → Member → P → P → Type 0) (old new : Member) (from to : P) → new ≡ old →
    to ≡ from → old.is_deferred ≡ true → IfActiveBoth Step old new from to
deferred_both Step old new from to same same_port is = record {
  stays_deferred = λ e. (same, same_port);
  stays_active = λ e. absurd (cc (e, is));
  steps = λ e. absurd (cc (e, is));
}

-- before a loop over the places at which nodes may be active those elsewhere have made none
pub but_start : (Step : ℕ → Member → Member → Type 0) (xs : List Member) (set : PlaceSet) → ActiveWithin set xs →
    AtPlacesBut (λ k. IfActive (Step k)) xs xs set
but_start Step xs set h = record {
  within = h.within;
  made = λ k a b not p q. deferred_step (Step k) a b (same_some b a (sym q ∙ p)) (deferred_outside set xs k a h p not);
  same = λ k has. refl;
  size = refl;
}

-- where all nodes are deferred, none makes a step
pub none_step : (Step : Member → Member → Type 0) (xs : List Member) →
    ((k : ℕ) (m : Member) → slice_get xs k ≡ Some m → m.is_deferred ≡ true) → AtPlaces (λ k. IfActive Step) xs xs
none_step Step xs deferred = record {
  at = λ k a b p q. deferred_step Step a b (same_some b a (sym q ∙ p)) (deferred k a p);
  size = refl;
}

-- where all nodes but one are deferred, only that one makes a step
pub lone_step : (Step : Member → Member → Type 0) (xs : List Member) (i : ℕ) (a b : Member) → i < length xs →
    ((k : ℕ) (m : Member) → slice_get xs k ≡ Some m → k ≢ i → m.is_deferred ≡ true) → slice_get xs i ≡ Some a →
    IfActive Step a b → AtPlaces (λ k. IfActive Step) xs (set xs i b)
lone_step Step xs i a b less deferred here step = record {
  at = λ k c d p q. elim (cases_eq k i) [
    | inl is ↦ same_step (λ k. IfActive Step) i k a b c d (sym is) (sym here ∙ ap (slice_get xs) (sym is) ∙ p)
        (sym (get_set_same xs i b less) ∙ ap (slice_get (set xs i b)) (sym is) ∙ q) step
    | inr other ↦ deferred_step Step c d (same_some d c (sym q ∙ get_set_other xs i k b other ∙ p))
        (deferred k c p other)
  ];
  size = length-set xs i b;
}

pub both_start : {P : Type 0} (Step : ℕ → Member → Member → P → P → Type 0) (xs : List Member) (ps : List P)
    (set : PlaceSet) → ActiveWithin set xs → AtBothBut (λ k. IfActiveBoth (Step k)) xs xs ps ps set
both_start Step xs ps set h = record {
  within = h.within;
  made = λ k a b p q not ea eb ep eq. deferred_both (Step k) a b p q (same_some b a (sym eb ∙ ea))
      (same_some q p (sym eq ∙ ep)) (deferred_outside set xs k a h ea not);
  same = λ k has. refl;
  same_too = λ k has. refl;
  size = refl;
  size_too = refl;
}

-- no other node is active behind such steps
pub within_places : (Step : ℕ → Member → Member → Type 0) (set : PlaceSet) (old new : List Member) →
    AtPlaces (λ k. IfActive (Step k)) old new → ActiveWithin set old → ActiveWithin set new
within_places Step set old new h w = record {
  within = λ k has. let less = w.within k has in omega (arith, less, h.size);
  has = λ k m e is.
      let x = some_there old k (let there = slice_get_within new k m e in omega (arith, there, h.size)) in
      w.has k x.0 x.1 (was x.0 m (h.at k x.0 m x.1 e) is);
}
  where
    was : {S : Member → Member → Type 0} (x m : Member) → IfActive S x m → m.is_deferred ≡ false → x.is_deferred ≡ false
    was x m step is = by x.is_deferred refl
      where
        by : (b : Bool) → x.is_deferred ≡ b → x.is_deferred ≡ false
        by false on = on
        by true on = ap (λ y. y.is_deferred) (sym (step.stays_deferred on)) ∙ is

pub within_both : {P : Type 0} (Step : ℕ → Member → Member → P → P → Type 0) (set : PlaceSet) (old new : List Member)
    (from to : List P) → length from ≡ length old → AtBoth (λ k. IfActiveBoth (Step k)) old new from to →
    ActiveWithin set old → ActiveWithin set new
within_both {P = P} Step set old new from to sizes h w = record {
  within = λ k has. let less = w.within k has in omega (arith, less, h.size);
  has = λ k m e is.
      let there = slice_get_within new k m e in
      let x = some_there old k (omega (arith, there, h.size)) in
      let p = some_there from k (omega (arith, there, h.size, sizes)) in
      let q = some_there to k (omega (arith, there, h.size, h.size_too, sizes)) in
      w.has k x.0 x.1 (was (Step k) x.0 m p.0 q.0 (h.at k x.0 m p.0 q.0 x.1 e p.1 q.1) is);
}
  where
    was : (S : Member → Member → P → P → Type 0) (x m : Member) (p q : P) → IfActiveBoth S x m p q →
        m.is_deferred ≡ false → x.is_deferred ≡ false
    was S x m p q step is = by x.is_deferred refl
      where
        by : (b : Bool) → x.is_deferred ≡ b → x.is_deferred ≡ false
        by false on = on
        by true on = ap (λ y. y.is_deferred) (sym (step.stays_deferred on).0) ∙ is

-- this is so of each node, but of those left
pub record EachBut (Q : ℕ → Member → Type 0) (members : List Member) (left : PlaceSet) : Type 0 where
  pub within : (k : ℕ) → HasPlace left k → k < length members
  pub each : (k : ℕ) (m : Member) → (HasPlace left k → ⊥) → slice_get members k ≡ Some m → Q k m

pub each_start : (Q : ℕ → Member → Type 0) (members : List Member) (set : PlaceSet) → ActiveWithin set members →
    ((k : ℕ) (m : Member) → m.is_deferred ≡ true → Q k m) → EachBut Q members set
each_start Q members set h deferred_level = record {
  within = h.within;
  each = λ k m not e. deferred_level k m (deferred_outside set members k m h e not);
}

pub each_step : (Q : ℕ → Member → Type 0) (members : List Member) (left after : PlaceSet) (i : ℕ) (m : Member) →
    IsWithout i left after → slice_get members i ≡ Some m → Q i m → EachBut Q members left → EachBut Q members after
each_step Q members left after i m without here so so_far = record {
  within = λ k still. so_far.within k (without.no_others k still);
  each = λ k x not e. elim (cases_eq k i) [
    | inl is ↦ subst (λ n. Q n x) (sym is)
        (subst (Q i) (same_some m x (sym here ∙ ap (slice_get members) (sym is) ∙ e)) so)
    | inr other ↦ so_far.each k x (λ was. not (without.others k other was)) e
  ];
}

-- also where the one that is taken out has changed
pub each_set : (Q : ℕ → Member → Type 0) (members : List Member) (left after : PlaceSet) (i : ℕ) (m : Member) →
    IsWithout i left after → i < length members → Q i m → EachBut Q members left → EachBut Q (set members i m) after
each_set Q members left after i m without room so so_far = record {
  within = λ k still. let less = so_far.within k (without.no_others k still) in
      omega (arith, less, length-set members i m);
  each = λ k x not e. elim (cases_eq k i) [
    | inl is ↦ subst (λ n. Q n x) (sym is)
        (subst (Q i) (same_some m x (sym (get_set_same members i m room)
        ∙ ap (slice_get (set members i m)) (sym is) ∙ e)) so)
    | inr other ↦ so_far.each k x (λ was. not (without.others k other was))
        (sym (get_set_other members i k m other) ∙ e)
  ];
}

pub each_end : (Q : ℕ → Member → Type 0) (members : List Member) (left : PlaceSet) → IsEmpty left →
    EachBut Q members left → (k : ℕ) (m : Member) → slice_get members k ≡ Some m → Q k m
each_end Q members left none h k m e = h.each k m (none k) e

-- all pass a test
pub all_pass : {M : Type 0} (test : M → Bool) (xs : List M) →
    ((k : ℕ) (m : M) → slice_get xs k ≡ Some m → test m ≡ true) → list_all test xs ≡ true
all_pass test [] h = refl
all_pass test (x ∷ xs) h = ap (λ b. b && list_all test xs) (h zero x refl) ∙ all_pass test xs (λ k m e. h (suc k) m e)
