-- Laws of what a loop over nodes, or over nodes and their ports, does.
use Rattle.std.proofs.Common.{◌≡◌, ◌≢◌, ℕ, zero, suc, [], ◌∷◌, subst, inl, inr, ◌+◌, ◌<◌, ◌≤◌, List, Some, slice_get}
use Rattle.std.proofs.Common.{length, set, arith, refl, sym, ◌∙◌, ap, None, Option}
use Rattle.std.proofs.lemmas.Bool.{cases_eq, cases_lt}
use Rattle.std.proofs.lemmas.List.{length-set}
use Rattle.std.proofs.lemmas.Option.{slice_get_within}
use Rattle.can_station.specs.declared.place_set.PlaceSet.{PlaceSet}
use Rattle.can_station.specs.Places.{AtPlaces, AtBoth}
use Rattle.can_station.specs.PlaceSets.{HasPlace, IsEmpty, IsWithout}

-- so far a loop made this step at the places below i, and the others are as they were
pub record AtPlacesBelow {M : Type 0} (Step : ℕ → M → M → Type 0) (old new : List M) (i : ℕ) : Type 0 where
  pub below : (k : ℕ) (a b : M) → k < i → slice_get old k ≡ Some a → slice_get new k ≡ Some b → Step k a b
  pub above : (k : ℕ) → i ≤ k → slice_get new k ≡ slice_get old k
  pub size : length new ≡ length old

-- So it did at all places but those of a set, which are as they were.
pub record AtPlacesBut {M : Type 0} (Step : ℕ → M → M → Type 0) (old new : List M) (left : PlaceSet) : Type 0 where
  pub within : (k : ℕ) → HasPlace left k → k < length old
  pub made : (k : ℕ) (a b : M) → (HasPlace left k → ⊥) → slice_get old k ≡ Some a → slice_get new k ≡ Some b →
      Step k a b
  pub same : (k : ℕ) → HasPlace left k → slice_get new k ≡ slice_get old k
  pub size : length new ≡ length old

-- so with the element at its place in the other list
pub record AtBothBut {M P : Type 0} (Step : ℕ → M → M → P → P → Type 0) (old new : List M) (from to : List P)
    (left : PlaceSet) : Type 0 where
  pub within : (k : ℕ) → HasPlace left k → k < length old
  pub made : (k : ℕ) (a b : M) (p q : P) → (HasPlace left k → ⊥) → slice_get old k ≡ Some a →
      slice_get new k ≡ Some b → slice_get from k ≡ Some p → slice_get to k ≡ Some q → Step k a b p q
  pub same : (k : ℕ) → HasPlace left k → slice_get new k ≡ slice_get old k
  pub same_too : (k : ℕ) → HasPlace left k → slice_get to k ≡ slice_get from k
  pub size : length new ≡ length old
  pub size_too : length to ≡ length from

-- a list that was written to at a place
pub get_set_same : {P : Type 0} (xs : List P) (i : ℕ) (y : P) → i < length xs → slice_get (set xs i y) i ≡ Some y
get_set_same [] i y h = absurd (omega (arith, h))
get_set_same (x ∷ xs) zero y h = refl
get_set_same (x ∷ xs) (suc i) y h = get_set_same xs i y (omega (arith, h))

pub get_set_other : {P : Type 0} (xs : List P) (i k : ℕ) (y : P) → k ≢ i → slice_get (set xs i y) k ≡ slice_get xs k
get_set_other [] i k y h = refl
get_set_other (x ∷ xs) zero zero y h = absurd (h refl)
get_set_other (x ∷ xs) zero (suc k) y h = refl
get_set_other (x ∷ xs) (suc i) zero y h = refl
get_set_other (x ∷ xs) (suc i) (suc k) y h = get_set_other xs i k y (λ e. h (ap suc e))

-- a list has an element at each place within it
never_none : {X : Type 0} (ys : List X) (j : ℕ) → j < length ys → slice_get ys j ≡ None → ⊥
never_none [] j r e = omega (arith, r)
never_none (y ∷ ys) zero r e = cc e
never_none (y ∷ ys) (suc j) r e = never_none ys j (omega (arith, r)) e

there : {X : Type 0} (xs : List X) (i : ℕ) → i < length xs → (found : Option X) → slice_get xs i ≡ found → (x : X)
    × (slice_get xs i ≡ Some x)
there xs i room (Some x) e = (x, e)
there xs i room None e = absurd (never_none xs i room e)

pub some_there : {X : Type 0} (xs : List X) (i : ℕ) → i < length xs → (x : X) × (slice_get xs i ≡ Some x)
some_there xs i room = there xs i room (slice_get xs i) refl

pub same_some : {M : Type 0} (a b : M) → Some a ≡ Some b → a ≡ b
same_some a b e = cc e

pub places_start : {M : Type 0} (Step : ℕ → M → M → Type 0) (xs : List M) → AtPlacesBelow Step xs xs 0
places_start Step xs = record { below = λ k a b h p q. absurd (omega (arith, h)); above = λ k h. refl; size = refl }

pub places_end : {M : Type 0} (Step : ℕ → M → M → Type 0) (old new : List M) (i : ℕ) → length old ≤ i →
    AtPlacesBelow Step old new i → AtPlaces Step old new
places_end Step old new i all b = record {
  at = λ k a c p q. b.below k a c (let h : k < length old = slice_get_within old k a p in omega arith) p q;
  size = b.size;
}

-- a step that is another too
pub places_as : {M : Type 0} (One Other : ℕ → M → M → Type 0) (old new : List M) (i : ℕ) →
    ((k : ℕ) (a b : M) → One k a b → Other k a b) → AtPlacesBelow One old new i → AtPlacesBelow Other old new i
places_as One Other old new i too b =
    record { below = λ k a c h p q. too k a c (b.below k a c h p q); above = b.above; size = b.size }

pub same_step : {M : Type 0} (Step : ℕ → M → M → Type 0) (i k : ℕ) (a b c d : M) → i ≡ k → Some a ≡ Some c →
    Some b ≡ Some d → Step i a b → Step k c d
same_step Step i k a b c d ei ea eb step =
    let same_a : a ≡ c = cc ea in
    let same_b : b ≡ d = cc eb in
    subst (λ n. Step n c d) ei (subst (λ z. Step i c z) same_b (subst (λ z. Step i z b) same_a step))

pub places_step : {M : Type 0} (Step : ℕ → M → M → Type 0) (old new : List M) (i : ℕ) (a b : M) → i < length old →
    slice_get new i ≡ Some a → Step i a b →
    AtPlacesBelow Step old new i → AtPlacesBelow Step old (set new i b) (i + 1)
places_step Step old new i a b room here step e = record {
  below = λ k c d h p q. elim (cases_lt k i) [
    | inl less ↦ (let ne : k ≢ i = omega arith in e.below k c d less p (sym (get_set_other new i k b ne) ∙ q))
    | inr more ↦ (let is : k ≡ i = omega arith in
        let qa : Some a ≡ Some c = sym here ∙ e.above i (omega arith) ∙ ap (slice_get old) (sym is) ∙ p in
        let qb : Some b ≡ Some d =
        sym (get_set_same new i b (omega (arith, e.size))) ∙ ap (slice_get (set new i b)) (sym is) ∙ q in
        same_step Step i k a b c d (sym is) qa qb step)
  ];
  above = λ k h. (let ne : k ≢ i = omega arith in get_set_other new i k b ne ∙ e.above k (omega arith));
  size = simp length-set e.size;
}

same_both : {M P : Type 0} (Step : ℕ → M → M → P → P → Type 0) (i k : ℕ) (a b c d : M) (p q r s : P) → i ≡ k →
    Some a ≡ Some c → Some b ≡ Some d → Some p ≡ Some r → Some q ≡ Some s → Step i a b p q → Step k c d r s
same_both Step i k a b c d p q r s ei ea eb ep eq step =
    let same_a : a ≡ c = cc ea in
    let same_b : b ≡ d = cc eb in
    let same_p : p ≡ r = cc ep in
    let same_q : q ≡ s = cc eq in
    subst (λ n. Step n c d r s) ei (subst (λ z. Step i c d r z) same_q
    (subst (λ z. Step i c d z q) same_p (subst (λ z. Step i c z p q) same_b
    (subst (λ z. Step i z b p q) same_a step))))

-- a loop over the places of a set: all but those left made a step
there_too : {M : Type 0} (new : List M) (i : ℕ) {n : ℕ} → i < n → length new ≡ n → i < length new
there_too new i less same = omega (arith, less, same)

pub still_other : (i k : ℕ) (left after : PlaceSet) → IsWithout i left after → HasPlace after k → k ≢ i
still_other i k left after without still is = without.has_not (subst (HasPlace after) is still)

pub but_step : {M : Type 0} (Step : ℕ → M → M → Type 0) (old new : List M) (left after : PlaceSet) (i : ℕ) (a b : M) →
    HasPlace left i → IsWithout i left after → slice_get new i ≡ Some a → Step i a b →
    AtPlacesBut Step old new left → AtPlacesBut Step old (set new i b) after
but_step Step old new left after i a b has without here step e = record {
  within = λ k still. e.within k (without.no_others k still);
  made = λ k c d not p q. elim (cases_eq k i) [
    | inl is ↦ (let qa : Some a ≡ Some c = sym here ∙ e.same i has ∙ ap (slice_get old) (sym is) ∙ p in
        let qb : Some b ≡ Some d =
        sym (get_set_same new i b (there_too new i (e.within i has) e.size)) ∙ ap (slice_get (set new i b)) (sym is)
        ∙ q in
        same_step Step i k a b c d (sym is) qa qb step)
    | inr other ↦ e.made k c d (λ was. not (without.others k other was)) p (sym (get_set_other new i k b other) ∙ q)
  ];
  same = λ k still. (let ne = still_other i k left after without still in
      get_set_other new i k b ne ∙ e.same k (without.no_others k still));
  size = simp length-set e.size;
}

pub but_end : {M : Type 0} (Step : ℕ → M → M → Type 0) (old new : List M) (left : PlaceSet) → IsEmpty left →
    AtPlacesBut Step old new left → AtPlaces Step old new
but_end Step old new left none e = record { at = λ k a b p q. e.made k a b (none k) p q; size = e.size }

pub both_step : {M P : Type 0} (Step : ℕ → M → M → P → P → Type 0) (old new : List M) (from to : List P)
    (left after : PlaceSet) (i : ℕ) (a b : M) (p q : P) → length from ≡ length old →
    HasPlace left i → IsWithout i left after → slice_get new i ≡ Some a → slice_get to i ≡ Some p → Step i a b p q →
    AtBothBut Step old new from to left → AtBothBut Step old (set new i b) from (set to i q) after
both_step Step old new from to left after i a b p q sizes has without here there step e = record {
  within = λ k still. e.within k (without.no_others k still);
  made = λ k c d r s not ec ed er es. elim (cases_eq k i) [
    | inl is ↦ (let qa : Some a ≡ Some c = sym here ∙ e.same i has ∙ ap (slice_get old) (sym is) ∙ ec in
        let qb : Some b ≡ Some d =
        sym (get_set_same new i b (there_too new i (e.within i has) e.size)) ∙ ap (slice_get (set new i b)) (sym is)
        ∙ ed in
        let qp : Some p ≡ Some r = sym there ∙ e.same_too i has ∙ ap (slice_get from) (sym is) ∙ er in
        let qq : Some q ≡ Some s =
        sym (get_set_same to i q (there_too to i (e.within i has) (e.size_too ∙ sizes)))
        ∙ ap (slice_get (set to i q)) (sym is) ∙ es in
        same_both Step i k a b c d p q r s (sym is) qa qb qp qq step)
    | inr other ↦ e.made k c d r s (λ was. not (without.others k other was)) ec
        (sym (get_set_other new i k b other) ∙ ed) er (sym (get_set_other to i k q other) ∙ es)
  ];
  same = λ k still. (let ne = still_other i k left after without still in
      get_set_other new i k b ne ∙ e.same k (without.no_others k still));
  same_too = λ k still. (let ne = still_other i k left after without still in
      get_set_other to i k q ne ∙ e.same_too k (without.no_others k still));
  size = simp length-set e.size;
  size_too = simp length-set e.size_too;
}

pub both_end : {M P : Type 0} (Step : ℕ → M → M → P → P → Type 0) (old new : List M) (from to : List P)
    (left : PlaceSet) → IsEmpty left → AtBothBut Step old new from to left → AtBoth Step old new from to
both_end Step old new from to left none e = record {
  at = λ k a c p q ea ec ep eq. e.made k a c p q (none k) ea ec ep eq;
  size = e.size;
  size_too = e.size_too;
}
