-- Laws of the places of those elements of a list that pass a test.
use Rattle.std.proofs.Common.{◌≡◌, ◌≤◌, ℕ, zero, suc, ◌+◌, Bool, true, false, cond, Some, List, [], ◌∷◌, length, take}
use Rattle.std.proofs.Common.{count_by, slice_get, refl, sym, ap, arith, ◌∙◌}
use Rattle.std.proofs.lemmas.List.Sums.{sum_by-cons}
use Rattle.can_station.proofs.Places.{same_some}
use Rattle.gw_config.specs.Nodes.{places_where}

count-cons : {X : Type 0} (test : X → Bool) (x : X) (xs : List X) →
    count_by test (x ∷ xs) ≡ cond (test x) 1 0 + count_by test xs
count-cons test x xs = sum_by-cons (λ y. cond (test y) 1 0) x xs

length-step : (b : Bool) (first : ℕ) (later : List ℕ) (count : ℕ) → length later ≡ count →
    length (cond b (first ∷ later) later) ≡ cond b 1 0 + count
length-step true first later count e = omega (arith, e)
length-step false first later count e = omega (arith, e)

pub places-length : {X : Type 0} (test : X → Bool) (first : ℕ) (xs : List X) →
    length (places_where test first xs) ≡ count_by test xs
places-length test first [] = refl
places-length test first (x ∷ xs) = length-step (test x) first (places_where test (first + 1) xs) (count_by test xs)
    (places-length test (first + 1) xs) ∙ sym (count-cons test x xs)

found-step : (b : Bool) (first : ℕ) (later : List ℕ) (count place : ℕ) → slice_get later count ≡ Some place →
    slice_get (cond b (first ∷ later) later) (cond b 1 0 + count) ≡ Some place
found-step true first later count place e =
    (let more : 1 + count ≡ suc count = omega arith in ap (slice_get (first ∷ later)) more ∙ e)
found-step false first later count place e =
    (let same : 0 + count ≡ count = omega arith in ap (slice_get later) same ∙ e)

-- an element that passes stands behind as many of them as pass in front of it
pub place-found : {X : Type 0} (test : X → Bool) (first : ℕ) (xs : List X) (k : ℕ) (x : X) → slice_get xs k ≡ Some x →
    test x ≡ true →
    slice_get (places_where test first xs) (count_by test (take k xs)) ≡ Some (first + k)
place-found test first [] k x e passes = absurd (cc e)
place-found test first (y ∷ xs) zero x e passes =
    let same : y ≡ x = same_some y x e in
    let yes : test y ≡ true = ap test same ∙ passes in
    rw yes (ap Some (let here : first ≡ first + 0 = omega arith in here))
place-found test first (y ∷ xs) (suc k) x e passes =
    ap (slice_get (places_where test first (y ∷ xs))) (count-cons test y (take k xs))
    ∙ found-step (test y) first (places_where test (first + 1) xs) (count_by test (take k xs)) (first + suc k)
    (place-found test (first + 1) xs k x e passes ∙ ap Some (let at : first + 1 + k ≡ first + suc k = omega arith in
    at))

-- what stands at a place of them passes
pub record PlacePasses {X : Type 0} (test : X → Bool) (first : ℕ) (xs : List X) (place : ℕ) : Type 0 where
  pub nth : ℕ
  pub element : X
  pub place_is : place ≡ first + nth
  pub there : slice_get xs nth ≡ Some element
  pub passes : test element ≡ true

passes-on : {X : Type 0} (test : X → Bool) (first : ℕ) (x : X) (xs : List X) (place : ℕ) →
    PlacePasses test (first + 1) xs place → PlacePasses test first (x ∷ xs) place
passes-on test first x xs place p = record {
  nth = suc p.nth;
  element = p.element;
  place_is = omega (arith, p.place_is);
  there = p.there;
  passes = p.passes;
}

passes-step : {X : Type 0} (test : X → Bool) (first : ℕ) (x : X) (xs : List X) (k place : ℕ) (b : Bool) → test x ≡ b →
    ((j : ℕ) → slice_get (places_where test (first + 1) xs) j ≡ Some place → PlacePasses test (first + 1) xs place) →
    slice_get (cond b (first ∷ places_where test (first + 1) xs) (places_where test (first + 1) xs)) k ≡ Some place →
    PlacePasses test first (x ∷ xs) place
passes-step test first x xs zero place true is more e = record {
  nth = 0;
  element = x;
  place_is = (let same = same_some first place e in omega (arith, same));
  there = refl;
  passes = is;
}
passes-step test first x xs (suc k) place true is more e = passes-on test first x xs place (more k e)
passes-step test first x xs k place false is more e = passes-on test first x xs place (more k e)

pub place-passes : {X : Type 0} (test : X → Bool) (first : ℕ) (xs : List X) (k place : ℕ) →
    slice_get (places_where test first xs) k ≡ Some place → PlacePasses test first xs place
place-passes test first [] k place e = absurd (cc e)
place-passes test first (x ∷ xs) k place e =
    passes-step test first x xs k place (test x) refl (λ j f. place-passes test (first + 1) xs j place f) e

-- they go up
at-least : {X : Type 0} (test : X → Bool) (first : ℕ) (xs : List X) (k place : ℕ) →
    slice_get (places_where test first xs) k ≡ Some place → first ≤ place
at-least test first xs k place e = (let p = place-passes test first xs k place e in omega (arith, p.place_is))

once-step : {X : Type 0} (test : X → Bool) (first : ℕ) (xs : List X) (i j place : ℕ) (b : Bool) →
    ((i j : ℕ) → slice_get (places_where test (first + 1) xs) i ≡ Some place →
    slice_get (places_where test (first + 1) xs) j ≡ Some place → i ≡ j) →
    slice_get (cond b (first ∷ places_where test (first + 1) xs) (places_where test (first + 1) xs)) i ≡ Some place →
    slice_get (cond b (first ∷ places_where test (first + 1) xs) (places_where test (first + 1) xs)) j ≡ Some place →
    i ≡ j
once-step test first xs zero zero place true more e f = refl
once-step test first xs zero (suc j) place true more e f = (let later = at-least test (first + 1) xs j place f in
    let here = same_some first place e in absurd (omega (arith, later, here)))
once-step test first xs (suc i) zero place true more e f = (let later = at-least test (first + 1) xs i place e in
    let here = same_some first place f in absurd (omega (arith, later, here)))
once-step test first xs (suc i) (suc j) place true more e f = ap suc (more i j e f)
once-step test first xs i j place false more e f = more i j e f

-- so each stands among them once
pub place-once : {X : Type 0} (test : X → Bool) (first : ℕ) (xs : List X) (place i j : ℕ) →
    slice_get (places_where test first xs) i ≡ Some place → slice_get (places_where test first xs) j ≡ Some place →
    i ≡ j
place-once test first [] place i j e f = absurd (cc e)
place-once test first (x ∷ xs) place i j e f =
    once-step test first xs i j place (test x) (λ k l p q. place-once test (first + 1) xs place k l p q) e f
