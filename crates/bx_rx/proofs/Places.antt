-- The first place of a bank: of the tests of its filters, the first that is true.
use Rattle.std.proofs.Common.{◌≡◌, ℕ, zero, suc, ◌+◌, ◌<◌, ◌↔◌, IsTrue, Bool, true, false, List, [], ◌∷◌, Option, None}
use Rattle.std.proofs.Common.{Some, refl, sym, subst, arith}
use Rattle.std.specs.List.{position_from}
use Rattle.bx_rx.specs.declared.scale.Scale.TheVariants.{Bits16}
use Rattle.bx_rx.specs.declared.mode.Mode.TheVariants.{Mask}
use Rattle.bx_rx.specs.Bank.{BankValue, Filter, masked, low, high, filters, filters_of, at_scale, Admits, AdmitsAt}
use Rattle.bx_rx.specs.Bank.{IsFirstAmong}

-- each of these tells whether its filter admits the image
abbrev pub Tells : List Bool → List Filter → ℕ → Type 0
Tells [] [] image = Unit {0}
Tells [] (f ∷ fs) image = ⊥
Tells (hit ∷ hits) [] image = ⊥
Tells (hit ∷ hits) (f ∷ fs) image = (IsTrue hit ↔ Admits f image) × Tells hits fs image

-- the first place, counted from i
abbrev IsFirstFrom : ℕ → List Filter → ℕ → Option ℕ → Type 0
IsFirstFrom i fs image None = (place : ℕ) → ¬ (AdmitsAt fs image place)
IsFirstFrom i fs image (Some p) = (place : ℕ) × (p ≡ i + place) × AdmitsAt fs image place
    × ((lower : ℕ) → lower < place → ¬ (AdmitsAt fs image lower))

behind : (i : ℕ) (f : Filter) (fs : List Filter) (image : ℕ) (o : Option ℕ) → ¬ (Admits f image) →
    IsFirstFrom (i + 1) fs image o → IsFirstFrom i (f ∷ fs) image o
behind i f fs image None never h = all
  where
    all : (place : ℕ) → ¬ (AdmitsAt (f ∷ fs) image place)
    all zero a = never a
    all (suc place) a = h place a
behind i f fs image (Some p) never h = (suc h.0, omega (arith, h.1), h.2, below)
  where
    below : (lower : ℕ) → lower < suc h.0 → ¬ (AdmitsAt (f ∷ fs) image lower)
    below zero l a = never a
    below (suc lower) l a = h.3 lower (omega arith) a

first_from : (i : ℕ) (hits : List Bool) (fs : List Filter) (image : ℕ) → Tells hits fs image →
    IsFirstFrom i fs image (position_from (λ hit. hit) i hits)
first_from i [] [] image t = λ place a. a
first_from i [] (f ∷ fs) image t = absurd t
first_from i (hit ∷ hits) [] image t = absurd t
first_from i (true ∷ hits) (f ∷ fs) image t = (0, omega arith, t.0.0 refl, λ lower l. absurd (omega arith))
first_from i (false ∷ hits) (f ∷ fs) image t = behind i f fs image (position_from (λ hit. hit) (i + 1) hits)
    (λ a. let e : false ≡ true = t.0.1 a in cc) (first_from (i + 1) hits fs image t.1)

among_from : (fs : List Filter) (image : ℕ) (o : Option ℕ) → IsFirstFrom 0 fs image o → IsFirstAmong fs image o
among_from fs image None h = h
among_from fs image (Some p) h = let e : h.0 ≡ p = omega (arith, h.1) in
    (subst (AdmitsAt fs image) e h.2, λ lower l. h.3 lower (omega arith))

pub first_among : (hits : List Bool) (fs : List Filter) (image : ℕ) (o : Option ℕ) →
    o ≡ position_from (λ hit. hit) 0 hits → Tells hits fs image → IsFirstAmong fs image o
first_among hits fs image o e t = subst (IsFirstAmong fs image) (sym e)
    (among_from fs image (position_from (λ hit. hit) 0 hits) (first_from 0 hits fs image t))

-- the two filters of a bank of 16 bits with masks
pub first_of_masks : (b : BankValue) (wide narrow l1 h1 l2 h2 : ℕ) (x y : Bool) (o : Option ℕ) → b.scale ≡ Bits16 →
    b.mode ≡ Mask → l1 ≡ low b.r1 → h1 ≡ high b.r1 → l2 ≡ low b.r2 → h2 ≡ high b.r2
    → (IsTrue x ↔ Admits (masked l1 h1) narrow) → (IsTrue y ↔ Admits (masked l2 h2) narrow) →
    o ≡ position_from (λ hit. hit) 0 (x ∷ y ∷ []) → IsFirstAmong (filters_of b) (at_scale b.scale wide narrow) o
first_of_masks b wide narrow l1 h1 l2 h2 x y o s m el1 eh1 el2 eh2 tx ty e =
    let tells : Tells (x ∷ y ∷ []) (filters Bits16 Mask b.r1 b.r2) narrow = (
      subst (λ (p : ℕ × ℕ). IsTrue x ↔ Admits (masked p.0 p.1) narrow) (λ i. (el1 i, eh1 i)) tx,
      (subst (λ (p : ℕ × ℕ). IsTrue y ↔ Admits (masked p.0 p.1) narrow) (λ i. (el2 i, eh2 i)) ty, tt),
    ) in
    subst (λ t. IsFirstAmong (filters t b.mode b.r1 b.r2) (at_scale t wide narrow) o) (sym s)
    (subst (λ t. IsFirstAmong (filters Bits16 t b.r1 b.r2) narrow o) (sym m)
    (first_among (x ∷ y ∷ []) (filters Bits16 Mask b.r1 b.r2) narrow o e tells))
