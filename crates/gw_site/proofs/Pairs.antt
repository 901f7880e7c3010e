-- Laws of two lists, place by place.
use Rattle.std.proofs.Common.{◌≡◌, ℕ, zero, suc, ◌+◌, inl, inr, Some, List, [], ◌∷◌, ◌++◌, length, slice_get, map, refl}
use Rattle.std.proofs.Common.{sym, ap, ap₂, subst, arith, ◌∙◌, length-append}
use Rattle.std.proofs.lemmas.Option.{slice_get_within}
use Rattle.can_station.proofs.Places.{some_there, same_some}
use Rattle.bx_core.specs.Lists.{Each}
pub use Rattle.bx_core.proofs.Words.{pushed}
use Rattle.gw_site.specs.Pairs.{Pairs}

-- pairs so far: the second list has the first places alone
pub record PairsBelow {X Y : Type 0} (R : ℕ → X → Y → Type 0) (xs : List X) (ys : List Y) (i : ℕ) : Type 0 where
  pub at : (k : ℕ) (x : X) (y : Y) → slice_get xs k ≡ Some x → slice_get ys k ≡ Some y → R k x y
  pub size : length ys ≡ i

pub pairs_step : {X Y : Type 0} (R : ℕ → X → Y → Type 0) (xs : List X) (ys : List Y) (i : ℕ) (x : X) (y : Y) →
    slice_get xs i ≡ Some x → R i x y →
    PairsBelow R xs ys i → PairsBelow R xs (ys ++ y ∷ []) (i + 1)
pairs_step R xs ys i x y here holds b = record {
  at = λ k z w e f. elim (pushed ys y k w f) [
    | inl is ↦ b.at k z w e is
    | inr is ↦ (let place : i ≡ k = omega (arith, is.0, b.size) in
        let same : x ≡ z = same_some x z (sym here ∙ ap (slice_get xs) place ∙ e) in
        subst (λ n. R n z w) place (subst (λ v. R i z v) is.1 (subst (λ v. R i v y) same holds)))
  ];
  size = omega (arith, length-append ys (y ∷ []), b.size);
}

-- what stands at a place of the second list, and in the first one at the same place
pub pair_at : {X Y : Type 0} (R : ℕ → X → Y → Type 0) (xs : List X) (ys : List Y) (k : ℕ) (y : Y) → Pairs R xs ys →
    slice_get ys k ≡ Some y → (x : X) × (slice_get xs k ≡ Some x) × R k x y
pair_at R xs ys k y p e =
    let within = slice_get_within ys k y e in
    let x = some_there xs k (omega (arith, within, p.size)) in
    (x.0, x.1, p.at k x.0 y x.1 e)

-- and the other way round
pub pair_of : {X Y : Type 0} (R : ℕ → X → Y → Type 0) (xs : List X) (ys : List Y) (k : ℕ) (x : X) → Pairs R xs ys →
    slice_get xs k ≡ Some x → (y : Y) × (slice_get ys k ≡ Some y) × R k x y
pair_of R xs ys k x p e =
    let within = slice_get_within xs k x e in
    let y = some_there ys k (omega (arith, within, p.size)) in
    (y.0, y.1, p.at k x y.0 e y.1)

-- what holds of each element holds of the one at a place
pub each_at : {X : Type 0} (P : X → Type 0) (xs : List X) (k : ℕ) (x : X) → slice_get xs k ≡ Some x → Each P xs → P x
each_at P [] k x e all = absurd (cc e)
each_at P (y ∷ xs) zero x e all = subst P (same_some y x e) all.0
each_at P (y ∷ xs) (suc k) x e all = each_at P xs k x e all.1

-- lists whose elements are equal in this, place by place
pub pairs-map : {X Y Z : Type 0} (f : X → Z) (g : Y → Z) (xs : List X) (ys : List Y) →
    Pairs (λ k x y. g y ≡ f x) xs ys → map g ys ≡ map f xs
pairs-map f g [] [] p = refl
pairs-map f g [] (y ∷ ys) p = absurd (omega (arith, p.size))
pairs-map f g (x ∷ xs) [] p = absurd (omega (arith, p.size))
pairs-map f g (x ∷ xs) (y ∷ ys) p = ap₂ (λ z zs. z ∷ zs) (p.at 0 x y refl refl)
    (pairs-map f g xs ys (record { at = λ k a b e h. p.at (suc k) a b e h; size = omega (arith, p.size) }))

-- both lists grow by one
pub pairs_more : {X Y : Type 0} (R : ℕ → X → Y → Type 0) (xs : List X) (ys : List Y) (x : X) (y : Y) →
    R (length xs) x y → Pairs R xs ys → Pairs R (xs ++ x ∷ []) (ys ++ y ∷ [])
pairs_more R xs ys x y here p = record {
  at = λ k a b e f. elim (pushed xs x k a e) [
    | inl front ↦ elim (pushed ys y k b f) [
      | inl both ↦ p.at k a b front both
      | inr last ↦ (let inside = slice_get_within xs k a front in absurd (omega (arith, inside, last.0, p.size)))
    ]
    | inr last ↦ elim (pushed ys y k b f) [
      | inl front ↦ (let inside = slice_get_within ys k b front in absurd (omega (arith, inside, last.0, p.size)))
      | inr both ↦ subst (λ n. R n a b) (sym last.0)
          (subst (λ v. R (length xs) v b) last.1 (subst (λ v. R (length xs) x v) both.1 here))
    ]
  ];
  size = omega (arith, length-append xs (x ∷ []), length-append ys (y ∷ []), p.size);
}
