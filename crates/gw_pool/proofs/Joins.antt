-- Lists that are walked through from the front, and lists that stand to each other place by place.
use Rattle.std.proofs.Common.{◌≡◌, ℕ, ◌+◌, ◌≤◌, List, [], ◌∷◌, ◌++◌, length, sym, ap, subst, arith, ◌∙◌, length-append}
use Rattle.std.proofs.Common.{append_assoc}
use Rattle.std.proofs.lemmas.List.{append-nil}
use Rattle.std.proofs.lemmas.Option.{slice_get_within}
use Rattle.can_station.proofs.Places.{some_there}
use Rattle.bx_core.specs.Lists.{Each}
use Rattle.gw_site.specs.Pairs.{Pairs}

-- one more is behind: what was walked through, it and the rest are the whole
pub walked : {X : Type 0} (front : List X) (x : X) (rest left whole : List X) → front ++ left ≡ whole →
    left ≡ x ∷ rest → (front ++ x ∷ []) ++ rest ≡ whole
walked front x rest left whole e is = append_assoc front (x ∷ []) rest ∙ ap (λ r. front ++ r) (sym is) ∙ e

-- what holds of each of the whole holds of it
pub each_walked : {X : Type 0} (P : X → Type 0) (front : List X) (x : X) (rest left whole : List X) → front
    ++ left ≡ whole → left ≡ x ∷ rest → Each P whole → P x
each_walked P front x rest left whole e is all =
    each_behind P front x rest (subst (Each P) (sym (ap (λ r. front ++ r) (sym is) ∙ e)) all)
  where
    each_behind : {X : Type 0} (P : X → Type 0) (front : List X) (x : X) (rest : List X) → Each P (front ++ x ∷ rest) →
        P x
    each_behind P [] x rest h = h.0
    each_behind P (y ∷ front) x rest h = each_behind P front x rest h.1

-- there are no more behind it than in the whole
pub walked_room : {X : Type 0} (front : List X) (x : X) (rest left whole : List X) → front ++ left ≡ whole →
    left ≡ x ∷ rest → length front + 1 ≤ length whole
walked_room front x rest left whole e is = omega (arith, ap length e, ap length is, length-append front left)

-- nothing is left: what was walked through is the whole
pub walked_all : {X : Type 0} (front left whole : List X) → front ++ left ≡ whole → left ≡ [] → front ≡ whole
walked_all front left whole e is = sym (append-nil front) ∙ ap (λ r. front ++ r) (sym is) ∙ e

-- what stands to what a third list has at its place
pub pairs-on : {X Y Z : Type 0} (Q : ℕ → X → Y → Type 0) (R : ℕ → Y → Z → Type 0) (S : ℕ → X → Z → Type 0) (xs : List X)
    (ys : List Y) (zs : List Z) →
    ((k : ℕ) (x : X) (y : Y) (z : Z) → Q k x y → R k y z → S k x z) → Pairs Q xs ys → Pairs R ys zs → Pairs S xs zs
pairs-on Q R S xs ys zs on p q = record {
  at = λ k x z e f. (let within = slice_get_within xs k x e in
      let y = some_there ys k (omega (arith, within, p.size)) in
      on k x y.0 z (p.at k x y.0 e y.1) (q.at k y.0 z y.1 f));
  size = q.size ∙ p.size;
}
