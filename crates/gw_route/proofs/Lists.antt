-- Where an element of two lists in a row stands.
use Rattle.std.proofs.Common.{◌⊎◌, inl, inr, List, [], ◌∷◌, ◌++◌}
use Rattle.bx_core.specs.Lists.{Has}

module _ {A : Type 0} where
  pub has-either : (xs ys : List A) (y : A) → Has (xs ++ ys) y → Has xs y ⊎ Has ys y
  has-either [] ys y h = inr h
  has-either (x ∷ xs) ys y (inl e) = inl (inl e)
  has-either (x ∷ xs) ys y (inr h) = elim (has-either xs ys y h) [ inl a ↦ inl (inr a) | inr b ↦ inr b ]
