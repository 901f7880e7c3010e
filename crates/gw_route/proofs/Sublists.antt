-- Laws of sublists.
use Rattle.std.proofs.Common.{inl, inr, List, [], ◌∷◌, ◌++◌, refl, ◌∙◌}
use Rattle.gw_route.specs.Sublists.{IsSublist}

pub sublist_none : {A : Type 0} (ys : List A) → IsSublist [] ys
sublist_none ys = tt

-- an element more at the back of the longer list, or of both
pub sublist_more : {A : Type 0} (xs ys : List A) (z : A) → IsSublist xs ys → IsSublist xs (ys ++ z ∷ [])
sublist_more [] ys z h = tt
sublist_more (x ∷ xs) [] z h = absurd h
sublist_more (x ∷ xs) (y ∷ ys) z (inl h) = inl (h.0, sublist_more xs ys z h.1)
sublist_more (x ∷ xs) (y ∷ ys) z (inr h) = inr (sublist_more (x ∷ xs) ys z h)

last_of : {A : Type 0} (ys : List A) (z : A) → IsSublist (z ∷ []) (ys ++ z ∷ [])
last_of [] z = inl (refl, tt)
last_of (y ∷ ys) z = inr (last_of ys z)

pub sublist_push : {A : Type 0} (xs ys : List A) (z : A) → IsSublist xs ys → IsSublist (xs ++ z ∷ []) (ys ++ z ∷ [])
sublist_push [] ys z h = last_of ys z
sublist_push (x ∷ xs) [] z h = absurd h
sublist_push (x ∷ xs) (y ∷ ys) z (inl h) = inl (h.0, sublist_push xs ys z h.1)
sublist_push (x ∷ xs) (y ∷ ys) z (inr h) = inr (sublist_push (x ∷ xs) ys z h)

-- more elements at the back of the longer list
pub sublist_left : {A : Type 0} (xs ys zs : List A) → IsSublist xs ys → IsSublist xs (ys ++ zs)
sublist_left [] ys zs h = tt
sublist_left (x ∷ xs) [] zs h = absurd h
sublist_left (x ∷ xs) (y ∷ ys) zs (inl h) = inl (h.0, sublist_left xs ys zs h.1)
sublist_left (x ∷ xs) (y ∷ ys) zs (inr h) = inr (sublist_left (x ∷ xs) ys zs h)

pub sublist_on : {A : Type 0} (xs ys zs : List A) → IsSublist xs ys → IsSublist ys zs → IsSublist xs zs
sublist_on [] ys zs p q = tt
sublist_on (x ∷ xs) [] zs p q = absurd p
sublist_on (x ∷ xs) (y ∷ ys) [] p q = absurd q
sublist_on (x ∷ xs) (y ∷ ys) (z ∷ zs) (inl p) (inl q) = inl (p.0 ∙ q.0, sublist_on xs ys zs p.1 q.1)
sublist_on (x ∷ xs) (y ∷ ys) (z ∷ zs) (inr p) (inl q) = inr (sublist_on (x ∷ xs) ys zs p q.1)
sublist_on (x ∷ xs) (y ∷ ys) (z ∷ zs) p (inr q) = inr (sublist_on (x ∷ xs) (y ∷ ys) zs p q)
