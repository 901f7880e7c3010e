-- Laws of lists.
use Rattle.std.proofs.Common.{List, [], ◌∷◌, ◌++◌, All}
use Rattle.std.proofs.lemmas.List.Elements.{All-head, All-tail}
use Rattle.bx_core.specs.Lists.{Each}

-- what holds at each place of a list holds of each element
pub each_from_all : {A : Type 0} (P : A → Type 0) (xs : List A) → All P xs → Each P xs
each_from_all P [] all = tt
each_from_all P (x ∷ xs) all = (All-head P x xs all, each_from_all P xs (All-tail P x xs all))

-- what holds of each element and of one more
pub each-push : {A : Type 0} (P : A → Type 0) (xs : List A) (x : A) → Each P xs → P x → Each P (xs ++ x ∷ [])
each-push P [] x before here = (here, tt)
each-push P (y ∷ ys) x before here = (before.0, each-push P ys x before.1 here)

pub each_weaker : {A : Type 0} (P Q : A → Type 0) → ((x : A) → P x → Q x) → (xs : List A) → Each P xs → Each Q xs
each_weaker P Q goes [] h = tt
each_weaker P Q goes (x ∷ xs) h = (goes x h.0, each_weaker P Q goes xs h.1)
