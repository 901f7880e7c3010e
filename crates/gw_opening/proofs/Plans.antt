-- Laws of what a loop keeps of a list.
use Rattle.std.proofs.Common.{◌≡◌, Option, Some, None, List, [], ◌∷◌, ◌++◌, append_assoc, fold, option_to_list, refl}
use Rattle.std.proofs.Common.{ap, sym, ◌∙◌}
use Rattle.std.specs.List.{filter_map, cons_option}
use Rattle.std.proofs.lemmas.List.{append-nil}

one-or-none : {Y : Type 0} (o : Option Y) (ys : List Y) → option_to_list o ++ ys ≡ cons_option o ys
one-or-none None ys = refl
one-or-none (Some y) ys = refl

one-kept : {X Y : Type 0} (h : X → Option Y) (x : X) (ys : List Y) → option_to_list (h x) ++ ys ≡ cons_option (h x) ys
one-kept h x ys = one-or-none (h x) ys

-- what a loop keeps of the elements, one after another
abbrev pub kept_of : {X Y : Type 0} → (X → Option Y) → List Y → List X → List Y
kept_of h so_far xs = fold (λ kept x. kept ++ option_to_list (h x)) so_far xs

kept-on : {X Y : Type 0} (h : X → Option Y) (so_far : List Y) (xs : List X) → kept_of h so_far xs ≡ so_far
    ++ filter_map h xs
kept-on h so_far [] = sym (append-nil so_far)
kept-on h so_far (x ∷ xs) = kept-on h (so_far ++ option_to_list (h x)) xs
    ∙ append_assoc so_far (option_to_list (h x)) (filter_map h xs)
    ∙ ap (λ ys. so_far ++ ys) (one-kept h x (filter_map h xs))

pub kept-all : {X Y : Type 0} (h : X → Option Y) (xs : List X) → kept_of h [] xs ≡ filter_map h xs
kept-all h xs = kept-on h [] xs
