-- A text made of lines.
use Rattle.std.specs.Prelude.{ℕ, ◌+◌, List, [], ◌∷◌, ◌++◌}

-- these pieces, one after the other, and a line feed
abbrev pub line : List (List ℕ) → List ℕ
line [] = 10 ∷ []
line (piece ∷ pieces) = piece ++ line pieces

-- what is said of each element and its place, one after the other; the first element of the list has this place
abbrev pub lines_from : {A : Type 0} → (ℕ → A → List ℕ) → ℕ → List A → List ℕ
lines_from said place [] = []
lines_from said place (x ∷ xs) = said place x ++ lines_from said (place + 1) xs
