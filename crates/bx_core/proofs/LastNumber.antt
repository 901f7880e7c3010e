-- The newest number of a list of requests stands at its end.
use Rattle.std.proofs.Common.{◌≡◌, ℕ, suc, ◌-◌, List, [], ◌∷◌, length, Some, ap, ◌∙◌, arith}
use Rattle.std.specs.Prelude.{slice_get}
use Rattle.bx_core.specs.declared.entry.Entry.{Entry}
use Rattle.bx_core.specs.Steps.{last_of}

pub last_of-last : (es : List Entry) (e : Entry) (n : ℕ) → Some e ≡ slice_get es (length es - 1) →
    last_of n es ≡ e.number
last_of-last [] e n is = cc
last_of-last (x ∷ []) e n is = cc
last_of-last (x ∷ y ∷ ys) e n is =
    let place : length (x ∷ y ∷ ys) - 1 ≡ suc (length (y ∷ ys) - 1) = omega arith in
    last_of-last (y ∷ ys) e x.number (is ∙ ap (slice_get (x ∷ y ∷ ys)) place)
