-- Levels of a spelling of which none stands in the ACK slot.
use Rattle.std.proofs.Common.{◌≢◌, ◌⊎◌, inl, inr, ℕ, zero, suc, ◌+◌, ◌<◌, ◌≤◌, true, length, take, refl, sym}
use Rattle.std.proofs.Common.{arith, drop, subst}
use Rattle.std.proofs.lemmas.List.{drop_more}
use Rattle.can_frame.specs.declared.spelling.Spelling.{Spelling}
use Rattle.can_frame.specs.Sending.{StandAhead}

-- so many levels from this place on are before the slot, or behind it and before the last bit of EOF
abbrev pub AreAhead : ℕ → ℕ → ℕ → Type 0
AreAhead place n size = (place + n + 9 ≤ size) ⊎ ((size < place + 9) × (place + n + 1 ≤ size))

one_ahead : (place n size : ℕ) → AreAhead place (suc n) size →
    (place + 9 ≢ size) × (place + 1 < size) × AreAhead (place + 1) n size
one_ahead place n size (inl before) =
    (λ e. omega (arith, e, before), omega (arith, before), inl (omega (arith, before)))
one_ahead place n size (inr (behind, before)) = (
  λ e. omega (arith, e, behind),
  omega (arith, before),
  inr (omega (arith, behind), omega (arith, before)),
)

pub stand_ahead : (spelling : Spelling) (place n : ℕ) →
    (0 < n → AreAhead place n (length spelling.levels.items)) →
    StandAhead spelling place (take n (drop place spelling.levels.items))
stand_ahead spelling place zero fits = tt
stand_ahead spelling place (suc n) fits =
    let one = one_ahead place n (length spelling.levels.items) (fits (omega arith)) in
    subst (λ xs. StandAhead spelling place (take (suc n) xs))
    (sym (drop_more spelling.levels.items place true (let short = one.1 in omega (arith, short))))
    (one.0, one.1, refl, stand_ahead spelling (place + 1) n (λ more. one.2))
