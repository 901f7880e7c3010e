-- Turns are counted up to a million.
use Rattle.std.proofs.Common.{◌≡◌, ℕ, min, ◌+◌, ◌<◌, ◌≤◌, inl, inr, if◌then◌else◌, ap, arith, ◌∙◌}
use Rattle.std.proofs.lemmas.Bool.{cases_lt, lt-ltb}
use Rattle.gw_route.specs.Turn.{next_turn}

-- below a million each turn counts
one-more : (turns : ℕ) → turns < 1000000 → next_turn turns ≡ turns + 1
one-more turns few = ap (λ b. if b then turns + 1 else turns) (lt-ltb turns 1000000 few)

-- behind a million the count stays
pub next_of-most : (turns : ℕ) → next_turn (min turns 1000000) ≡ min (turns + 1) 1000000
next_of-most turns = elim (cases_lt turns 1000000) [
  | inl less ↦ (let is : min turns 1000000 ≡ turns = omega (arith, less) in
      let more : turns + 1 ≡ min (turns + 1) 1000000 = omega (arith, less) in
      ap next_turn is ∙ one-more turns less ∙ more)
  | inr all ↦ (let is : min turns 1000000 ≡ 1000000 = omega (arith, all) in
      let more : 1000000 ≡ min (turns + 1) 1000000 = omega (arith, all) in
      ap next_turn is ∙ more)
]

-- one turn behind so many
pub counts_on : (first turns old new : ℕ) → old ≡ min (first + turns) 1000000 → new ≡ next_turn old →
    new ≡ min (first + (turns + 1)) 1000000
counts_on first turns old new is next =
    let same : min (first + turns + 1) 1000000 ≡ min (first + (turns + 1)) 1000000 = omega arith in
    next ∙ ap next_turn is ∙ next_of-most (first + turns) ∙ same
