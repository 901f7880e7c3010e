-- Tables of two entries a number.
use Rattle.std.proofs.Common.{◌≡◌, ℕ, zero, suc, ◌+◌, ◌*◌, ◌<◌, List, [], ◌∷◌, get_or, arith, add-zero}

-- the entries of `count` numbers from n on
abbrev pub pairs_from : (ℕ → ℕ) → (ℕ → ℕ) → ℕ → ℕ → List ℕ
pairs_from first second zero n = []
pairs_from first second (suc count) n = first n ∷ second n ∷ pairs_from first second count (n + 1)

pub pairs_at : (first second : ℕ → ℕ) (count n i : ℕ) → i < count →
    (get_or (pairs_from first second count n) (i * 2) 0 ≡ first (n + i))
    × (get_or (pairs_from first second count n) (i * 2 + 1) 0 ≡ second (n + i))
pairs_at first second zero n i below = absurd (omega arith)
pairs_at first second (suc count) n zero below = (rw (add-zero n), rw (add-zero n))
pairs_at first second (suc count) n (suc i) below =
    let more = pairs_at first second count (n + 1) i (omega arith) in
    let left : suc i * 2 ≡ suc (suc (i * 2)) = omega arith in
    let right : suc i * 2 + 1 ≡ suc (suc (i * 2 + 1)) = omega arith in
    let same : n + suc i ≡ n + 1 + i = omega arith in
    (rw (left, same) more.0, rw (right, same) more.1)
