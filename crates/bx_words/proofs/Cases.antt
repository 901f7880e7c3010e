-- What holds of each mailbox, of each pair of them, and of each route.
use Rattle.std.proofs.Common.{ℕ, zero, suc, ◌<◌, arith}

pub of_mailboxes : (P : ℕ → Type 0) → P 0 → P 1 → P 2 → (j : ℕ) → j < 3 → P j
of_mailboxes P a b c zero h = a
of_mailboxes P a b c (suc zero) h = b
of_mailboxes P a b c (suc (suc zero)) h = c
of_mailboxes P a b c (suc (suc (suc j))) h = absurd (omega arith)

pub of_pairs : (P : ℕ → ℕ → Type 0) → P 0 1 → P 0 2 → P 1 2 → (i j : ℕ) → i < j → j < 3 → P i j
of_pairs P a b c zero zero l h = absurd (omega arith)
of_pairs P a b c zero (suc zero) l h = a
of_pairs P a b c zero (suc (suc zero)) l h = b
of_pairs P a b c zero (suc (suc (suc j))) l h = absurd (omega arith)
of_pairs P a b c (suc zero) zero l h = absurd (omega arith)
of_pairs P a b c (suc zero) (suc zero) l h = absurd (omega arith)
of_pairs P a b c (suc zero) (suc (suc zero)) l h = c
of_pairs P a b c (suc zero) (suc (suc (suc j))) l h = absurd (omega arith)
of_pairs P a b c (suc (suc i)) j l h = absurd (omega arith)

pub of_routes : (P : ℕ → Type 0) → P 0 → P 1 → P 2 → P 3 → P 4 → P 5 → P 6 → P 7 → (r : ℕ) → r < 8 → P r
of_routes P a b c d e f g h zero l = a
of_routes P a b c d e f g h (suc zero) l = b
of_routes P a b c d e f g h (suc (suc zero)) l = c
of_routes P a b c d e f g h (suc (suc (suc zero))) l = d
of_routes P a b c d e f g h (suc (suc (suc (suc zero)))) l = e
of_routes P a b c d e f g h (suc (suc (suc (suc (suc zero))))) l = f
of_routes P a b c d e f g h (suc (suc (suc (suc (suc (suc zero)))))) l = g
of_routes P a b c d e f g h (suc (suc (suc (suc (suc (suc (suc zero))))))) l = h
of_routes P a b c d e f g h (suc (suc (suc (suc (suc (suc (suc (suc r)))))))) l = absurd (omega arith)
