-- None of those passed by is true.
use Rattle.std.proofs.Common.{◌≡◌, drop}
use Rattle.std.specs.List.{position_from}
use Rattle.bx_rx.proofs.bank.first_of.Given as goal

abbrev pub invariant-loop-place : goal.invariant-loop-place
invariant-loop-place l = position_from (λ hit. hit) 0 l.hits ≡ position_from (λ hit. hit) l.place (drop l.place l.hits)
