-- Keys in their mailboxes are in a total order, the order of priority by identifier.
use Rattle.std.proofs.Common.{◌≡◌, ℕ, true, false, arith}
use Rattle.std.proofs.lemmas.Bool.Decides.{nat_tests}
use Rattle.bx_core.specs.Priority.{comes_before}

pub comes_before-self : (a m : ℕ) → comes_before a m a m ≡ true
comes_before-self a m = grind (arith, nat_tests)

pub comes_before-on : (a m b n c k : ℕ) → comes_before a m b n ≡ true → comes_before b n c k ≡ true →
    comes_before a m c k ≡ true
comes_before-on a m b n c k h g = grind (arith, nat_tests)

pub comes_before-other : (a m b n : ℕ) → comes_before a m b n ≡ false → comes_before b n a m ≡ true
comes_before-other a m b n h = grind (arith, nat_tests)
