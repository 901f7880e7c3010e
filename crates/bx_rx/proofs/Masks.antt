-- Two numbers agree under a mask exactly where they agree at each bit of it.
use Rattle.std.proofs.Common.{◌≡◌, ℕ, zero, suc, ◌<◌, refl, sym, ap, ◌∙◌, bit_and, min, arith}
use Rattle.std.specs.Int.{bit_at}
use Rattle.std.proofs.lemmas.Nat.Bits.{bit_at_and, bit_at-lt, same_from_bits}

min_agree : (a b m : ℕ) → m ≡ 1 → a < 2 → b < 2 → min a m ≡ min b m → a ≡ b
min_agree a b m one la lb e = omega arith

agree_min : (a b m : ℕ) → m < 2 → (m ≡ 1 → a ≡ b) → min a m ≡ min b m
agree_min a b zero lm h = omega arith
agree_min a b (suc zero) lm h = ap (λ n. min n 1) (h refl)
agree_min a b (suc (suc m)) lm h = absurd (omega arith)

pub bits_agree : (image identifier mask : ℕ) → bit_and image mask ≡ bit_and identifier mask → (bit : ℕ) →
    bit_at mask bit ≡ 1 → bit_at image bit ≡ bit_at identifier bit
bits_agree image identifier mask e bit one =
    min_agree (bit_at image bit) (bit_at identifier bit) (bit_at mask bit) one (bit_at-lt image bit)
    (bit_at-lt identifier bit)
    (sym (bit_at_and image mask bit) ∙ ap (λ n. bit_at n bit) e ∙ bit_at_and identifier mask bit)

pub masks_agree : (image identifier mask : ℕ) →
    ((bit : ℕ) → bit_at mask bit ≡ 1 → bit_at image bit ≡ bit_at identifier bit) →
    bit_and image mask ≡ bit_and identifier mask
masks_agree image identifier mask h = same_from_bits (bit_and image mask) (bit_and identifier mask) (λ bit.
    bit_at_and image mask bit
    ∙ agree_min (bit_at image bit) (bit_at identifier bit) (bit_at mask bit) (bit_at-lt mask bit) (h bit)
    ∙ sym (bit_at_and identifier mask bit))
