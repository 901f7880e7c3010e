-- Levels of the bus: false is dominant (0), true is recessive (1). Bosch CAN Specification 2.0, part B,
-- 2 BASIC CONCEPTS, Bus values. A text is a list of levels in the order of the bus.
use Rattle.std.specs.Prelude.{ℕ, zero, suc, Bool, ◌==◌, List, [], ◌∷◌}
use Rattle.std.specs.Int.{bit_at}

-- the lowest `width` bits of n, the most significant first, as every field of a frame is sent
unfoldable pub levels : ℕ → ℕ → List Bool
levels zero n = []
levels (suc width) n = (bit_at n width == 1) ∷ levels width n
