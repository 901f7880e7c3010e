-- The levels of a line, and how words hold them.
use Rattle.std.specs.Prelude.{◌≡◌, ℕ, zero, suc, ◌+◌, ◌*◌, ◌/◌, ◌%◌, ◌^◌, ◌<◌, ◌==◌, ◌++◌}
use Rattle.std.specs.Prelude.{Bool, true, List, [], ◌∷◌, length, replicate}
use Rattle.std.specs.List.{flat_map}

-- the levels at each bit, in order, and for how many in all there is room without a further allocation
pub record LevelsValue : Type 0 where
  pub items : List Bool
  pub capacity : ℕ

-- `count` recessive levels
abbrev pub recessive_levels : ℕ → List Bool
recessive_levels count = replicate count true

-- the levels of the n lowest bits of a word, from the highest of these bits on: 1 is recessive
unfoldable pub levels_of_word : ℕ → ℕ → List Bool
levels_of_word zero word = []
levels_of_word (suc n) word = levels_of_word n (word / 2) ++ (word % 2 == 1) ∷ []

-- the levels of full words, and of the n lowest bits of the word behind them
abbrev pub levels_of_words : List ℕ → ℕ → ℕ → List Bool
levels_of_words words n last = flat_map (levels_of_word 64) words ++ levels_of_word n last

-- `len` levels fill these words and the lowest bits of the last one, whose other bits are 0
pub record ArePacked (words : List ℕ) (last len : ℕ) : Type 0 where
  pub size : 64 * length words + len % 64 ≡ len
  pub rest : last < 2 ^ (len % 64)
