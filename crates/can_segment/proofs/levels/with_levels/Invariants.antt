use Rattle.std.proofs.Common.{◌≡◌, ℕ, ◌+◌, ◌*◌, ◌^◌, ◌≤◌, ◌++◌, take}
use Rattle.can_segment.specs.Levels.{levels_of_word}
use Rattle.can_segment.proofs.levels.with_levels.Given as goal

abbrev pub invariant-loop-level : goal.invariant-loop-level
invariant-loop-level l = record {
  room : l.word + 1 ≤ (l.fn.word + 1) * 2 ^ l.level-index;
  levels : (n : ℕ) → levels_of_word (n + l.level-index) l.word
      ≡ levels_of_word n l.fn.word ++ take l.level-index l.levels;
}
