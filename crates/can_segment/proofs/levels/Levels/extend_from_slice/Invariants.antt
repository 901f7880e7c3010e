use Rattle.std.proofs.Common.{◌≡◌, List, Bool, ◌*◌, ◌-◌, ◌≤◌, ◌^◌, ◌++◌, length, min, vec_capacity}
use Rattle.can_segment.proofs.PackedLevels.{Hold}
use Rattle.can_segment.proofs.levels.Levels.extend_from_slice.Given as goal

abbrev pub invariant-loop-missing : goal.invariant-loop-missing
invariant-loop-missing l = record {
  some : 1 ≤ l.missing;
  most : l.missing ≤ 64;
  done : List Bool;
  split : done ++ l.rest ≡ l.levels;
  hold : Hold l.self-inside.words.items (64 - l.missing) l.word (l.fn.self.items ++ done);
  capacity : min (vec_capacity l.self-inside.words * 64) (2 ^ 64 - 1) ≡ l.fn.self.capacity;
  len : l.self-inside.len ≡ length l.fn.self.items;
}

abbrev pub decreases-loop-missing : goal.decreases-loop-missing
decreases-loop-missing l = length l.rest
