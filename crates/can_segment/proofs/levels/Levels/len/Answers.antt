use Rattle.std.proofs.Common.{length, arith, ap, ◌%◌}
use Rattle.can_segment.proofs.PackedLevels.{length-levels_of_words}
use Rattle.can_segment.proofs.levels.Levels.len.Goals as goal

pub returns : goal.returns
returns c =
    let a = c.self.inside in
    let same = ap (λ v. length v.items) c.self.view_is in
    omega (arith, same, length-levels_of_words a.words.items (a.len % 64) a.last, c.self.invariant.size)
