use Rattle.std.proofs.Common.{ap, ◌+◌, ◌∙◌}
use Rattle.can_segment.specs.Levels.{levels_of_word}
use Rattle.can_segment.proofs.PackedLevels.{more_recessive, shifted}
use Rattle.can_segment.proofs.levels.with_recessive.Goals as goal

pub returns-clause-levels : goal.returns-clause-levels
returns-clause-levels c = λ n.
    ap (levels_of_word (n + c.args.count)) (shifted c.args.word c.args.count c.requires.count c.requires.room)
    ∙ more_recessive n c.args.count c.args.word
