use Rattle.std.proofs.Common.{arith, ap, ◌∙◌}
use Rattle.can_frame.specs.declared.reader.Place.TheVariants.{AfterBody}
use Rattle.can_frame.proofs.Nexts.{tail_goes_on, tail_few, tail_ends}
use Rattle.can_frame.proofs.reader.Reader.push_tail.Goals as goal
use Rattle.can_frame.proofs.reader.Reader.push_tail.Goals.{in-Tail, then-seen-lt8, else-seen-lt8, in_default}

pub returns : goal.returns
returns c text h =
    let next = c.tail_step-step.ensures text h in
    elim c.match-step.branch [
      | in-Tail w ↦ elim w.if-seen-lt8.branch [
        | then-seen-lt8 v ↦ tail_goes_on c.tail_step-step.result c.args.frame c.args.right c.args.seen text c.args.level
            _ w.in-Tail.is
            (w.self-is ∙ ap (AfterBody c.args.frame c.args.right) v.self-is) next
        | else-seen-lt8 v ↦
            absurd
            (omega (
              arith,
              tail_few c.tail_step-step.result c.args.frame c.args.right c.args.seen text c.args.level
                  w.in-Tail.is next,
              v.if-seen-lt8.false,
            ))
      ]
      | in_default w ↦ tail_ends c.tail_step-step.result c.args.frame c.args.right c.args.seen text c.args.level _
          w.in_default.not-Tail w.self-is h next
    ]
