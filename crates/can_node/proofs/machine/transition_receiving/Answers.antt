use Rattle.can_node.proofs.Advancing.{reading_advances}
use Rattle.can_node.proofs.machine.transition_receiving.Goals as goal

pub returns : goal.returns
returns c may_begin old new spelling now push = record {
  transition = c.after_taking-transition.result;
  errors = c.state-errors.result;
  shows = c.state-errors.ensures.counted;
  advances = reading_advances c.args.start may_begin c.args.stage old new spelling now c.state-errors.result
      c.args.level c.args.step c.after_taking-transition.result push c.after_taking-transition.ensures.goes;
  is_made = c.make.ensures;
}
