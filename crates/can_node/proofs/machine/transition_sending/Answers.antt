use Rattle.std.proofs.Common.{◌++◌, ◌∷◌, [], subst}
use Rattle.can_frame.specs.Reading.{StandsAfter}
use Rattle.can_node.proofs.Advancing.{sending_advances}
use Rattle.can_node.proofs.machine.transition_sending.Goals as goal

pub returns-then-is_taking : goal.returns-then-is_taking
returns-then-is_taking c now = record {
  transition = c.after_sending-transition.result;
  errors = c.state-errors.result;
  shows = c.state-errors.ensures.counted;
  advances = sending_advances c.args.position.start c.args.position.place c.args.reader.now c.read_behind.new.reader
      c.args.spelling.now now c.state-errors.result c.args.level c.after_sending-transition.result
      c.after_sending-transition.ensures.goes
      c.after_sending-transition.ensures.lost
      (λ is. subst (λ t. StandsAfter c.read_behind.new.reader (t ++ c.args.level ∷ []))
      c.before-then-is_taking.ensures c.read_behind.ensures);
  is_made = c.make.ensures;
}

pub returns : goal.returns
returns c now = record {
  transition = c.after_sending-transition.result;
  errors = c.state-errors.result;
  shows = c.state-errors.ensures.counted;
  advances = sending_advances c.args.position.start c.args.position.place c.args.reader.now c.args.reader.now c.args.spelling.now now
      c.state-errors.result c.args.level c.after_sending-transition.result c.after_sending-transition.ensures.goes
      c.after_sending-transition.ensures.lost (λ is. absurd (cc (is, c.is_taking.ensures, c.if-is_taking.false)));
  is_made = c.make-2.ensures;
}
