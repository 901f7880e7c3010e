use Rattle.can_frame.proofs.Nexts.{told_push}
use Rattle.can_frame.proofs.reader.Reader.push_any.Goals as goal

pub returns : goal.returns
returns c = told_push c.args.self.now c.answer-self.new.self c.args.level c.answer-self.result c.answer-self.ensures
