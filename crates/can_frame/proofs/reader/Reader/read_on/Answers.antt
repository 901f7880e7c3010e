use Rattle.can_frame.proofs.ReaderLaws.{reads_on}
use Rattle.can_frame.proofs.reader.Reader.read_on.Goals as goal

pub returns : goal.returns
returns c = reads_on c.args.self.now c.push-step.new.self c.args.level c.push-step.result c.requires c.push-step.ensures
