use Rattle.can_node.proofs.Samples.{sof_reading}
use Rattle.can_node.proofs.machine.reader_after_sof.Goals as goal

pub returns-clause-reading : goal.returns-clause-reading
returns-clause-reading c = sof_reading c.new-reader.result c.push-more.new.self c.push-more.result
    c.new-reader.ensures.stands c.new-reader.ensures.reading c.push-more.ensures
