use Rattle.can_frame.proofs.Nexts.{data_read, stuff_read}
use Rattle.can_frame.proofs.reader.Reader.may_read_on.Goals as goal

pub returns-then-wants_data : goal.returns-then-wants_data
returns-then-wants_data c is =
    data_read c.args.self.now c.push.new.self c.args.level (c.wants_data.ensures.wants is) c.push.ensures.ends

pub returns-else-wants_data : goal.returns-else-wants_data
returns-else-wants_data c is =
    stuff_read c.args.self.now c.push.new.self c.args.level (c.wants_stuff_bit.ensures.wants is) c.push.ensures.ends
