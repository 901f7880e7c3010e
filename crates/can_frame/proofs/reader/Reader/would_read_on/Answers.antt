use Rattle.std.proofs.Common.{subst}
use Rattle.can_frame.specs.Reading.{IsPush}
use Rattle.can_frame.proofs.ReaderLaws.{may_not}
use Rattle.can_frame.proofs.reader.Reader.would_read_on.Goals as goal

pub returns-in_default : goal.returns-in_default
returns-in_default c =
    let made =
    subst (λ reader. IsPush reader c.args.level c.push.result c.push.new.self) c.copy.ensures c.push.ensures in
    record {
      on = λ is. absurd (cc is);
      other = λ is. may_not c.args.self.now c.push.new.self c.args.level c.push.result made c.in_default.not-More
          c.in_default.not-StuffBit;
    }
