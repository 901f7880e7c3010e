use Rattle.std.proofs.Common.{◌≡◌, take}
use Rattle.can_frame.specs.Reading.{GoesOnWithAll, ReadsOnBy, read_behind_all}
use Rattle.can_frame.proofs.reader.Reader.reads_on_by.Given as goal

abbrev pub invariant-loop-place : goal.invariant-loop-place
invariant-loop-place l = record {
  on : ReadsOnBy l.fn.self (take l.place l.levels) l.self;
  goes : GoesOnWithAll l.fn.self (take l.place l.levels);
  value : l.self ≡ read_behind_all l.fn.self (take l.place l.levels);
}
